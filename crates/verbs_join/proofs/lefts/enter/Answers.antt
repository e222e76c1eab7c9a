use Rattle.std.proofs.Common.{◌≡◌, ◌+◌, ◌≤◌, ◌<◌, [], ◌∷◌, ◌++◌, length, take, set, Some, slice_get, subst, ap, sym, ◌∙◌, arith}
use Rattle.std.proofs.lemmas.List.{take_more}
use Rattle.std.proofs.lemmas.Option.{slice_get-get_or}
use Rattle.mlr_groups.specs.Grouping.{IsGroupPlace}
use Rattle.mlr_groups.specs.Represents.{GroupsOf}
use Rattle.mlr_groups.specs.declared.group_by.GroupBy.TheVariants.{Texts}
use Rattle.verbs_join.specs.Places.{in_buckets}
use Rattle.verbs_join.specs.Represents.{of_each_group}
use Rattle.verbs_join.proofs.Entering.{enters-known, enters-new, enters-none}
use Rattle.verbs_join.proofs.lefts.enter.Goals as goal
use Rattle.verbs_join.proofs.lefts.enter.Goals.{In_ok-group}

-- the record at the place
here : (c : In_ok-group) → slice_get c.args.records.now c.args.place ≡ Some c.index-records-place.result
here c = slice_get-get_or c.args.records.now c.args.place c.index-records-place.result c.requires ∙ ap Some (sym c.index-records-place.is)

more : (c : In_ok-group) → take (c.args.place + 1) c.args.records.now ≡ take c.args.place c.args.records.now ++ c.index-records-place.result ∷ []
more c =
    take_more c.args.records.now c.args.place c.index-records-place.result c.requires
    ∙ ap (λ left. take c.args.place c.args.records.now ++ left ∷ []) (sym c.index-records-place.is)

pub returns-in_default : goal.returns-in_default
returns-in_default c = λ names indexed.
    let lefts = c.args.records.now in
    let before = take c.args.place lefts in
    let buckets = c.args.buckets.now.items in
    let left = c.index-records-place.result in
    let none = subst (λ place. IsGroupPlace (Texts names) (before ++ left ∷ []) left place) c.in_default.is (c.in_ok-group.ensures.place (Texts names) before indexed.0) in
    subst (λ before. GroupsOf (Texts names) before c.enter.new.self × (in_buckets lefts buckets ≡ of_each_group names before)) (sym (more (goal.at.returns-in_default c).In_ok-group))
    (c.in_ok-group.ensures.represents (Texts names) before indexed.0, enters-none names lefts before buckets indexed.1 left none)

pub returns-in_ok-push : goal.returns-in_ok-push
returns-in_ok-push c = λ names indexed.
    let lefts = c.args.records.now in
    let before = take c.args.place lefts in
    let buckets = c.args.buckets.now.items in
    let left = c.index-records-place.result in
    let p = c.in-Some.group in
    let at = subst (λ place. IsGroupPlace (Texts names) (before ++ left ∷ []) left place) c.in-Some.is (c.in_ok-group.ensures.place (Texts names) before indexed.0) in
    let below : p < length buckets = omega (arith, c.len.ensures, c.if-group-len.true) in
    let old = c.index_mut.result.now in
    subst (λ before. GroupsOf (Texts names) before c.enter.new.self × (in_buckets lefts (set buckets p c.push.new.self) ≡ of_each_group names before)) (sym (more (goal.at.returns-in_ok-push c).In_ok-group)) (
      c.in_ok-group.ensures.represents (Texts names) before indexed.0,
      enters-known names lefts before buckets indexed.1 left c.args.place (here (goal.at.returns-in_ok-push c).In_ok-group) p at below old.items old c.push.new.self
          (ap (λ bucket. bucket.items) c.index_mut.ensures.value) c.in_ok-push.ensures.items,
    )

pub returns-in_ok-push-2 : goal.returns-in_ok-push-2
returns-in_ok-push-2 c = λ names indexed.
    let lefts = c.args.records.now in
    let before = take c.args.place lefts in
    let buckets = c.args.buckets.now.items in
    let left = c.index-records-place.result in
    let p = c.in-Some.group in
    let at = subst (λ place. IsGroupPlace (Texts names) (before ++ left ∷ []) left place) c.in-Some.is (c.in_ok-group.ensures.place (Texts names) before indexed.0) in
    let following : length buckets ≤ p = omega (arith, c.len.ensures, c.if-group-len.false) in
    subst (λ before. GroupsOf (Texts names) before c.enter.new.self × (in_buckets lefts c.push-else-group-len.new.self.items ≡ of_each_group names before)) (sym (more (goal.at.returns-in_ok-push-2 c).In_ok-group)) (
      c.in_ok-group.ensures.represents (Texts names) before indexed.0,
      ap (in_buckets lefts) c.in_ok-push-2.ensures.items
          ∙ enters-new names lefts before buckets indexed.1 left c.args.place (here (goal.at.returns-in_ok-push-2 c).In_ok-group) p at following c.in_ok-bucket_of.field-0 c.in_ok-bucket_of.ensures,
    )
