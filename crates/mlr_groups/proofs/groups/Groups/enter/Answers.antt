use Rattle.std.proofs.Common.{◌≡◌, List, ◌∷◌, ◌++◌, [], length, map, Some, slice_get, sym, ap, ap₂, ◌∙◌, arith}
use Rattle.std.proofs.lemmas.List.{length-map}
use Rattle.mlr_groups.specs.declared.group_by.GroupBy.{GroupBy}
use Rattle.mlr_groups.specs.declared.group_by.GroupBy.TheVariants as group
use Rattle.mlr_groups.specs.Represents.{GroupsOf}
use Rattle.mlr_groups.specs.Grouping.{Fields, common_in, groups_in}
use Rattle.mlr_groups.specs.Keys.{key_of, entered}
use Rattle.mlr_groups.proofs.Grouping.{group-told, groups-none, keys-entered, none-told, one-group, place-told}
use Rattle.mlr_groups.proofs.groups.Groups.enter.Goals as goal
use Rattle.mlr_groups.proofs.groups.Groups.enter.Goals.{Then-len-gt0}

-- the one group of all records is there already
there : (c : Then-len-gt0) (by : GroupBy) (before : List Fields) → GroupsOf by before c.args.self.now
    → (groups_in by (before ++ c.args.fields.now ∷ []) ≡ groups_in by before) × (common_in by c.args.fields.now ≡ Some []) × (slice_get (groups_in by (before ++ c.args.fields.now ∷ [])) 0 ≡ Some [])
there c by before represents =
    let all : by ≡ group.Texts [] = sym represents.0 ∙ c.is_of_all.ensures c.if-is_of_all.true in
    let keys : length c.args.self.now.table ≡ length (groups_in by before) = ap length represents.1 ∙ length-map (groups_in by before) key_of in
    one-group by before c.args.fields.now all (omega (arith, keys, c.len.ensures.length, c.if-len-gt0.true))

pub returns-then-len-gt0-clause-represents : goal.returns-then-len-gt0-clause-represents
returns-then-len-gt0-clause-represents c = λ by before represents. (represents.0, represents.1 ∙ ap (map key_of) (sym (there (goal.at.returns-then-len-gt0-clause-represents c).Then-len-gt0 by before represents).0))

pub returns-then-len-gt0-clause-place : goal.returns-then-len-gt0-clause-place
returns-then-len-gt0-clause-place c = λ by before represents. (let one = there (goal.at.returns-then-len-gt0-clause-place c).Then-len-gt0 by before represents in ([], one.1, one.2))

pub returns-in_ok-place-clause-represents : goal.returns-in_ok-place-clause-represents
returns-in_ok-place-clause-represents c = λ by before represents. (
    let fields = c.args.fields.now in
    let told = group-told c.clear.new.self c.append_common.new.key (common_in c.args.self.now.by fields) c.in_ok-append_common.field-0 c.clear.ensures c.in_ok-append_common.ensures c.if-branch.true in
    let is = ap (λ b. common_in b fields) (sym represents.0) ∙ told.1 in (
      represents.0,
      c.in_ok-place.ensures.entered ∙ ap₂ entered represents.1 (c.as_slice.ensures ∙ told.2) ∙ keys-entered (common_in by) before fields told.0 is,
    )
    )

pub returns-in_ok-place-clause-place : goal.returns-in_ok-place-clause-place
returns-in_ok-place-clause-place c = λ by before represents. (
    let fields = c.args.fields.now in
    let told = group-told c.clear.new.self c.append_common.new.key (common_in c.args.self.now.by fields) c.in_ok-append_common.field-0 c.clear.ensures c.in_ok-append_common.ensures c.if-branch.true in
    let is = ap (λ b. common_in b fields) (sym represents.0) ∙ told.1 in
    let table = c.in_ok-place.ensures.entered ∙ ap₂ entered represents.1 (c.as_slice.ensures ∙ told.2) ∙ keys-entered (common_in by) before fields told.0 is in (
      told.0,
      is,
      place-told (groups_in by (before ++ fields ∷ [])) c.in_ok-place.place told.0
          (ap (λ keys. slice_get keys c.in_ok-place.place) (sym table) ∙ c.in_ok-place.ensures.place ∙ ap Some (c.as_slice.ensures ∙ told.2)),
    )
    )

pub returns-else-branch-clause-represents : goal.returns-else-branch-clause-represents
returns-else-branch-clause-represents c = λ by before represents. (
    let fields = c.args.fields.now in
    let told = none-told c.clear.new.self c.append_common.new.key (common_in c.args.self.now.by fields) c.in_ok-append_common.field-0 c.in_ok-append_common.ensures c.if-branch.false in
    let none = ap (λ b. common_in b fields) (sym represents.0) ∙ told in
    (represents.0, represents.1 ∙ ap (map key_of) (sym (groups-none (common_in by) before fields none)))
    )
