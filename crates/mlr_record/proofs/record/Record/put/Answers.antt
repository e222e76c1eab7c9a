use Rattle.std.proofs.Common.{◌≡◌, true, sym, ap, ◌∙◌, subst, set, Some, None}
use Rattle.mlr_spec.specs.Pairs.{put_at, keys_of, are_distinct}
use Rattle.mlr_value.specs.Value.{tree_of}
use Rattle.mlr_record.specs.Fields.{pairs_of, IsPlaceOf}
use Rattle.mlr_record.proofs.Places.{pairs_of-push, pairs_of-set}
use Rattle.mlr_spec.proofs.Pairs.{are_distinct-put}
use Rattle.mlr_record.proofs.record.Record.put.Goals as goal
use Rattle.mlr_record.proofs.record.Record.put.Goals.{Joined-index_mut-value, In_ok-push-in-None}

abbrev written : (c : Joined-index_mut-value) →
    pairs_of (set c.self.inside.fields.items c.in-Some.place (record { name = c.index_mut.result.now.name; value = c.args.value }))
    ≡ put_at c.args.key.now (tree_of c.args.value) (pairs_of c.self.inside.fields.items)
written c =
    let key = c.args.key.now in
    let place = subst (λ fields. IsPlaceOf key fields (Some c.in-Some.place)) c.deref.ensures.value c.in-Some.ensures in
    pairs_of-set key c.args.value c.self.inside.fields.items c.in-Some.place c.index_mut.result.now c.index_mut.ensures.value place

abbrev pushed : (c : In_ok-push-in-None) →
    pairs_of c.push.new.self.items ≡ put_at c.args.key.now (tree_of c.args.value) (pairs_of c.self.inside.fields.items)
pushed c =
    let key = c.args.key.now in
    let fields = c.self.inside.fields.items in
    let absent = subst (λ fields. IsPlaceOf key fields None) c.deref.ensures.value c.in-None.ensures in
    ap pairs_of c.in_ok-push-in-None.ensures.items ∙ pairs_of-push key c.args.value fields c.in_ok-name-in-None.name c.in_ok-name-in-None.ensures.copied absent

pub invariant_of-self : goal.invariant_of-self
invariant_of-self c =
    subst (λ pairs. are_distinct (keys_of pairs) ≡ true) (sym (written c)) (are_distinct-put c.args.key.now (tree_of c.args.value) (pairs_of c.self.inside.fields.items) c.self.invariant)

pub invariant_of-self-in-None : goal.invariant_of-self-in-None
invariant_of-self-in-None c =
    subst (λ pairs. are_distinct (keys_of pairs) ≡ true) (sym (pushed c)) (are_distinct-put c.args.key.now (tree_of c.args.value) (pairs_of c.self.inside.fields.items) c.self.invariant)

pub returns-in-Some : goal.returns-in-Some
returns-in-Some c = written c ∙ ap (put_at c.args.key.now (tree_of c.args.value)) c.self.view_is

pub returns-in_ok-push-in-None : goal.returns-in_ok-push-in-None
returns-in_ok-push-in-None c = pushed c ∙ ap (put_at c.args.key.now (tree_of c.args.value)) c.self.view_is
