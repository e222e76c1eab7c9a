use Rattle.std.proofs.Common.{◌≡◌, ◌∷◌, true, ap, sym, ◌∙◌, subst, None}
use Rattle.mlr_spec.specs.Pairs.{remove_at, keys_of, are_distinct}
use Rattle.mlr_spec.proofs.Pairs.{are_distinct-first}
use Rattle.mlr_value.specs.Value.{tree_of}
use Rattle.mlr_record.specs.Fields.{IsPlaceOf, pairs_of}
use Rattle.mlr_record.proofs.Edits.{put-first-lent, remove_at-absent}
use Rattle.mlr_record.proofs.record.Record.put_first.Goals as goal
use Rattle.mlr_record.proofs.record.Record.put_first.Goals.{In_ok-insert}

abbrev inserted : (c : In_ok-insert) →
    pairs_of c.insert.new.self.items ≡ (c.args.key.now, tree_of c.args.value) ∷ remove_at c.args.key.now (pairs_of c.self.inside.fields.items)
inserted c =
    let fields = c.self.inside.fields.items in
    let absent = subst (λ fields. IsPlaceOf c.args.key.now fields None) c.deref.ensures.value c.in_default.ensures in
    ap pairs_of c.in_ok-insert.ensures.items ∙ ap (λ name. (name, tree_of c.args.value) ∷ pairs_of fields) c.in_ok-name.ensures.copied
    ∙ ap (λ pairs. (c.args.key.now, tree_of c.args.value) ∷ pairs) (sym (remove_at-absent c.args.key.now fields absent))

pub invariant_of-self : goal.invariant_of-self
invariant_of-self c =
    let moved = put-first-lent c.args.key.now c.args.value c.self.inside.fields c.in-Some.place c.index_mut.result.now _ _ c.move_first.new.fields c.deref.ensures.value c.in-Some.ensures c.index_mut.ensures.value c.deref_mut.ensures.value c.deref_mut.ensures.len c.move_first.ensures.moved c.move_first.ensures.len in
    subst (λ pairs. are_distinct (keys_of pairs) ≡ true) (sym moved) (are_distinct-first c.args.key.now (tree_of c.args.value) (pairs_of c.self.inside.fields.items) c.self.invariant)

pub invariant_of-self-2 : goal.invariant_of-self-2
invariant_of-self-2 c =
    subst (λ pairs. are_distinct (keys_of pairs) ≡ true) (sym (inserted c)) (are_distinct-first c.args.key.now (tree_of c.args.value) (pairs_of c.self.inside.fields.items) c.self.invariant)

pub returns-in-Some : goal.returns-in-Some
returns-in-Some c =
    let moved = put-first-lent c.args.key.now c.args.value c.self.inside.fields c.in-Some.place c.index_mut.result.now _ _ c.move_first.new.fields c.deref.ensures.value c.in-Some.ensures c.index_mut.ensures.value c.deref_mut.ensures.value c.deref_mut.ensures.len c.move_first.ensures.moved c.move_first.ensures.len in
    moved ∙ ap (λ pairs. (c.args.key.now, tree_of c.args.value) ∷ remove_at c.args.key.now pairs) c.self.view_is

pub returns : goal.returns
returns c = inserted c ∙ ap (λ pairs. (c.args.key.now, tree_of c.args.value) ∷ remove_at c.args.key.now pairs) c.self.view_is
