use Rattle.std.proofs.Common.{◌≡◌, true, ap, sym, ◌∙◌, subst, Some, None, is_some}
use Rattle.mlr_spec.specs.Pairs.{value_at, remove_at, keys_of, are_distinct}
use Rattle.mlr_spec.proofs.Pairs.{are_distinct-remove}
use Rattle.mlr_record.specs.Fields.{IsPlaceOf, pairs_of}
use Rattle.mlr_record.proofs.Edits.{value_at-found, remove_at-found, remove_at-absent}
use Rattle.mlr_record.proofs.record.Record.remove.Goals as goal
use Rattle.mlr_record.proofs.record.Record.remove.Goals.{Joined-remove, In-None}

abbrev found : (c : Joined-remove) → IsPlaceOf c.args.key.now c.self.inside.fields.items (Some c.in-Some.place)
found c = subst (λ fields. IsPlaceOf c.args.key.now fields (Some c.in-Some.place)) c.deref.ensures.value c.in-Some.ensures

abbrev removed : (c : Joined-remove) → pairs_of c.remove.new.self.items ≡ remove_at c.args.key.now (pairs_of c.self.inside.fields.items)
removed c = ap pairs_of c.remove.ensures.items ∙ sym (remove_at-found c.args.key.now c.self.inside.fields.items c.in-Some.place (found c))

abbrev absent : (c : In-None) → IsPlaceOf c.args.key.now c.self.inside.fields.items None
absent c = subst (λ fields. IsPlaceOf c.args.key.now fields None) c.deref.ensures.value c.in-None.ensures

pub invariant_of-self : goal.invariant_of-self
invariant_of-self c =
    subst (λ pairs. are_distinct (keys_of pairs) ≡ true) (sym (removed c)) (are_distinct-remove c.args.key.now (pairs_of c.self.inside.fields.items) c.self.invariant)

pub returns-in-Some-clause-found : goal.returns-in-Some-clause-found
returns-in-Some-clause-found c =
    let key = c.args.key.now in
    value_at-found key c.self.inside.fields.items (Some c.in-Some.place) (found c) ∙ ap (λ pairs. is_some (value_at key pairs)) c.self.view_is

pub returns-in-Some-clause-removed : goal.returns-in-Some-clause-removed
returns-in-Some-clause-removed c = removed c ∙ ap (remove_at c.args.key.now) c.self.view_is

pub returns-in-None-clause-found : goal.returns-in-None-clause-found
returns-in-None-clause-found c =
    let key = c.args.key.now in
    value_at-found key c.self.inside.fields.items None (absent c) ∙ ap (λ pairs. is_some (value_at key pairs)) c.self.view_is

pub returns-in-None-clause-removed : goal.returns-in-None-clause-removed
returns-in-None-clause-removed c =
    let key = c.args.key.now in
    sym c.self.view_is ∙ sym (remove_at-absent key c.self.inside.fields.items (absent c)) ∙ ap (remove_at key) c.self.view_is
