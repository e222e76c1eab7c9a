use Rattle.std.proofs.Common.{◌≡◌, true, false, ap, sym, ◌∙◌, subst, Some, None, is_some}
use Rattle.std.specs.Str.{bytes_eq}
use Rattle.mlr_spec.specs.Pairs.{value_at, rename_at, keys_of, are_distinct}
use Rattle.mlr_spec.proofs.Pairs.{are_distinct-rename}
use Rattle.mlr_record.specs.Fields.{IsPlaceOf, IsRenamed, pairs_of}
use Rattle.mlr_record.proofs.Edits.{value_at-found, rename_at-found, rename_at-absent}
use Rattle.mlr_record.proofs.record.Record.rename.Goals as goal
use Rattle.mlr_record.proofs.record.Record.rename.Goals.{In_default, After-self-1}

abbrev absent : (c : In_default) → IsPlaceOf c.args.old.now c.self.inside.fields.items None
absent c = subst (λ fields. IsPlaceOf c.args.old.now fields None) c.deref.ensures.value c.in_default.ensures

abbrev found : (c : After-self-1) → IsPlaceOf c.args.old.now c.self.inside.fields.items (Some c.in-Some.place)
found c = subst (λ fields. IsPlaceOf c.args.old.now fields (Some c.in-Some.place)) c.deref.ensures.value c.in-Some.ensures

abbrev renamed : (c : After-self-1) → pairs_of c.give_name.new.fields.items ≡ rename_at c.args.old.now c.args.new.now (pairs_of c.self.inside.fields.items)
renamed c =
    let old = c.args.old.now in
    let new = c.args.new.now in
    let fields = c.self.inside.fields.items in
    let apart : bytes_eq old new ≡ false = sym c.if-eq.ensures in
    let given = subst (λ name. IsRenamed name c.in-Some.place fields c.give_name.new.fields.items) c.in_ok-name.ensures.copied c.give_name.ensures in
    given old (found c) apart ∙ sym (rename_at-found old new fields c.in-Some.place apart (found c))

pub returns-in_default-clause-found : goal.returns-in_default-clause-found
returns-in_default-clause-found c =
    let old = c.args.old.now in
    value_at-found old c.self.inside.fields.items None (absent c) ∙ ap (λ pairs. is_some (value_at old pairs)) c.self.view_is

pub returns-in_default-clause-renamed : goal.returns-in_default-clause-renamed
returns-in_default-clause-renamed c =
    let old = c.args.old.now in
    let new = c.args.new.now in
    sym c.self.view_is ∙ sym (rename_at-absent old new c.self.inside.fields.items (absent c)) ∙ ap (rename_at old new) c.self.view_is

pub returns-then-eq-clause-found : goal.returns-then-eq-clause-found
returns-then-eq-clause-found c =
    let old = c.args.old.now in
    let place = subst (λ fields. IsPlaceOf old fields (Some c.in-Some.place)) c.deref.ensures.value c.in-Some.ensures in
    value_at-found old c.self.inside.fields.items (Some c.in-Some.place) place ∙ ap (λ pairs. is_some (value_at old pairs)) c.self.view_is

pub invariant_of-self : goal.invariant_of-self
invariant_of-self c =
    subst (λ pairs. are_distinct (keys_of pairs) ≡ true) (sym (renamed c)) (are_distinct-rename c.args.old.now c.args.new.now (pairs_of c.self.inside.fields.items) c.self.invariant)

pub returns-clause-found : goal.returns-clause-found
returns-clause-found c =
    let old = c.args.old.now in
    value_at-found old c.self.inside.fields.items (Some c.in-Some.place) (found c) ∙ ap (λ pairs. is_some (value_at old pairs)) c.self.view_is

pub returns-clause-renamed : goal.returns-clause-renamed
returns-clause-renamed c = renamed c ∙ ap (rename_at c.args.old.now c.args.new.now) c.self.view_is
