use Rattle.std.proofs.Common.{sym, ap, ◌∙◌, subst, Some, None}
use Rattle.std.specs.Option.{option_map}
use Rattle.mlr_record.specs.Fields.{pairs_of, pair_of, IsPlaceOf}
use Rattle.verbs_base.proofs.Places.{named-absent, named-place, remove_at-absent, removed-place}
use Rattle.verbs_base.proofs.extraction.take_field.Goals as goal

pub returns-in_err-place-clause-taken : goal.returns-in_err-place-clause-taken
returns-in_err-place-clause-taken c =
    let absent = subst (λ fields. IsPlaceOf c.args.name.now fields None) c.deref.ensures.value c.in_err-place.ensures in
    ap (option_map pair_of) c.from_residual.ensures ∙ sym (named-absent c.args.name.now c.args.fields.now.items absent)

pub returns-in_err-place-clause-left : goal.returns-in_err-place-clause-left
returns-in_err-place-clause-left c =
    let absent = subst (λ fields. IsPlaceOf c.args.name.now fields None) c.deref.ensures.value c.in_err-place.ensures in
    sym (remove_at-absent c.args.name.now c.args.fields.now.items absent)

pub returns-clause-taken : goal.returns-clause-taken
returns-clause-taken c =
    let i = c.in_ok-place.place in
    let place = subst (λ fields. IsPlaceOf c.args.name.now fields (Some i)) c.deref.ensures.value c.in_ok-place.ensures in
    named-place c.args.name.now c.args.fields.now.items i c.remove.result c.remove.ensures.value place

pub returns-clause-left : goal.returns-clause-left
returns-clause-left c =
    let i = c.in_ok-place.place in
    let place = subst (λ fields. IsPlaceOf c.args.name.now fields (Some i)) c.deref.ensures.value c.in_ok-place.ensures in
    ap pairs_of c.remove.ensures.items ∙ removed-place c.args.name.now c.args.fields.now.items i c.remove.result c.remove.ensures.value place
