use Rattle.std.proofs.Common.{sym, ap, ◌∙◌, subst, Some, None}
use Rattle.mlr_spec.specs.Pairs.{value_at}
use Rattle.mlr_value.specs.Value.{tree_of}
use Rattle.mlr_record.specs.Fields.{IsPlaceOf}
use Rattle.mlr_record.proofs.Places.{value_at-absent, value_at-place}
use Rattle.mlr_record.proofs.record.Record.get.Goals as goal

pub returns-in_err-place : goal.returns-in_err-place
returns-in_err-place c =
    let key = c.args.key.now in
    let absent = subst (λ fields. IsPlaceOf key fields None) c.deref.ensures.value c.in_err-place.ensures in
    rw c.from_residual.ensures (sym (ap (value_at key) (sym c.self.view_is) ∙ value_at-absent key c.self.inside.fields.items absent))

pub returns : goal.returns
returns c =
    let key = c.args.key.now in
    let fields = c.self.inside.fields.items in
    let i = c.in_ok-place.place in
    let f = c.index.result.now in
    let place = subst (λ fields. IsPlaceOf key fields (Some i)) c.deref.ensures.value c.in_ok-place.ensures in
    ap (λ g. Some (tree_of g.value)) c.index.ensures
    ∙ sym (ap (value_at key) (sym c.self.view_is) ∙ value_at-place key fields i f place.0 place.1 (place.2 f))
