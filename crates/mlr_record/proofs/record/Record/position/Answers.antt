use Rattle.std.proofs.Common.{ap, ◌∙◌, subst}
use Rattle.mlr_spec.specs.Pairs.{place_at}
use Rattle.mlr_record.specs.Fields.{IsPlaceOf}
use Rattle.mlr_record.proofs.Edits.{place_at-found}
use Rattle.mlr_record.proofs.record.Record.position.Goals as goal

pub returns : goal.returns
returns c =
    let key = c.args.key.now in
    let place = subst (λ fields. IsPlaceOf key fields c.place_of.result) c.deref.ensures.value c.place_of.ensures in
    place_at-found key c.self.inside.fields.items c.place_of.result place ∙ ap (place_at key) c.self.view_is
