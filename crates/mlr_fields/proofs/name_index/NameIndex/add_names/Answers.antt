use Rattle.std.proofs.Common.{◌++◌, ◌∷◌, [], ap, ◌∙◌}
use Rattle.mlr_value.specs.Value.{tree_of}
use Rattle.mlr_event.specs.Reading.{is_among}
use Rattle.mlr_fields.proofs.Building.{keys-to-place, new-at-place}
use Rattle.mlr_fields.proofs.name_index.NameIndex.add_names.Goals as goal

pub push-requires : goal.push-requires
push-requires c =
    let name = c.entry.result.0.now in
    ap (λ names. is_among names name) c.loop-place.invariant
    ∙ new-at-place c.args.record.now c.loop-place.place (name, tree_of c.entry.result.1.now) c.len-place-end.ensures.distinct c.entry.ensures

pub loop-place-preserved : goal.loop-place-preserved
loop-place-preserved c =
    let name = c.entry.result.0.now in
    c.in_ok-push.ensures ∙ ap (λ names. names ++ name ∷ []) c.loop-place.invariant
    ∙ keys-to-place c.args.record.now c.loop-place.place (name, tree_of c.entry.result.1.now) c.entry.ensures
