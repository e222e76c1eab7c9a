use Rattle.std.proofs.Common.{◌∙◌}
use Rattle.mlr_value.specs.Value.{tree_of}
use Rattle.mlr_record.proofs.Unflattening.{paths-more}
use Rattle.mlr_record.proofs.unflatten.put_fields.Goals as goal

pub loop-place-preserved : goal.loop-place-preserved
loop-place-preserved c =
    paths-more c.args.separator.now c.loop-place.into c.put_field.new.into c.args.from.now c.loop-place.place c.entry.result.0.now (tree_of c.entry.result.1.now) c.entry.ensures c.in_ok-put_field.ensures
    ∙ c.loop-place.invariant
