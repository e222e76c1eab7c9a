use Rattle.std.proofs.Common.{◌∙◌}
use Rattle.mlr_spec.proofs.Flattening.{fields-more}
use Rattle.mlr_value.specs.Value.{tree_of}
use Rattle.mlr_record.proofs.flatten.put_fields.Goals as goal

pub loop-place-preserved : goal.loop-place-preserved
loop-place-preserved c =
    fields-more c.args.separator.now c.loop-place.into c.put_leaves.new.into c.loop-place.place c.args.from.now c.entry.result.0.now (tree_of c.entry.result.1.now) c.entry.ensures c.in_ok-put_leaves.ensures
    ∙ c.loop-place.invariant
