use Rattle.std.proofs.Common.{ℕ, List, ◌∙◌}
use Rattle.mlr_spec.specs.Tree.{Tree}
use Rattle.mlr_value.specs.Value.{tree_of}
use Rattle.mlr_record.specs.Nodes.{nodes_of}
use Rattle.mlr_record.proofs.NamedPaths.{named-more}
use Rattle.mlr_record.proofs.unflatten.put_named_fields.Goals as goal

pub loop-place-preserved : goal.loop-place-preserved
loop-place-preserved c =
    let entry : List ℕ × Tree = (c.entry.result.0.now, tree_of c.entry.result.1.now) in
    named-more c.args.separator.now c.args.names.now (nodes_of c.loop-place.into) (nodes_of c.put_if_named.new.into) c.args.from.now c.loop-place.place entry c.entry.ensures c.in_ok-put_if_named.ensures
    ∙ c.loop-place.invariant
