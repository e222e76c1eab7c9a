use Rattle.std.proofs.Common.{sym}
use Rattle.mlr_record.specs.NodeView.{node_of}
use Rattle.mlr_record.proofs.Unflattening.{positions-more, positions-end}
use Rattle.mlr_record.proofs.unflatten.is_array.Goals as goal

pub returns-then-not-is_position : goal.returns-then-not-is_position
returns-then-not-is_position c =
    sym (positions-end c.args.nodes.now c.loop-place.place c.entry.result.0.now (node_of c.entry.result.1.now) c.entry.ensures c.loop-place.invariant (sym c.if-not-is_position.ensures))

pub loop-place-preserved : goal.loop-place-preserved
loop-place-preserved c =
    positions-more c.args.nodes.now c.loop-place.place c.entry.result.0.now (node_of c.entry.result.1.now) c.entry.ensures c.loop-place.invariant (sym c.if-not-is_position.ensures)
