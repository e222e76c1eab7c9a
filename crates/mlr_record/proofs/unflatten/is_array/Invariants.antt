use Rattle.std.proofs.Common.{◌≡◌, ◌+◌, drop}
use Rattle.mlr_spec.specs.Flatten.{finished_pairs, are_positions_from}
use Rattle.mlr_record.specs.Nodes.{nodes_of}
use Rattle.mlr_record.proofs.unflatten.is_array.Given as goal

abbrev pub invariant-loop-place : goal.invariant-loop-place
invariant-loop-place l = are_positions_from (l.place + 1) (finished_pairs (nodes_of (drop l.place l.nodes))) ≡ are_positions_from 1 (finished_pairs (nodes_of l.nodes))
