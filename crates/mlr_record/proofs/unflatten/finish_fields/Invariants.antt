use Rattle.std.proofs.Common.{◌≡◌, ◌++◌, drop}
use Rattle.mlr_spec.specs.Flatten.{finished_pairs}
use Rattle.mlr_record.specs.Nodes.{nodes_of}
use Rattle.mlr_record.proofs.unflatten.finish_fields.Given as goal

abbrev pub invariant-loop-place : goal.invariant-loop-place
invariant-loop-place l = l.into ++ finished_pairs (nodes_of (drop l.place l.nodes)) ≡ finished_pairs (nodes_of l.nodes)
