use Rattle.std.proofs.Common.{◌≡◌, drop}
use Rattle.mlr_spec.specs.Flatten.{no_nodes, put_paths}
use Rattle.mlr_record.specs.Nodes.{nodes_of}
use Rattle.mlr_record.proofs.unflatten.put_fields.Given as goal

abbrev pub invariant-loop-place : goal.invariant-loop-place
invariant-loop-place l = put_paths l.separator (nodes_of l.into) (drop l.place l.from) ≡ put_paths l.separator no_nodes l.from
