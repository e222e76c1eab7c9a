use Rattle.std.proofs.Common.{◌≡◌, drop}
use Rattle.mlr_spec.specs.Flatten.{no_nodes}
use Rattle.mlr_record.specs.Nodes.{nodes_of}
use Rattle.mlr_record.specs.NamedPaths.{put_named}
use Rattle.mlr_record.proofs.unflatten.put_named_fields.Given as goal

abbrev pub invariant-loop-place : goal.invariant-loop-place
invariant-loop-place l = put_named l.separator l.names (nodes_of l.into) (drop l.place l.from) ≡ put_named l.separator l.names no_nodes l.from
