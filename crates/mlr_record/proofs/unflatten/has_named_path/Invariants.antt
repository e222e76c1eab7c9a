use Rattle.std.proofs.Common.{◌≡◌, drop}
use Rattle.std.specs.List.{list_any}
use Rattle.mlr_record.specs.NamedPaths.{is_unflattened_named}
use Rattle.mlr_record.proofs.unflatten.has_named_path.Given as goal

abbrev pub invariant-loop-place : goal.invariant-loop-place
invariant-loop-place l = list_any (is_unflattened_named l.separator l.names) (drop l.place l.from) ≡ list_any (is_unflattened_named l.separator l.names) l.from
