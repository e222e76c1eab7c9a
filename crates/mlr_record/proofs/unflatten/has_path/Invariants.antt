use Rattle.std.proofs.Common.{◌≡◌, drop}
use Rattle.std.specs.List.{list_any}
use Rattle.mlr_record.specs.Paths.{is_unflattened}
use Rattle.mlr_record.proofs.unflatten.has_path.Given as goal

abbrev pub invariant-loop-place : goal.invariant-loop-place
invariant-loop-place l = list_any (is_unflattened l.separator) (drop l.place l.from) ≡ list_any (is_unflattened l.separator) l.from
