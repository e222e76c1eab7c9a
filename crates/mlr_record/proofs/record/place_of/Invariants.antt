use Rattle.std.proofs.Common.{◌≡◌, false, take}
use Rattle.std.specs.List.{list_any}
use Rattle.mlr_record.specs.Fields.{has_name}
use Rattle.mlr_record.proofs.record.place_of.Given as goal

abbrev pub invariant-loop-place : goal.invariant-loop-place
invariant-loop-place l = list_any (has_name l.key) (take l.place l.fields) ≡ false
