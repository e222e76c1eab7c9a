use Rattle.std.proofs.Common.{◌≡◌, false, take}
use Rattle.std.specs.List.{list_any}
use Rattle.mlr_record.specs.Fields.{has_name}
use Rattle.verbs_base.proofs.extraction.place_of.Given as goal

abbrev pub invariant-loop-place : goal.invariant-loop-place
invariant-loop-place l = list_any (has_name l.name) (take l.place l.fields) ≡ false
