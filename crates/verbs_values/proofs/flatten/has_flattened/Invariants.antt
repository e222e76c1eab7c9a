use Rattle.std.proofs.Common.{◌≡◌, drop}
use Rattle.std.specs.List.{list_any}
use Rattle.mlr_event.specs.Reading.{is_among}
use Rattle.verbs_values.specs.Flatten.{is_flattened}
use Rattle.verbs_values.proofs.flatten.has_flattened.Given as goal

abbrev pub invariant-loop-place : goal.invariant-loop-place
invariant-loop-place l = list_any (is_flattened (is_among l.names)) (drop l.place l.from) ≡ list_any (is_flattened (is_among l.names)) l.from
