use Rattle.std.proofs.Common.{◌≡◌, length}
use Rattle.mlr_value.specs.Stops.{has_stop}
use Rattle.mlr_value.proofs.stops.has_stop.Given as goal

abbrev pub invariant-loop-rest : goal.invariant-loop-rest
invariant-loop-rest l = has_stop l.stops l.rest ≡ has_stop l.stops l.text

abbrev pub decreases-loop-rest : goal.decreases-loop-rest
decreases-loop-rest l = length l.rest
