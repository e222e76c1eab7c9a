use Rattle.std.proofs.Common.{◌≡◌, drop}
use Rattle.std.specs.List.{fold}
use Rattle.mlr_stats.specs.Kept.{needs_of, with_needs}
use Rattle.mlr_stats.proofs.needs.Needs.of.Given as goal

-- what is needed so far, with the remaining statistics, is what all need
abbrev pub invariant-loop-accumulator : goal.invariant-loop-accumulator
invariant-loop-accumulator l = fold with_needs l.needs (drop l.accumulator-index l.accumulators) ≡ needs_of l.accumulators
