use Rattle.std.proofs.Common.{◌≡◌, take}
use Rattle.verbs_summary.proofs.stats1.copy_of.Given as goal

-- the accumulators so far were copied
abbrev pub invariant-loop-accumulator : goal.invariant-loop-accumulator
invariant-loop-accumulator l = l.copy ≡ take l.accumulator-index l.accumulators
