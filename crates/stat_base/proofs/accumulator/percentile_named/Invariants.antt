use Rattle.std.proofs.Common.{◌≡◌, ℕ, ◌+◌}
use Rattle.std.specs.List.{find, range_with_len}
use Rattle.stat_base.specs.Accumulators.{is_percentile}
use Rattle.stat_base.proofs.accumulator.percentile_named.Given as goal

-- none of the numbers so far gives the name
abbrev pub invariant-loop-percent : goal.invariant-loop-percent
invariant-loop-percent l = (n : ℕ) → l.percent + n ≡ 101
    → find (is_percentile l.name) (range_with_len l.percent n) ≡ find (is_percentile l.name) (range_with_len 0 101)
