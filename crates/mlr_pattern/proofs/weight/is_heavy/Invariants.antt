use Rattle.std.proofs.Common.{◌≡◌, ◌*◌, ◌<◌, nat_le, length}
use Rattle.mlr_pattern.specs.Weight.{weight, factors}
use Rattle.mlr_pattern.proofs.weight.is_heavy.Given as goal

abbrev pub invariant-loop-left : goal.invariant-loop-left
invariant-loop-left l =
    (nat_le 1000 (l.weight * factors l.left) ≡ nat_le 1000 (weight l.fn.text)) × (0 < length l.left → 0 < l.weight)

abbrev pub decreases-loop-left : goal.decreases-loop-left
decreases-loop-left l = length l.left
