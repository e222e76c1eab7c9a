use Rattle.std.proofs.Common.{◌≡◌, drop}
use Rattle.mlr_value.proofs.Folding.{folded_cmp}
use Rattle.mlr_value.proofs.order.folded_cmp.Given as goal

-- the bytes before this place are equal
abbrev pub invariant-loop-place : goal.invariant-loop-place
invariant-loop-place l = folded_cmp l.x l.y ≡ folded_cmp (drop l.place l.x) (drop l.place l.y)
