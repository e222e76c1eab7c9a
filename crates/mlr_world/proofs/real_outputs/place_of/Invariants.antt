use Rattle.std.proofs.Common.{◌≡◌, ◌<◌, ℕ, get_or}
use Rattle.mlr_world.proofs.real_outputs.place_of.Given as goal

-- no file before the place is the target's
abbrev pub invariant-loop-place : goal.invariant-loop-place
invariant-loop-place g l = (k : ℕ) (d : _) → k < l.place → (get_or l.files k d).target ≡ l.target → ⊥
