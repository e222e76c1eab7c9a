use Rattle.std.proofs.Common.{ℕ, ◌<◌}
use Rattle.memchr.specs.Find.{Passes, is_byte}
use Rattle.mlr_record.proofs.split.near_place.Given as goal

abbrev pub invariant-loop-place : goal.invariant-loop-place
invariant-loop-place l = (j : ℕ) → j < l.place → Passes (is_byte l.byte) l.text j → ⊥
