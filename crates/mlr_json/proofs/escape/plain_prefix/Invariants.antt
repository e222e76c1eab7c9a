use Rattle.std.proofs.Common.{◌≡◌, ℕ, ◌<◌, false, get_or}
use Rattle.mlr_json.specs.Escapes.{is_escaped}
use Rattle.mlr_json.proofs.escape.plain_prefix.Given as goal

abbrev pub invariant-loop-place : goal.invariant-loop-place
invariant-loop-place l = (k : ℕ) → k < l.place → is_escaped (get_or l.text k 0) ≡ false
