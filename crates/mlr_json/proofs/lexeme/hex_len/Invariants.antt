use Rattle.std.proofs.Common.{◌≡◌, ℕ, ◌<◌, true, get_or}
use Rattle.mlr_spec.specs.JsonTokens.{is_hex}
use Rattle.mlr_json.proofs.lexeme.hex_len.Given as goal

abbrev pub invariant-loop-place : goal.invariant-loop-place
invariant-loop-place l = (k : ℕ) → k < l.place → is_hex (get_or l.text k 0) ≡ true
