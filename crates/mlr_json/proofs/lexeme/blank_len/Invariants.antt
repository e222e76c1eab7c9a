use Rattle.std.proofs.Common.{◌≡◌, ℕ, ◌<◌, true, get_or}
use Rattle.mlr_spec.specs.JsonTokens.{is_blank}
use Rattle.mlr_json.proofs.lexeme.blank_len.Given as goal

abbrev pub invariant-loop-place : goal.invariant-loop-place
invariant-loop-place l = (k : ℕ) → k < l.place → is_blank (get_or l.text k 0) ≡ true
