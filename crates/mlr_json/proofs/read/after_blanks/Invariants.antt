use Rattle.std.proofs.Common.{◌≡◌, ℕ, ◌≤◌, length}
use Rattle.mlr_spec.specs.Tree.{Tree}
use Rattle.mlr_json.specs.Reading.{tokens_left}
use Rattle.mlr_json.specs.Turns.{after_at}
use Rattle.mlr_json.proofs.read.after_blanks.Given as goal

-- blanks change no outcome
abbrev pub invariant-loop-offset : goal.invariant-loop-offset
invariant-loop-offset l = record {
  shorter : length l.left ≤ length l.initial.left;
  same : (end : ℕ) (value : Tree) → length l.initial.left ≤ end → after_at value (tokens_left end l.initial.left) ≡ after_at value (tokens_left end l.left);
}

abbrev pub decreases-loop-offset : goal.decreases-loop-offset
decreases-loop-offset l = length l.left
