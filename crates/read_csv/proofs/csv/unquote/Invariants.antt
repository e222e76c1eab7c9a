use Rattle.std.proofs.Common.{◌≡◌, ◌≤◌, length}
use Rattle.read_csv.specs.OpenRow.{after_quotes, inside, with_text}
use Rattle.read_csv.proofs.csv.unquote.Given as goal

-- the remaining text continues the open quote as the whole text does
abbrev pub invariant-loop-prefix : goal.invariant-loop-prefix
invariant-loop-prefix l = record {
  row : with_text l.row (inside l.left) ≡ with_text l.initial.row (inside l.initial.left);
  following : after_quotes l.left ≡ after_quotes l.initial.left;
  shorter : length l.left ≤ length l.initial.left;
}

abbrev pub decreases-loop-prefix : goal.decreases-loop-prefix
decreases-loop-prefix l = length l.left
