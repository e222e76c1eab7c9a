use Rattle.std.proofs.Common.{◌≡◌, ℕ, ◌≤◌, List, ◌++◌, length}
use Rattle.mlr_spec.specs.JsonTokens.{Piece}
use Rattle.mlr_json.specs.Decoding.{Holds}
use Rattle.mlr_json.specs.Reading.{inside_left, pieces_left}
use Rattle.mlr_json.proofs.token.read_pieces.Given as goal

-- the pieces so far, with the remaining ones, are all of them
abbrev pub invariant-loop-piece : goal.invariant-loop-piece
invariant-loop-piece l = record {
  shorter : length l.left ≤ length l.initial.left;
  pieces : (pieces : List Piece) × Holds l.builder pieces × ((end : ℕ) → length l.initial.left ≤ end → (pieces_left end l.initial.left ≡ pieces ++ pieces_left end l.left) × (inside_left end l.initial.left ≡ inside_left end l.left));
}

abbrev pub decreases-loop-piece : goal.decreases-loop-piece
decreases-loop-piece l = length l.left
