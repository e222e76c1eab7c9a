-- How a text continues a line that has begun.
use Rattle.std.specs.Prelude.{◌≡◌, ℕ, ◌+◌, Bool, true, false, List, [], ◌∷◌, ◌++◌, length}
use Rattle.mlr_lines.specs.Lines.{ended_after, begun_after, without_mark}

-- whether the list is empty
abbrev pub are_none : List (List ℕ) → Bool
are_none [] = true
are_none (line ∷ lines) = false

-- a line, without the byte order mark if it is the first of a file
abbrev pub unmarked_line : Bool → List ℕ → List ℕ
unmarked_line true line = without_mark line
unmarked_line false line = line

-- lines, the first without the byte order mark if it is the first of a file
abbrev pub unmarked_lines : Bool → List (List ℕ) → List (List ℕ)
unmarked_lines first [] = []
unmarked_lines first (line ∷ lines) = unmarked_line first line ∷ lines

-- the text contains no LF: it continues any line that has begun
pub record EndsNoLine (text : List ℕ) : Type 0 where
  pub ended : (begun : List ℕ) → ended_after begun text ≡ []
  pub begun : (begun : List ℕ) → begun_after begun text ≡ begun ++ text

-- the text consists of `line`, an LF and `rest`: it ends any line that has begun, and `rest` follows
pub record EndsLine (text line rest : List ℕ) : Type 0 where
  pub ended : (begun : List ℕ) → ended_after begun text ≡ (begun ++ line) ∷ ended_after [] rest
  pub begun : (begun : List ℕ) → begun_after begun text ≡ begun_after [] rest
  pub parts : length line + length rest + 1 ≡ length text
