-- The state of a format after the lines of the bytes so far, and when a `Lines` represents these bytes.
use Rattle.std.specs.Prelude.{◌≡◌, ℕ, ◌+◌, ◌^◌, ◌<◌, ◌&&◌, List, [], ◌∷◌, ◌++◌}
use Rattle.std.specs.List.{fold}
use Rattle.mlr_event.specs.declared.event.Event.{Event}
use Rattle.mlr_lines.specs.declared.lines.Lines.{Lines}
use Rattle.mlr_lines.specs.declared.stage.Stage.TheVariants.{Open, Ended, Broken}
use Rattle.mlr_lines.specs.Lines.{ended_lines, begun_line, ended_after, begun_after}
use Rattle.mlr_lines.specs.Steps.{are_none, unmarked_lines}

module _ {F : Type 0} where
  -- more bytes may follow, or the end of the file
  abbrev pub IsOpen : Lines F → Type 0
  IsOpen lines = lines.stage ≡ Open

  -- the file has ended
  abbrev pub IsEnded : Lines F → Type 0
  IsEnded lines = lines.stage ≡ Ended

  -- a call ran out of memory
  abbrev pub IsBroken : Lines F → Type 0
  IsBroken lines = lines.stage ≡ Broken

  -- the file is open, and `n` more bytes don't overflow the format's counters
  abbrev pub CanTake : (F → ℕ) → Lines F → ℕ → Type 0
  CanTake count lines n = IsOpen lines × (count lines.format + n < 2 ^ 63)

  -- the events of the lines, in order
  abbrev pub given : (F → List ℕ → F) → (F → List ℕ → List Event) → F → List (List ℕ) → List Event
  given after gives format [] = []
  given after gives format (line ∷ lines) = gives format line ++ given after gives (after format line) lines

  -- the state of the format after the lines
  abbrev pub format_after : (F → List ℕ → F) → F → List (List ℕ) → F
  format_after after format lines = fold after format lines

  -- `lines` represents these bytes: `format` is the state before them, and the line that has begun is in the
  -- buffer
  pub record Represents (after : F → List ℕ → F) (lines : Lines F) (format : F) (bytes : List ℕ) : Type 0 where
    pub state : lines.format ≡ format_after after format (ended_lines bytes)
    pub begun : lines.begun.items ≡ begun_after [] bytes
    pub first : lines.first ≡ are_none (ended_lines bytes)

  -- `lines` represents these bytes as a whole file
  pub record RepresentsAtEnd (after after_last : F → List ℕ → F) (lines : Lines F) (format : F) (bytes : List ℕ) : Type 0 where
    pub state : lines.format ≡ after_last (format_after after format (ended_lines bytes)) (begun_line bytes)

  -- what a piece changes, in terms of the state before the piece only
  pub record Takes (after : F → List ℕ → F) (gives : F → List ℕ → List Event) (old new : Lines F) (piece : List ℕ) (before after_them : List Event) : Type 0 where
    pub state : new.format ≡ format_after after old.format (unmarked_lines old.first (ended_after old.begun.items piece))
    pub events : after_them ≡ before ++ given after gives old.format (unmarked_lines old.first (ended_after old.begun.items piece))
    pub begun : new.begun.items ≡ begun_after old.begun.items piece
    pub first : new.first ≡ (old.first && are_none (ended_after old.begun.items piece))
