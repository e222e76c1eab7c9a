-- When a reader of a format of lines represents the first bytes of a file, or the whole file.
use Rattle.std.specs.Prelude.{ℕ, ◌+◌, ◌^◌, ◌<◌, List}
use Rattle.mlr_event.specs.declared.event.Ctx.{Ctx}
use Rattle.mlr_event.specs.declared.names.FileRef.{FileRef}
use Rattle.mlr_event.specs.declared.options.ReadOpts.{ReadOpts}
use Rattle.mlr_lines.specs.Represents as lines
use Rattle.mlr_lines.specs.declared.reader.Reader.{Reader}

module _ {F : Type 0} where
  -- more bytes may follow, or the end of the file
  abbrev pub IsOpen : Reader F → Type 0
  IsOpen reader = lines.IsOpen reader.lines

  abbrev pub HasEnded : Reader F → Type 0
  HasEnded reader = lines.IsEnded reader.lines

  abbrev pub IsBroken : Reader F → Type 0
  IsBroken reader = lines.IsBroken reader.lines

  -- the largest of the reader's counters, which each byte raises by at most one
  abbrev pub used : (F → ℕ) → Reader F → ℕ
  used count reader = count reader.lines.format

  -- the file is open, and `n` more bytes don't overflow the counters
  abbrev pub CanTake : (F → ℕ) → Reader F → ℕ → Type 0
  CanTake count reader n = IsOpen reader × (used count reader + n < 2 ^ 63)

  module _ (begins : F → ReadOpts → FileRef → Ctx → Type 0) (after : F → List ℕ → F) where
    -- the reader has read these bytes, the first of the file
    abbrev pub Represents : ReadOpts → FileRef → Ctx → Reader F → List ℕ → Type 0
    Represents opts file start reader bytes = (format : F) × begins format opts file start × lines.Represents after reader.lines format bytes

    -- the reader has read these bytes and the end of the file
    abbrev pub RepresentsWhole : (F → List ℕ → F) → ReadOpts → FileRef → Ctx → Reader F → List ℕ → Type 0
    RepresentsWhole after_last opts file start reader bytes = (format : F) × begins format opts file start × lines.RepresentsAtEnd after after_last reader.lines format bytes
