-- The state of reading a file before its first line, and the contexts that the bytes fix.
use Rattle.std.specs.Prelude.{◌≡◌, ℕ, false, List, Some, None}
use Rattle.mlr_lines.specs.Lines.{ended_lines, begun_line}
use Rattle.mlr_event.specs.declared.event.Ctx.{Ctx}
use Rattle.mlr_event.specs.declared.names.FileRef.{FileRef}
use Rattle.mlr_event.specs.declared.options.ReadOpts.{ReadOpts}
use Rattle.mlr_event.specs.Reading.{ctx_after}
use Rattle.read_csv.specs.declared.rules.RowRules.{RowRules}
use Rattle.read_csv.specs.Rows.{csv_items}
use Rattle.read_csv.specs.OpenRow.{no_row}

-- the context of the last record that the bytes so far fix, and of the last record of a whole file
abbrev pub ctx_fed : ReadOpts → FileRef → Ctx → List ℕ → Ctx
ctx_fed opts file start bytes = ctx_after start (csv_items opts file None (ended_lines bytes))

abbrev pub ctx_read : ReadOpts → FileRef → Ctx → List ℕ → Ctx
ctx_read opts file start bytes = ctx_after start (csv_items opts file (Some (begun_line bytes)) (ended_lines bytes))

-- the state at the start of a file
pub record Begins (rules : RowRules) (opts : ReadOpts) (file : FileRef) (start : Ctx) : Type 0 where
  pub opts_are : rules.opts ≡ opts
  pub file_is : rules.file ≡ file
  pub number_is : rules.number ≡ 1
  pub header_is : rules.header ≡ None
  pub row_is : rules.row ≡ no_row
  pub at_is : rules.at ≡ start
  pub goes_on : rules.stopped ≡ false
