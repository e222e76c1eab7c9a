-- When the readers represent the bytes of a source, with room for more.
use Rattle.std.specs.Prelude.{◌≡◌, ℕ, ◌+◌, ◌≤◌, ◌^◌, List, length, max}
use Rattle.mlr_event.specs.declared.event.Ctx.{Ctx}
use Rattle.mlr_event.specs.declared.names.FileRef.{FileRef}
use Rattle.mlr_event.specs.declared.options.ReadOpts.{ReadOpts}
use Rattle.mlr_lines.specs.declared.reader.Reader.{Reader}
use Rattle.mlr_lines.specs.Reader as lines
use Rattle.read_csv.specs.Begins as csv_begins
use Rattle.read_csv.specs.Rows.{csv_fed, csv_read}
use Rattle.read_csv.specs.Rules as csv
use Rattle.read_dkvp_nidx.specs.Lines.{line_fed, line_read}
use Rattle.read_dkvp_nidx.specs.Rules as line
use Rattle.read_xtab_pprint.specs.Blocks.{block_fed, block_read}
use Rattle.read_xtab_pprint.specs.Rules as block
use Rattle.read_json_lines.specs.declared.json.JsonReader.{JsonReader}
use Rattle.read_json_lines.specs.Json.{json_fed, json_read}
use Rattle.read_json_lines.specs.Represents as json
use Rattle.read_files.specs.declared.open_file.OpenFile.{OpenFile}
use Rattle.read_files.specs.declared.open_file.OpenFile.TheVariants as file
use Rattle.read_files.specs.Sources.{Source, gives_as, gives_by}

-- how far the counters of a reader may have counted: each byte counts one at most
abbrev pub counted : Source → ℕ → ℕ
counted source n = max 1 (max source.ctx.nr source.ctx.fnr) + n

abbrev pub HasRoom : Source → Type 0
HasRoom source = (source.ctx.nr ≤ 2 ^ 62) × (source.ctx.fnr ≤ 2 ^ 62)

-- a reader of lines, by the state that its format begins with, how a line changes it, and how far it has counted
pub record LinesRepresent {F : Type 0} (begins : F → ReadOpts → FileRef → Ctx → Type 0) (after : F → List ℕ → F) (count : F → ℕ) (reader : Reader F) (source : Source) (bytes : List ℕ) : Type 0 where
  pub represents : lines.Represents begins after source.opts source.file source.ctx reader bytes
  pub opened : lines.IsOpen reader
  pub used : lines.used count reader ≤ counted source (length bytes)
  pub room : HasRoom source

pub record JsonRepresents (reader : JsonReader) (source : Source) (bytes : List ℕ) : Type 0 where
  pub represents : json.Represents source.opts source.file source.ctx reader bytes
  pub opened : json.IsOpen reader
  pub used : json.used reader ≤ counted source (length bytes)
  pub room : HasRoom source

-- the reader of a format, which gives what that format does
abbrev pub FileRepresents : OpenFile → Source → List ℕ → Type 0
FileRepresents (file.Csv reader) source bytes =
    LinesRepresent csv_begins.Begins csv.after_line csv.count_of reader source bytes × (gives_as source.opts.format source ≡ gives_by csv_fed csv_read source)
FileRepresents (file.Line reader) source bytes =
    LinesRepresent line.Begins line.after_line line.count_of reader source bytes × (gives_as source.opts.format source ≡ gives_by line_fed line_read source)
FileRepresents (file.Block reader) source bytes =
    LinesRepresent block.Begins block.after_line block.count_of reader source bytes × (gives_as source.opts.format source ≡ gives_by block_fed block_read source)
FileRepresents (file.Json reader) source bytes = JsonRepresents reader source bytes × (gives_as source.opts.format source ≡ gives_by json_fed json_read source)
