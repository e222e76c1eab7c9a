-- The rows of a file, and the records that they are under a header.
use Rattle.std.specs.Prelude.{ℕ, zero, suc, ◌+◌, ◌-◌, if◌then◌else◌, Bool, false, ◌||◌, ◌==◌, List, [], ◌∷◌, ◌++◌, map, length, take, Option, Some, None}
use Rattle.std.specs.Fmt.{decimal}
use Rattle.std.specs.List.{filter_map}
use Rattle.mlr_spec.specs.Ascii.{line_feed}
use Rattle.mlr_event.specs.declared.event.Ctx.{Ctx}
use Rattle.mlr_event.specs.declared.event.Event.{Event}
use Rattle.mlr_event.specs.declared.names.FileRef.{FileRef}
use Rattle.mlr_event.specs.declared.fault.Fault.TheVariants.{Length, Quote}
use Rattle.mlr_event.specs.declared.options.Format.TheVariants as format
use Rattle.mlr_event.specs.declared.options.ReadOpts.{ReadOpts}
use Rattle.mlr_event.specs.Reading.{Item, fields, fault, events_of, is_comment, comment_items, record_of}
use Rattle.mlr_lines.specs.Blocks.{each}
use Rattle.mlr_lines.specs.Lines.{ended_lines, begun_line, without_return}
use Rattle.read_csv.specs.Csv.{csv_fields}
use Rattle.read_csv.specs.Fields.{Field, value_of}
use Rattle.read_csv.specs.Tsv.{tsv_fields}

-- the fields of a row; None if a quote is open, so that the row continues on the next line
abbrev pub row_fields : ReadOpts → List ℕ → Option (List Field)
row_fields opts text = elim opts.format [
  | format.Tsv ↦ Some (tsv_fields opts.ifs text)
  | _ ↦ csv_fields opts.ifs text
]

-- the keys n, n + 1, n + 2 and so on, for a number of values
abbrev pub positions_from : ℕ → ℕ → List (List ℕ)
positions_from n zero = []
positions_from n (suc more) = decimal n ∷ positions_from (n + 1) more

-- A row whose length differs from its header's is a fault, unless `ragged` is set. Then a short row has only
-- the first keys, and the key of a surplus value is its position.
abbrev pub row_keys : List (List ℕ) → ℕ → List (List ℕ)
row_keys header have = take have header ++ positions_from (length header + 1) (have - length header)

abbrev pub row_items : ReadOpts → FileRef → ℕ → List (List ℕ) → List Field → List Item
row_items opts file line header row =
    if opts.ragged || length row == length header then fields (record_of opts.dedupe (row_keys header (length row)) (map (value_of opts.infer) row)) ∷ []
    else fault (Length file line (length header) (length row)) ∷ []

-- the first row is the header; if the header is implicit, the row is data under the keys 1, 2, 3 and so on
abbrev pub first_header : ReadOpts → List Field → List (List ℕ)
first_header opts row = if opts.implicit then positions_from 1 (length row) else map (λ f. f.text) row

abbrev pub first_items : ReadOpts → FileRef → ℕ → List Field → List Item
first_items opts file line row = if opts.implicit then row_items opts file line (first_header opts row) row else []

-- a row that continues on the next line: the number of its first line, and its text so far
abbrev pub Begun : Type 0
Begun = Option (ℕ × List ℕ)

-- the text of a row up to this line, and the number of the row's first line
abbrev pub goes_on : Begun → List ℕ → List ℕ
goes_on None line = line
goes_on (Some row) line = row.1 ++ line_feed ∷ line

abbrev pub begins_at : Begun → ℕ → ℕ
begins_at None n = n
begins_at (Some row) n = row.0

-- where a row may begin, an empty line and a comment are skipped
abbrev pub is_skipped : ReadOpts → Begun → List ℕ → Bool
is_skipped opts None line = is_comment opts.comments line || length line == 0
is_skipped opts (Some row) line = false

abbrev pub skipped_items : ReadOpts → List ℕ → List Item
skipped_items opts line = if is_comment opts.comments line then comment_items opts.comments line else []

-- a part of a file: a line that is skipped where a row may begin; a whole row, with the number of its first line; or a row whose
-- quote is open at the end of the file
pub data Part : Type 0 where
  skipped : List ℕ → Part
  whole : ℕ → List Field → Part
  unclosed : ℕ → Part

-- the part that a last line without LF makes
abbrev pub last_part : ReadOpts → ℕ → Begun → List ℕ → Part
last_part opts n begun line =
    if is_skipped opts begun line then skipped line
    else elim (row_fields opts (goes_on begun line)) [ None ↦ unclosed (begins_at begun n) | Some found ↦ whole (begins_at begun n) found ]

-- The parts of lines, each without its LF, of which the first has number n and continues a row where one has begun; `last` is
-- the last line without LF, if the file ends after these lines. A row is the shortest run of lines that leaves no quote open,
-- and the CR before its line ending isn't part of it.
abbrev pub parts_from : ReadOpts → Option (List ℕ) → ℕ → Begun → List (List ℕ) → List Part
parts_from opts None n begun [] = []
parts_from opts (Some last) n begun [] = last_part opts n begun last ∷ []
parts_from opts last n begun (line ∷ lines) =
    if is_skipped opts begun (without_return line) then skipped (without_return line) ∷ parts_from opts last (n + 1) None lines
    else elim (row_fields opts (without_return (goes_on begun line))) [
      | None ↦ parts_from opts last (n + 1) (Some (begins_at begun n, goes_on begun line)) lines
      | Some found ↦ whole (begins_at begun n) found ∷ parts_from opts last (n + 1) None lines
    ]

-- the rows among these parts
abbrev pub row_of : Part → Option (List Field)
row_of (skipped line) = None
row_of (whole n found) = Some found
row_of (unclosed n) = None

-- a row after the rows before it: the first is the header
abbrev pub row_after : ReadOpts → FileRef → ℕ → List (List Field) → List Field → List Item
row_after opts file n [] found = first_items opts file n found
row_after opts file n (header ∷ rows) found = row_items opts file n (first_header opts header) found

-- the items of a part after those before it in the file
abbrev pub part_after : ReadOpts → FileRef → List Part → Part → List Item
part_after opts file before (skipped line) = skipped_items opts line
part_after opts file before (whole n found) = row_after opts file n (filter_map row_of before) found
part_after opts file before (unclosed n) = fault (Quote file n) ∷ []

-- the items of the lines of a file, and of its last line without LF if the file has ended
abbrev pub csv_items : ReadOpts → FileRef → Option (List ℕ) → List (List ℕ) → List Item
csv_items opts file last lines = each (part_after opts file) (parts_from opts last 1 None lines)

-- the events of a whole file, and those that the first bytes of a file fix
abbrev pub csv_read : ReadOpts → FileRef → Ctx → List ℕ → List Event
csv_read opts file start bytes = events_of start (csv_items opts file (Some (begun_line bytes)) (ended_lines bytes))

abbrev pub csv_fed : ReadOpts → FileRef → Ctx → List ℕ → List Event
csv_fed opts file start bytes = events_of start (csv_items opts file None (ended_lines bytes))
