-- The rows of a file, line by line.
use Rattle.std.specs.Prelude.{ℕ, ◌+◌, if◌then◌else◌, List, [], ◌∷◌, ◌++◌, Option, Some, None}
use Rattle.mlr_event.specs.declared.names.FileRef.{FileRef}
use Rattle.mlr_event.specs.declared.fault.Fault.TheVariants.{Quote}
use Rattle.mlr_event.specs.declared.options.ReadOpts.{ReadOpts}
use Rattle.mlr_event.specs.Reading.{Item, fault}
use Rattle.mlr_lines.specs.Lines.{without_return}
use Rattle.read_csv.specs.Fields.{Field}
use Rattle.read_csv.specs.Rows.{Begun, begins_at, first_header, first_items, goes_on, is_skipped, row_fields, row_items, skipped_items}

-- the items of an ended row, and the header after it
abbrev pub closed_items : ReadOpts → FileRef → ℕ → Option (List (List ℕ)) → List Field → List Item
closed_items opts file line None row = first_items opts file line row
closed_items opts file line (Some header) row = row_items opts file line header row

abbrev pub header_after : ReadOpts → Option (List (List ℕ)) → List Field → Option (List (List ℕ))
header_after opts None row = Some (first_header opts row)
header_after opts (Some header) row = Some header

-- the items of a last line without LF, at the end of the file; an open quote is a fault
abbrev pub end_items : ReadOpts → FileRef → ℕ → Begun → Option (List (List ℕ)) → List ℕ → List Item
end_items opts file n row header line =
    if is_skipped opts row line then skipped_items opts line
    else elim (row_fields opts (goes_on row line)) [
      | None ↦ fault (Quote file (begins_at row n)) ∷ []
      | Some found ↦ closed_items opts file (begins_at row n) header found
    ]

-- the items of lines, of which the first has number n, where this row has begun and this header has been read
abbrev pub rows_from : ReadOpts → FileRef → Option (List ℕ) → ℕ → Begun → Option (List (List ℕ)) → List (List ℕ) → List Item
rows_from opts file None n row header [] = []
rows_from opts file (Some last) n row header [] = end_items opts file n row header last
rows_from opts file last n row header (line ∷ lines) =
    if is_skipped opts row (without_return line) then skipped_items opts (without_return line) ++ rows_from opts file last (n + 1) None header lines
    else elim (row_fields opts (without_return (goes_on row line))) [
      | None ↦ rows_from opts file last (n + 1) (Some (begins_at row n, goes_on row line)) header lines
      | Some found ↦ closed_items opts file (begins_at row n) header found ++ rows_from opts file last (n + 1) None (header_after opts header found) lines
    ]
