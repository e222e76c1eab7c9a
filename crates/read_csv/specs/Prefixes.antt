-- The longest prefix of a file that ends with a line ending outside quotes.
use Rattle.std.specs.Prelude.{ℕ, zero, suc, ◌+◌, ◌-◌, ◌==◌, Bool, not, ◌&&◌, if◌then◌else◌, List, [], ◌∷◌, length, take, slice_index, Some, None, is_some}
use Rattle.mlr_spec.specs.Ascii.{line_feed}
use Rattle.mlr_event.specs.declared.options.ReadOpts.{ReadOpts}
use Rattle.mlr_lines.specs.Lines.{ended_lines, without_return}
use Rattle.read_csv.specs.Rows.{Begun, begins_at, goes_on, is_skipped, row_fields}

-- the row that is open after line n, if any; a line that is skipped opens none
abbrev pub open_after : ReadOpts → ℕ → Begun → List ℕ → Begun
open_after opts n row line =
    if is_skipped opts row (without_return line) then None
    else elim (row_fields opts (without_return (goes_on row line))) [ None ↦ Some (begins_at row n, goes_on row line) | Some found ↦ None ]

-- the row that is open after several lines, of which the first has number n
abbrev pub open_row : ReadOpts → ℕ → Begun → List (List ℕ) → Begun
open_row opts n row [] = row
open_row opts n row (line ∷ lines) = open_row opts (n + 1) (open_after opts n row line) lines

-- whether the bytes end with LF, and whether that LF is outside quotes
abbrev pub ends_line : List ℕ → Bool
ends_line bytes = slice_index bytes (length bytes - 1) == line_feed

abbrev pub is_closed : ReadOpts → List ℕ → Bool
is_closed opts bytes = ends_line bytes && not (is_some (open_row opts 1 None (ended_lines bytes)))

-- the longest prefix of at most n bytes that ends with a line ending outside quotes, or no bytes
abbrev pub closed_within : ReadOpts → List ℕ → ℕ → List ℕ
closed_within opts bytes zero = []
closed_within opts bytes (suc n) = if is_closed opts (take (suc n) bytes) then take (suc n) bytes else closed_within opts bytes n

-- the longest prefix that ends with a line ending outside quotes, or no bytes
abbrev pub closed_prefix : ReadOpts → List ℕ → List ℕ
closed_prefix opts bytes = closed_within opts bytes (length bytes)
