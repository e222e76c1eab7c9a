-- PPRINT: tables of a header line and rows, whose cells are separated by spaces or are between bars.
use Rattle.std.specs.Prelude.{ℕ, ◌+◌, if◌then◌else◌, Bool, false, not, ◌&&◌, ◌||◌, ◌==◌, List, [], ◌∷◌, map, length, Option, Some, None}
use Rattle.std.specs.List.{filter, filter_map, slice_split}
use Rattle.std.specs.Str.{bytes_eq}
use Rattle.mlr_spec.specs.Ascii.{space, plus_sign, vertical_bar}
use Rattle.mlr_spec.specs.Infer.{tree_of_data}
use Rattle.mlr_lines.specs.Blocks.{each, since_end}
use Rattle.mlr_event.specs.declared.names.FileRef.{FileRef}
use Rattle.mlr_event.specs.declared.fault.Fault.TheVariants.{Length, Table}
use Rattle.mlr_event.specs.declared.options.ReadOpts.{ReadOpts}
use Rattle.mlr_event.specs.Reading.{Item, fields, fault, is_comment, comment_items, record_of}

-- the texts between runs of spaces
abbrev pub words_of : List ℕ → List (List ℕ)
words_of line = filter (λ word. not (length word == 0)) (slice_split (λ b. b == space) line)

abbrev pub is_bar : List ℕ → Bool
is_bar word = bytes_eq word (vertical_bar ∷ [])

-- the words between bars: bars and words alternate, from a first bar to a last one
abbrev pub between_bars : List (List ℕ) → Option (List (List ℕ))
between_bars [] = None
between_bars (bar ∷ []) = if is_bar bar then Some [] else None
between_bars (bar ∷ cell ∷ words) =
    if is_bar bar then elim (between_bars words) [ Some cells ↦ Some (cell ∷ cells) | None ↦ None ] else None

-- None if there are no cells
abbrev pub some_cells : Option (List (List ℕ)) → Option (List (List ℕ))
some_cells None = None
some_cells (Some []) = None
some_cells (Some (cell ∷ cells)) = Some (cell ∷ cells)

-- the cells of a line; None if the line begins with a bar but isn't cells between bars
abbrev pub cells_of : List ℕ → Option (List (List ℕ))
cells_of [] = Some []
cells_of (b ∷ line) = if b == vertical_bar then some_cells (between_bars (words_of (b ∷ line))) else Some (words_of (b ∷ line))

-- a line that begins with `+` is a rule of a table with bars
abbrev pub is_rule : List ℕ → Bool
is_rule [] = false
is_rule (b ∷ line) = b == plus_sign

-- the record of a row under a header, or a fault if the lengths differ
abbrev pub row : ReadOpts → FileRef → ℕ → List (List ℕ) → List (List ℕ) → List Item
row opts file n header cells =
    if length cells == length header then fields (record_of opts.dedupe header (map (tree_of_data opts.infer) cells)) ∷ []
    else fault (Length file n (length header) (length cells)) ∷ []

-- the lines that belong to a table: neither comments nor rules
abbrev pub is_row : ReadOpts → List ℕ → Bool
is_row opts line = not (is_comment opts.comments line || is_rule line)

-- an empty line ends a table; a comment doesn't
abbrev pub ends_table : ReadOpts → List ℕ → Bool
ends_table opts line = not (is_comment opts.comments line) && length line == 0

-- the rows of the table that goes on after these lines, each as its cells
abbrev pub rows_so_far : ReadOpts → List (List ℕ) → List (List (List ℕ))
rows_so_far opts before = filter_map cells_of (filter (is_row opts) (since_end (ends_table opts) before))

-- a row after the rows before it in its table: the first is the header
abbrev pub row_after : ReadOpts → FileRef → ℕ → List (List (List ℕ)) → Option (List (List ℕ)) → List Item
row_after opts file n rows None = fault (Table file n) ∷ []
row_after opts file n [] (Some cells) = []
row_after opts file n (header ∷ rows) (Some cells) = row opts file n header cells

-- the items of a line after those before it in the file
abbrev pub line_after : ReadOpts → FileRef → List (List ℕ) → List ℕ → List Item
line_after opts file before line =
    if is_comment opts.comments line then comment_items opts.comments line else (
    if is_rule line || length line == 0 then [] else row_after opts file (length before + 1) (rows_so_far opts before) (cells_of line))

-- the items of all lines of a file
abbrev pub pprint_items : ReadOpts → FileRef → List (List ℕ) → List Item
pprint_items opts file lines = each (line_after opts file) lines
