-- PPRINT: lines of cells in aligned columns. The first line has the keys, each other one the values of a record.
use Rattle.std.specs.Prelude.{ℕ, Bool, true, false, max, if◌then◌else◌, List, [], ◌∷◌, ◌++◌, map, length, replicate, codes, Some, None, slice_get, slice_index, drop}
use Rattle.std.specs.List.{flat_map, fold, range_with_len}
use Rattle.mlr_spec.specs.Ascii.{line_feed, space, dash}
use Rattle.mlr_spec.specs.Json.{joined}
use Rattle.mlr_spec.specs.Tree.{Tree}
use Rattle.text_forms.specs.Shown.{shown}
use Rattle.text_columns.specs.Width.{code_points}
use Rattle.text_columns.specs.Xtab.{padded}

-- the cells of a record: the texts of its values
abbrev pub values_of : List (List ℕ × Tree) → List (List ℕ)
values_of r = map (λ field. shown field.1) r

-- an empty cell is shown as a dash
abbrev pub cell_text : List ℕ → List ℕ
cell_text [] = dash ∷ []
cell_text (b ∷ text) = b ∷ text

-- how many code points a line shows in a column
abbrev pub length_at : ℕ → List (List ℕ) → ℕ
length_at column line = elim (slice_get line column) [ None ↦ 0 | Some cell ↦ code_points (cell_text cell) ]

-- a column is as wide as the longest of its cells in all lines
abbrev pub column_width : List (List (List ℕ)) → ℕ → ℕ
column_width lines column = fold (λ width line. max width (length_at column line)) 0 lines

-- the widths of the columns of lines, the first of which is this one
abbrev pub widths_of : List (List ℕ) → List (List (List ℕ)) → List ℕ
widths_of first lines = map (column_width lines) (range_with_len 0 (length first))

-- each cell padded to its width; or each but the last
abbrev pub all_padded : List ℕ → List (List ℕ) → List (List ℕ)
all_padded widths [] = []
all_padded widths (cell ∷ more) = padded (slice_index widths 0) (cell_text cell) ∷ all_padded (drop 1 widths) more

abbrev pub padded_but_last : List ℕ → List (List ℕ) → List (List ℕ)
padded_but_last widths [] = []
padded_but_last widths (cell ∷ []) = cell_text cell ∷ []
padded_but_last widths (cell ∷ next ∷ more) = padded (slice_index widths 0) (cell_text cell) ∷ padded_but_last (drop 1 widths) (next ∷ more)

abbrev pub between_bars : List (List ℕ) → List ℕ
between_bars cells = codes "| " ++ joined (codes " | ") cells ++ codes " |\n"

-- a line of cells, between bars or not
abbrev pub pprint_line : Bool → List ℕ → List (List ℕ) → List ℕ
pprint_line true widths line = between_bars (all_padded widths line)
pprint_line false widths line = joined (space ∷ []) (padded_but_last widths line) ++ line_feed ∷ []

-- a line of dashes, if there are bars
abbrev pub dashes : Bool → List ℕ → List ℕ
dashes true widths = codes "+-" ++ joined (codes "-+-") (map (λ width. replicate width dash) widths) ++ codes "-+\n"
dashes false widths = []

-- the line of keys, with the line of dashes below it, unless it isn't written
abbrev pub pprint_header : Bool → Bool → List ℕ → List (List ℕ) → List ℕ
pprint_header barred headerless widths keys = if headerless then [] else pprint_line barred widths keys ++ dashes barred widths

-- a block: the keys and the rows below them. The keys count for the widths also where they aren't written
abbrev pub block_by : Bool → Bool → List ℕ → List (List ℕ) → List (List (List ℕ)) → List ℕ
block_by barred headerless widths keys rows =
    dashes barred widths ++ pprint_header barred headerless widths keys ++ flat_map (pprint_line barred widths) rows ++ dashes barred widths

abbrev pub block : Bool → Bool → List (List (List ℕ)) → List ℕ
block barred headerless [] = []
block barred headerless (keys ∷ rows) = block_by barred headerless (widths_of keys (keys ∷ rows)) keys rows
