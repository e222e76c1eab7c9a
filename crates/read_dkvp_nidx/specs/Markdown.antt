-- Markdown tables: lines of cells between bars; an empty line ends a table.
use Rattle.std.specs.Prelude.{ℕ, ◌+◌, ◌-◌, if◌then◌else◌, Bool, not, ◌&&◌, ◌==◌, nat_lt, List, [], ◌∷◌, map, length, take, drop, Option, Some, None}
use Rattle.std.specs.List.{filter, filter_map, list_all, onto_first, prefix_len, suffix_len}
use Rattle.mlr_spec.specs.Ascii.{space, dash, colon, backslash, vertical_bar}
use Rattle.mlr_spec.specs.Infer.{tree_of_data}
use Rattle.mlr_lines.specs.Blocks.{each, since_end}
use Rattle.mlr_event.specs.declared.names.FileRef.{FileRef}
use Rattle.mlr_event.specs.declared.fault.Fault.TheVariants.{Length, Table}
use Rattle.mlr_event.specs.declared.options.ReadOpts.{ReadOpts}
use Rattle.mlr_event.specs.Reading.{Item, fields, fault, is_comment, comment_items, record_of}

-- the parts of a line between bars that no backslash precedes; `last` is the byte before the text
abbrev pub bar_parts : ℕ → List ℕ → List (List ℕ)
bar_parts last [] = [] ∷ []
bar_parts last (b ∷ text) = if b == vertical_bar && not (last == backslash) then [] ∷ bar_parts b text else onto_first b (bar_parts b text)

abbrev pub is_space : ℕ → Bool
is_space b = b == space

-- a cell without the spaces around it
abbrev pub trimmed : List ℕ → List ℕ
trimmed text = let prefix = drop (prefix_len is_space text) text in take (length prefix - suffix_len is_space prefix) prefix

-- the escape `\|` is a bar
abbrev pub unescaped : List ℕ → List ℕ
unescaped [] = []
unescaped (b ∷ []) = b ∷ []
unescaped (b ∷ c ∷ text) = if b == backslash && c == vertical_bar then unescaped (c ∷ text) else b ∷ unescaped (c ∷ text)

-- the cell of a part between two bars
abbrev pub cell_of : List ℕ → List ℕ
cell_of part = unescaped (trimmed part)

-- the cells of the parts, of which the last has to be empty
abbrev pub closed : List (List ℕ) → Option (List (List ℕ))
closed [] = None
closed ([] ∷ []) = Some []
closed ((b ∷ part) ∷ []) = None
closed (part ∷ next ∷ parts) = elim (closed (next ∷ parts)) [ Some cells ↦ Some (cell_of part ∷ cells) | None ↦ None ]

-- the cells of a line, which begins and ends with a bar; None for any other line, and for a single bar
abbrev pub cells_after : List (List ℕ) → Option (List (List ℕ))
cells_after [] = None
cells_after (part ∷ []) = None
cells_after (part ∷ next ∷ parts) = closed (part ∷ next ∷ parts)

abbrev pub cells_of : List ℕ → Option (List (List ℕ))
cells_of line = elim (bar_parts 0 line) [
  | [] ↦ None
  | first ∷ parts ↦ if length first == 0 then cells_after parts else None
]

-- a cell of the rule under the header: one or more dashes, with or without a colon at either end
abbrev pub without_colons : List ℕ → List ℕ
without_colons text =
    let prefix = (if nat_lt 0 (length text) && list_all (λ b. b == colon) (take 1 text) then drop 1 text else text) in
    if nat_lt 0 (length prefix) && list_all (λ b. b == colon) (drop (length prefix - 1) prefix) then take (length prefix - 1) prefix else prefix

abbrev pub is_rule : List ℕ → Bool
is_rule cell = nat_lt 0 (length (without_colons cell)) && list_all (λ b. b == dash) (without_colons cell)

-- the record of a row under a header, or a fault if the lengths differ
abbrev pub row : ReadOpts → FileRef → ℕ → List (List ℕ) → List (List ℕ) → List Item
row opts file n header cells =
    if length cells == length header then fields (record_of opts.dedupe header (map (tree_of_data opts.infer) cells)) ∷ []
    else fault (Length file n (length header) (length cells)) ∷ []

-- an empty line ends a table; a comment doesn't
abbrev pub ends_table : ReadOpts → List ℕ → Bool
ends_table opts line = not (is_comment opts.comments line) && length line == 0

-- the rows of the table that goes on after these lines, each as its cells
abbrev pub rows_so_far : ReadOpts → List (List ℕ) → List (List (List ℕ))
rows_so_far opts before = filter_map cells_of (filter (λ line. not (is_comment opts.comments line)) (since_end (ends_table opts) before))

-- a row after the rows before it in its table: the first is the header, the second has to be a rule under it
abbrev pub row_after : ReadOpts → FileRef → ℕ → List (List (List ℕ)) → Option (List (List ℕ)) → List Item
row_after opts file n rows None = fault (Table file n) ∷ []
row_after opts file n [] (Some cells) = []
row_after opts file n (header ∷ []) (Some cells) =
    if list_all is_rule cells then (if length cells == length header then [] else fault (Length file n (length header) (length cells)) ∷ [])
    else fault (Table file n) ∷ []
row_after opts file n (header ∷ rule ∷ rows) (Some cells) = row opts file n header cells

-- the items of a line after those before it in the file
abbrev pub line_after : ReadOpts → FileRef → List (List ℕ) → List ℕ → List Item
line_after opts file before line =
    if is_comment opts.comments line then comment_items opts.comments line else (
    if length line == 0 then [] else row_after opts file (length before + 1) (rows_so_far opts before) (cells_of line))

-- the items of all lines of a file
abbrev pub markdown_items : ReadOpts → FileRef → List (List ℕ) → List Item
markdown_items opts file lines = each (line_after opts file) lines
