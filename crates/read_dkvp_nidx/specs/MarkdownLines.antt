-- Markdown, line by line: the items of a line, and the place of the next one.
use Rattle.std.specs.Prelude.{ℕ, if◌then◌else◌, ◌==◌, List, [], ◌∷◌, length, Option, Some, None}
use Rattle.std.specs.List.{list_all}
use Rattle.mlr_event.specs.declared.names.FileRef.{FileRef}
use Rattle.mlr_event.specs.declared.fault.Fault.TheVariants.{Length, Table}
use Rattle.mlr_event.specs.declared.options.ReadOpts.{ReadOpts}
use Rattle.mlr_event.specs.Reading.{Item, fault}
use Rattle.read_dkvp_nidx.specs.Markdown.{cells_of, is_rule, row}

-- the place of a line: the first of a table, the second under its header, or a later one
pub data Block : Type 0 where
  outside : Block
  under : List (List ℕ) → Block
  within : List (List ℕ) → Block

-- the items of a line with its cells, and the place of the next line; the second line of a table has to be a
-- rule
abbrev pub row_items : ReadOpts → FileRef → ℕ → Block → Option (List (List ℕ)) → List Item
row_items opts file n block None = fault (Table file n) ∷ []
row_items opts file n outside (Some cells) = []
row_items opts file n (under header) (Some cells) =
    if list_all is_rule cells then (if length cells == length header then [] else fault (Length file n (length header) (length cells)) ∷ [])
    else fault (Table file n) ∷ []
row_items opts file n (within header) (Some cells) = row opts file n header cells

abbrev pub row_block : Block → Option (List (List ℕ)) → Block
row_block block None = block
row_block outside (Some cells) = under cells
row_block (under header) (Some cells) = within header
row_block (within header) (Some cells) = within header

-- an empty line ends a table
abbrev pub markdown_row : ReadOpts → FileRef → ℕ → Block → List ℕ → List Item
markdown_row opts file n block [] = []
markdown_row opts file n block (b ∷ line) = row_items opts file n block (cells_of (b ∷ line))

abbrev pub block_after : Block → List ℕ → Block
block_after block [] = outside
block_after block (b ∷ line) = row_block block (cells_of (b ∷ line))
