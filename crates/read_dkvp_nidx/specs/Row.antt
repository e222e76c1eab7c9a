-- The items of a row's outcome, and the place of a line as the program keeps it.
use Rattle.std.specs.Prelude.{ℕ, List, [], ◌∷◌}
use Rattle.std.specs.declared.vec.Vec.{Vec}
use Rattle.std.specs.declared.alloc.Global.{Global}
use Rattle.mlr_event.specs.Reading.{Item, fields, fault}
use Rattle.read_dkvp_nidx.specs.declared.block.Block.{Block}
use Rattle.read_dkvp_nidx.specs.declared.block.Block.TheVariants as place
use Rattle.read_dkvp_nidx.specs.declared.row.Row.{Row}
use Rattle.read_dkvp_nidx.specs.declared.row.Row.TheVariants as row
use Rattle.read_dkvp_nidx.specs.MarkdownLines as markdown

abbrev pub row_items : Row → List Item
row_items row.Nothing = []
row_items (row.Fields pairs) = fields pairs ∷ []
row_items (row.Fault f) = fault f ∷ []

abbrev pub block_of : Block → markdown.Block
block_of place.Outside = markdown.outside
block_of (place.Under header) = markdown.under header
block_of (place.Within header) = markdown.within header

abbrev pub place_of : markdown.Block → Block
place_of markdown.outside = place.Outside
place_of (markdown.under header) = place.Under header
place_of (markdown.within header) = place.Within header

-- the cells of a vector
abbrev pub cells_in : Vec (List ℕ) Global → List (List ℕ)
cells_in cells = cells.items
