use Rattle.std.proofs.Common.{◌≡◌, length}
use Rattle.read_dkvp_nidx.specs.Cells.{cells_with}
use Rattle.read_dkvp_nidx.specs.Markdown.{bar_parts, cells_after}
use Rattle.read_dkvp_nidx.proofs.cells.cells_after.Given as goal

abbrev pub invariant-loop-part : goal.invariant-loop-part
invariant-loop-part l = cells_with l.cells.items (bar_parts 124 l.left) ≡ cells_after (bar_parts 124 l.text)

abbrev pub decreases-loop-part : goal.decreases-loop-part
decreases-loop-part l = length l.left
