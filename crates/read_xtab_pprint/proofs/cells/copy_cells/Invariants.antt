use Rattle.std.proofs.Common.{◌≡◌, ◌++◌, length}
use Rattle.read_xtab_pprint.specs.Cells.{cells_left}
use Rattle.read_xtab_pprint.specs.Pprint.{words_of}
use Rattle.read_xtab_pprint.proofs.cells.copy_cells.Given as goal

abbrev pub invariant-loop-cell : goal.invariant-loop-cell
invariant-loop-cell l = l.cells.items ++ cells_left l.barred (words_of l.left) ≡ cells_left l.barred (words_of l.line)

abbrev pub decreases-loop-cell : goal.decreases-loop-cell
decreases-loop-cell l = length l.left
