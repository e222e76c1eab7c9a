use Rattle.std.proofs.Common.{◌≡◌, ◌++◌, length}
use Rattle.read_dkvp_nidx.specs.Markdown.{unescaped}
use Rattle.read_dkvp_nidx.proofs.cells.unescaped.Given as goal

abbrev pub invariant-loop-left : goal.invariant-loop-left
invariant-loop-left l = l.cell ++ unescaped l.left ≡ unescaped l.text

abbrev pub decreases-loop-left : goal.decreases-loop-left
decreases-loop-left l = length l.left
