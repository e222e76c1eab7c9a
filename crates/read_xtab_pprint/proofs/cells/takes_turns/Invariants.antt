use Rattle.std.proofs.Common.{◌≡◌, length}
use Rattle.read_xtab_pprint.specs.Cells.{takes_turns}
use Rattle.read_xtab_pprint.specs.Pprint.{words_of}
use Rattle.read_xtab_pprint.proofs.cells.takes_turns.Given as goal

abbrev pub invariant-loop-bar : goal.invariant-loop-bar
invariant-loop-bar l = takes_turns (words_of l.left) ≡ takes_turns (words_of l.line)

abbrev pub decreases-loop-bar : goal.decreases-loop-bar
decreases-loop-bar l = length l.left
