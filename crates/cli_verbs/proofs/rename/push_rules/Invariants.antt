use Rattle.std.proofs.Common.{length}
use Rattle.cli_verbs.specs.Rename.{compiled_rules}
use Rattle.cli_verbs.proofs.Ruling.{Ruling}
use Rattle.cli_verbs.proofs.rename.push_rules.Given as goal

abbrev pub invariant-loop-left : goal.invariant-loop-left
invariant-loop-left l =
    Ruling l.number l.names l.left (compiled_rules l.initial.rules.items) (compiled_rules l.rules.items)

abbrev pub decreases-loop-left : goal.decreases-loop-left
decreases-loop-left l = length l.left
