use Rattle.std.proofs.Common.{◌≡◌, length}
use Rattle.cli_grammar.specs.Kinds.{are_steppers}
use Rattle.cli_grammar.proofs.kind.are_steppers.Given as goal

-- the names so far are known
abbrev pub invariant-loop-rest : goal.invariant-loop-rest
invariant-loop-rest l = are_steppers l.left ≡ are_steppers l.word

abbrev pub decreases-loop-rest : goal.decreases-loop-rest
decreases-loop-rest l = length l.left
