use Rattle.std.proofs.Common.{◌≡◌, length}
use Rattle.cli_grammar.specs.Kinds.{are_accumulators}
use Rattle.cli_grammar.proofs.kind.are_accumulators.Given as goal

-- the names so far are known
abbrev pub invariant-loop-rest : goal.invariant-loop-rest
invariant-loop-rest l = are_accumulators l.left ≡ are_accumulators l.word

abbrev pub decreases-loop-rest : goal.decreases-loop-rest
decreases-loop-rest l = length l.left
