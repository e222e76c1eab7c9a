use Rattle.std.proofs.Common.{◌≡◌, ◌++◌, length}
use Rattle.cli_choices.specs.Names.{all_names}
use Rattle.cli_choices.proofs.names.push_all.Given as goal

-- the remaining names follow those so far
abbrev pub invariant-loop-rest : goal.invariant-loop-rest
invariant-loop-rest l = l.names ++ all_names l.left ≡ l.initial.names ++ all_names l.word

abbrev pub decreases-loop-rest : goal.decreases-loop-rest
decreases-loop-rest l = length l.left
