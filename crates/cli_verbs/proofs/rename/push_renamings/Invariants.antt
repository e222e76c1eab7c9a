use Rattle.std.proofs.Common.{◌≡◌, ◌++◌, length}
use Rattle.cli_verbs.specs.Rename.{renamings_of}
use Rattle.cli_verbs.proofs.rename.push_renamings.Given as goal

-- the remaining renamings follow those so far
abbrev pub invariant-loop-left : goal.invariant-loop-left
invariant-loop-left l = l.renamings.items ++ renamings_of l.left ≡ l.initial.renamings.items ++ renamings_of l.names

abbrev pub decreases-loop-left : goal.decreases-loop-left
decreases-loop-left l = length l.left
