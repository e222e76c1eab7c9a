use Rattle.std.proofs.Common.{◌≡◌, ◌++◌, length}
use Rattle.mlr_pattern.specs.Groups.{group_text}
use Rattle.mlr_pattern.specs.Replacing.{filled}
use Rattle.mlr_pattern.proofs.replace.append_filled.Given as goal

abbrev pub invariant-loop-left : goal.invariant-loop-left
invariant-loop-left l =
    l.out ++ filled (group_text l.found) l.left ≡ l.fn.out ++ filled (group_text l.found) l.fn.by

abbrev pub decreases-loop-left : goal.decreases-loop-left
decreases-loop-left l = length l.left
