use Rattle.std.proofs.Common.{◌≡◌, drop}
use Rattle.cli_plan.specs.Clashes.{first_comment}
use Rattle.cli_plan.proofs.clash.first_comment.Given as goal

-- no flag so far sets what becomes of comments
abbrev pub invariant-loop-flag : goal.invariant-loop-flag
invariant-loop-flag l = first_comment (drop l.flag-index l.flags) ≡ first_comment l.flags
