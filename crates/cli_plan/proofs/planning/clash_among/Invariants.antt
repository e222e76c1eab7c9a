use Rattle.std.proofs.Common.{◌≡◌, true, drop}
use Rattle.std.specs.Prelude.{◌==◌}
use Rattle.cli_plan.specs.Accepting.{clash_among}
use Rattle.cli_plan.proofs.planning.clash_among.Given as goal

-- no verb so far contradicts another
abbrev pub invariant-loop-before : goal.invariant-loop-before
invariant-loop-before l = clash_among (l.before == 0) (drop l.before l.verbs) ≡ clash_among true l.verbs
