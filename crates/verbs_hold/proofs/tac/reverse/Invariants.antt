use Rattle.verbs_hold.proofs.Turning.{IsTurned}
use Rattle.verbs_hold.proofs.tac.reverse.Given as goal

abbrev pub invariant-loop-place : goal.invariant-loop-place
invariant-loop-place l = IsTurned l.place l.fn.rows l.rows
