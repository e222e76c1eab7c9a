use Rattle.std.proofs.Common.{length}
use Rattle.mlr_event.proofs.Listed.{Taken}
use Rattle.mlr_event.proofs.step.Step.step_all.Given as goal

abbrev pub invariant-loop-event : goal.invariant-loop-event
invariant-loop-event g l = Taken g.Self.Step.verb g.Self.Step.represents l.fn.self l.fn.events l.fn.out l.self l.events l.out

abbrev pub decreases-loop-event : goal.decreases-loop-event
decreases-loop-event g l = length l.events
