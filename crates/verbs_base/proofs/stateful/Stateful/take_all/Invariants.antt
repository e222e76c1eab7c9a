use Rattle.std.proofs.Common.{length}
use Rattle.verbs_base.proofs.Passing.{Passed}
use Rattle.verbs_base.proofs.stateful.Stateful.take_all.Given as goal

abbrev pub invariant-loop-event : goal.invariant-loop-event
invariant-loop-event g l = Passed g.Self.Stateful.meaning g.Self.Stateful.represents l.fn.self l.fn.events l.fn.out l.self l.events l.out

abbrev pub decreases-loop-event : goal.decreases-loop-event
decreases-loop-event g l = length l.events
