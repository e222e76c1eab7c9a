use Rattle.std.proofs.Common.{length}
use Rattle.verb_chain.proofs.Passing.{Passed}
use Rattle.verb_chain.proofs.gate.Gate.take_each.Given as goal

abbrev pub invariant-loop-event : goal.invariant-loop-event
invariant-loop-event g l = Passed g.S.Step.verb g.S.Step.represents l.fn.self l.fn.events l.fn.out l.self l.events l.out

abbrev pub decreases-loop-event : goal.decreases-loop-event
decreases-loop-event g l = length l.events
