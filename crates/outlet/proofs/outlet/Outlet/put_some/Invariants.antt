use Rattle.std.proofs.Common.{length, ◌≤◌}
use Rattle.outlet.proofs.Passing.{Passed}
use Rattle.outlet.proofs.outlet.Outlet.put_some.Given as goal

abbrev pub invariant-loop-event : goal.invariant-loop-event
invariant-loop-event l = Passed l.fn.self l.fn.events l.self l.events × (length l.events ≤ length l.fn.events)

abbrev pub decreases-loop-event : goal.decreases-loop-event
decreases-loop-event l = length l.events
