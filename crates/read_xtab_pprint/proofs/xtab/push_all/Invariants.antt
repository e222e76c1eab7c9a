use Rattle.std.proofs.Common.{◌≡◌, ◌++◌}
use Rattle.read_xtab_pprint.proofs.xtab.push_all.Given as goal

abbrev pub invariant-loop-event : goal.invariant-loop-event
invariant-loop-event l = l.out ++ l.event-iterator.rest.items ≡ l.fn.out ++ l.fn.events
