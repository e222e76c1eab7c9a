use Rattle.std.proofs.Common.{◌≡◌, ◌++◌}
use Rattle.verbs_join.specs.Join.{lefts_in}
use Rattle.verbs_join.proofs.lefts.records_in.Given as goal

-- the records so far, with those of the remaining events, are all
abbrev pub invariant-loop-event : goal.invariant-loop-event
invariant-loop-event l = l.records.items ++ lefts_in l.event-iterator.rest.items ≡ lefts_in l.fn.events
