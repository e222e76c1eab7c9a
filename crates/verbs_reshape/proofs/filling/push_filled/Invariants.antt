use Rattle.std.proofs.Common.{◌≡◌, ◌++◌}
use Rattle.verbs_base.specs.Records.{events_of, rows_in}
use Rattle.verbs_reshape.specs.ToWide.{filled_rows}
use Rattle.verbs_reshape.proofs.filling.push_filled.Given as goal

-- what was appended, with what the remaining records become, is what all become
abbrev pub invariant-loop-event : goal.invariant-loop-event
invariant-loop-event l =
    l.out ++ events_of (filled_rows l.keys (rows_in l.event-iterator.rest.items)) ≡ l.fn.out ++ events_of (filled_rows l.keys (rows_in l.fn.rows))
