use Rattle.std.proofs.Common.{◌≡◌, ◌++◌, length, map}
use Rattle.verbs_hold.specs.CountSimilar.{with_count}
use Rattle.verbs_hold.specs.WithFields.{with_fields}
use Rattle.verbs_hold.proofs.count_similar.push_counted.Given as goal

-- what was appended, with what the remaining records become, is what all become
abbrev pub invariant-loop-event : goal.invariant-loop-event
invariant-loop-event l =
    l.out ++ map (with_fields (with_count l.fn.output (length l.fn.rows))) l.event-iterator.rest.items ≡ l.fn.out ++ map (with_fields (with_count l.fn.output (length l.fn.rows))) l.fn.rows
