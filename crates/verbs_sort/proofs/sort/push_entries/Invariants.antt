use Rattle.std.proofs.Common.{◌≡◌, ◌++◌, map}
use Rattle.verbs_base.specs.Records.{events_of}
use Rattle.verbs_sort.specs.Kept.{row_of}
use Rattle.verbs_sort.proofs.sort.push_entries.Given as goal

-- the events so far and those of the remaining entries are all
abbrev pub invariant-loop-entry : goal.invariant-loop-entry
invariant-loop-entry l =
    l.out ++ events_of (map row_of l.entry-iterator.rest.items) ≡ l.fn.out ++ events_of (map row_of l.fn.entries.items)
