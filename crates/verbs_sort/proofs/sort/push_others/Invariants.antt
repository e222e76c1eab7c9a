use Rattle.std.proofs.Common.{◌≡◌, ◌++◌, map}
use Rattle.verbs_base.specs.Records.{events_of}
use Rattle.verbs_sort.specs.Kept.{held_row}
use Rattle.verbs_sort.proofs.sort.push_others.Given as goal

-- the events so far and those of the remaining records are all
abbrev pub invariant-loop-row : goal.invariant-loop-row
invariant-loop-row l =
    l.out ++ events_of (map held_row l.row-iterator.rest.items) ≡ l.fn.out ++ events_of (map held_row l.fn.others.items)
