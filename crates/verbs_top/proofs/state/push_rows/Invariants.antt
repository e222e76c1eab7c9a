use Rattle.std.proofs.Common.{◌≡◌, ◌++◌, map}
use Rattle.verbs_base.specs.Records.{events_of}
use Rattle.verbs_top.specs.Best.{pair_of}
use Rattle.verbs_top.specs.State.{rows_in}
use Rattle.verbs_top.proofs.state.push_rows.Given as goal

-- the events so far and those of the remaining entries are all
abbrev pub invariant-loop-entry : goal.invariant-loop-entry
invariant-loop-entry l =
    l.out ++ events_of (rows_in (map pair_of l.entry-iterator.rest.items)) ≡ l.fn.out ++ events_of (rows_in (map pair_of l.fn.entries.items))
