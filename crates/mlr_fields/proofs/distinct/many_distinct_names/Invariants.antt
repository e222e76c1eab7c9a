use Rattle.std.proofs.Common.{◌≡◌, ◌++◌, drop}
use Rattle.mlr_event.specs.Reading.{distinct_after, distinct_names}
use Rattle.mlr_fields.proofs.distinct.many_distinct_names.Given as goal

-- the names so far and the remaining ones give what all names give
abbrev pub invariant-loop-name : goal.invariant-loop-name
invariant-loop-name l = record {
  same : l.index ≡ l.made.items;
  names : l.made.items ++ distinct_after l.made.items (drop l.name-index l.names) ≡ distinct_names l.names;
}
