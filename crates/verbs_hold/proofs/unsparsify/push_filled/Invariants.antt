use Rattle.std.proofs.Common.{◌≡◌, ◌++◌, map, true}
use Rattle.std.specs.List.{list_all}
use Rattle.verbs_hold.specs.ByPlace.{has_all_in, no_values, trees_of}
use Rattle.verbs_hold.specs.Unsparsify.{filled}
use Rattle.verbs_hold.specs.WithFields.{with_fields}
use Rattle.verbs_hold.proofs.unsparsify.push_filled.Given as goal

-- what was appended, with what the remaining records become, is what all become
abbrev pub invariant-loop-event : goal.invariant-loop-event
invariant-loop-event l = record {
  table : l.table ≡ l.names;
  free : trees_of l.values.items ≡ no_values l.names;
  known : list_all (has_all_in l.names) l.event-iterator.rest.items ≡ true;
  out : l.out ++ map (with_fields (filled l.fn.fill l.names)) l.event-iterator.rest.items ≡ l.fn.out ++ map (with_fields (filled l.fn.fill l.names)) l.fn.rows;
}
