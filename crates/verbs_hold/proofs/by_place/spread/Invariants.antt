use Rattle.std.proofs.Common.{◌≡◌, true, length}
use Rattle.mlr_record.specs.Fields.{pairs_of}
use Rattle.mlr_spec.specs.Pairs.{are_distinct, keys_of}
use Rattle.verbs_hold.specs.ByPlace.{has_all_of, trees_of, values_at}
use Rattle.verbs_hold.proofs.ByPlace.{merged}
use Rattle.verbs_hold.proofs.by_place.spread.Given as goal

abbrev pub invariant-loop-field : goal.invariant-loop-field
invariant-loop-field l = record {
  table : l.table ≡ l.names;
  places : length l.values ≡ length l.names;
  known : has_all_of l.names (pairs_of l.field-iterator.rest.items) ≡ true;
  once : are_distinct (keys_of (pairs_of l.field-iterator.rest.items)) ≡ true;
  values : merged (pairs_of l.field-iterator.rest.items) (trees_of l.values) l.names ≡ values_at l.names (pairs_of l.fn.fields.items);
}
