use Rattle.std.proofs.Common.{◌≡◌, ◌+◌, ◌*◌, ◌++◌, drop}
use Rattle.mlr_spec.specs.Tree.{fields_of, trees_of}
use Rattle.mlr_value.specs.Value.{tree_of}
use Rattle.mlr_value.specs.Depth.{depth, pairs_depth, items_depth}
use Rattle.mlr_record.specs.Fields.{pairs_of}
use Rattle.verbs_fields.specs.SortWithinRecords.{deep_pairs, deep_items}
use Rattle.verbs_fields.proofs.sort_within_records.+sorted.Given as goal

abbrev pub decreases-sorted_value : goal.decreases-sorted_value
decreases-sorted_value l = 2 * depth (tree_of l.value.now)

abbrev pub decreases-push_pairs : goal.decreases-push_pairs
decreases-push_pairs l = 2 * pairs_depth l.map.now + 1

abbrev pub decreases-push_items : goal.decreases-push_items
decreases-push_items l = 2 * items_depth l.array.now + 1

abbrev pub invariant-push_pairs-loop-place : goal.invariant-push_pairs-loop-place
invariant-push_pairs-loop-place l =
    pairs_of l.into.items ++ deep_pairs (fields_of (drop l.place l.map)) ≡ pairs_of l.initial.into.items ++ deep_pairs (fields_of l.map)

abbrev pub invariant-push_items-loop-place : goal.invariant-push_items-loop-place
invariant-push_items-loop-place l = l.into ++ deep_items (trees_of (drop l.place l.array)) ≡ l.initial.into ++ deep_items (trees_of l.array)
