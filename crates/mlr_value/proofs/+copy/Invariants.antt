use Rattle.std.proofs.Common.{◌≡◌, ◌+◌, ◌*◌, take}
use Rattle.mlr_value.specs.Value.{tree_of}
use Rattle.mlr_value.specs.Depth.{depth, pairs_depth, items_depth}
use Rattle.mlr_value.proofs.+copy.Given as goal

abbrev pub decreases-value::Value::copy : goal.decreases-value::Value::copy
decreases-value::Value::copy l = 3 * depth (tree_of l.self.now)

abbrev pub decreases-map_value::MapValue::copy : goal.decreases-map_value::MapValue::copy
decreases-map_value::MapValue::copy l = 3 * pairs_depth l.self.now + 2

abbrev pub decreases-map_value::copy_pairs : goal.decreases-map_value::copy_pairs
decreases-map_value::copy_pairs l = 3 * pairs_depth l.from.now + 1

abbrev pub decreases-array_value::ArrayValue::copy : goal.decreases-array_value::ArrayValue::copy
decreases-array_value::ArrayValue::copy l = 3 * items_depth l.self.now + 2

abbrev pub decreases-array_value::copy_items : goal.decreases-array_value::copy_items
decreases-array_value::copy_items l = 3 * items_depth l.from.now + 1

abbrev pub invariant-map_value::copy_pairs-loop-place : goal.invariant-map_value::copy_pairs-loop-place
invariant-map_value::copy_pairs-loop-place l = l.into ≡ take l.place l.from

abbrev pub invariant-array_value::copy_items-loop-place : goal.invariant-array_value::copy_items-loop-place
invariant-array_value::copy_items-loop-place l = l.into ≡ take l.place l.from
