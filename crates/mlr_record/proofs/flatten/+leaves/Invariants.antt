use Rattle.std.proofs.Common.{◌≡◌, ◌+◌, ◌*◌, drop}
use Rattle.mlr_spec.specs.Tree.{fields_of, trees_of}
use Rattle.mlr_spec.specs.Pairs.{put_each}
use Rattle.mlr_spec.specs.Flatten.{leaves_of_pairs, leaves_of_items}
use Rattle.mlr_value.specs.Value.{tree_of}
use Rattle.mlr_value.specs.Depth.{depth, pairs_depth, items_depth}
use Rattle.mlr_record.proofs.flatten.+leaves.Given as goal

abbrev pub decreases-put_leaves : goal.decreases-put_leaves
decreases-put_leaves l = 2 * depth (tree_of l.value.now)

abbrev pub decreases-put_pairs : goal.decreases-put_pairs
decreases-put_pairs l = 2 * pairs_depth l.map.now + 1

abbrev pub decreases-put_items : goal.decreases-put_items
decreases-put_items l = 2 * items_depth l.array.now + 1

abbrev pub invariant-put_pairs-loop-place : goal.invariant-put_pairs-loop-place
invariant-put_pairs-loop-place l =
    put_each l.into (leaves_of_pairs l.separator l.name (fields_of (drop l.place l.map)))
    ≡ put_each l.initial.into (leaves_of_pairs l.separator l.name (fields_of l.map))

abbrev pub invariant-put_items-loop-place : goal.invariant-put_items-loop-place
invariant-put_items-loop-place l =
    put_each l.into (leaves_of_items l.separator l.name (l.place + 1) (trees_of (drop l.place l.array)))
    ≡ put_each l.initial.into (leaves_of_items l.separator l.name 1 (trees_of l.array))
