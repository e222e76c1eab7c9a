use Rattle.std.proofs.Common.{◌≡◌, ◌+◌, ◌*◌, ◌++◌, drop, map}
use Rattle.mlr_spec.specs.Flatten.{finished_pairs}
use Rattle.mlr_record.specs.Nodes.{nodes_of, node_depth, list_depth}
use Rattle.mlr_record.specs.NodeView.{node_of}
use Rattle.mlr_record.proofs.unflatten.+finish.Given as goal

abbrev pub decreases-finished : goal.decreases-finished
decreases-finished l = 2 * node_depth (node_of l.node.now)

abbrev pub decreases-finish_items : goal.decreases-finish_items
decreases-finish_items l = 2 * list_depth l.nodes.now + 1

abbrev pub decreases-finish_pairs : goal.decreases-finish_pairs
decreases-finish_pairs l = 2 * list_depth l.nodes.now + 1

abbrev pub invariant-finish_items-loop-place : goal.invariant-finish_items-loop-place
invariant-finish_items-loop-place l =
    l.into ++ map (λ pair. pair.1) (finished_pairs (nodes_of (drop l.place l.nodes))) ≡ map (λ pair. pair.1) (finished_pairs (nodes_of l.nodes))

abbrev pub invariant-finish_pairs-loop-place : goal.invariant-finish_pairs-loop-place
invariant-finish_pairs-loop-place l = l.into ++ finished_pairs (nodes_of (drop l.place l.nodes)) ≡ finished_pairs (nodes_of l.nodes)
