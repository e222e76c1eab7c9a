-- The nodes of the program as the nodes that contracts see.
use Rattle.std.specs.Prelude.{ℕ, List, [], map}
use Rattle.mlr_spec.specs.Tree.{Tree, absent, map_of, array_of}
use Rattle.mlr_spec.specs.Flatten.{Node, leaf, made}
use Rattle.mlr_value.specs.Value.{tree_of}
use Rattle.mlr_record.specs.declared.node.Leaf.{Leaf}
use Rattle.mlr_record.specs.declared.node.Leaf.TheVariants.{Represents, NoPairs, Nothing, NoItems}
use Rattle.mlr_record.specs.declared.node.Node.{Node as NodeValue}
use Rattle.mlr_record.specs.declared.node.Node.TheVariants.{End, Made}
use Rattle.mlr_record.specs.declared.node.Child.{Child}
use Rattle.mlr_record.specs.Nodes.{nodes_of}

-- the value at the end of a path
abbrev pub tree_at_end : Leaf → Tree
tree_at_end (Represents value) = tree_of value.now
tree_at_end NoPairs = map_of []
tree_at_end Nothing = absent
tree_at_end NoItems = array_of []

abbrev pub node_of : NodeValue → Node
node_of (End leaf_value) = leaf (tree_at_end leaf_value)
node_of (Made nodes) = made (nodes_of nodes)

abbrev pub child_of : Child → List ℕ × Node
child_of child = (child.name.now, node_of child.node)

abbrev pub children_in : List Child → List (List ℕ × Node)
children_in children = map child_of children
