-- A node in a map that paths made is less deep than the map: the measure that the model of the nodes gives.
use Rattle.std.specs.Prelude.{◌≤◌, List, [], ◌∷◌}
use Rattle.std.proofs.Common.{arith}
use denote.Param.Weighed.{most}
use Rattle.mlr_record.specs.declared.node.Node.{Node}
use Rattle.mlr_record.specs.declared.node.Node.TheVariants.{End, Made}
use Rattle.mlr_record.specs.declared.node.Child.{Child}
use Rattle.mlr_record.specs.declared.node.Nodes.TheDeep.{deep-Node, deep-Nodes, deep-Child}
use Rattle.mlr_record.specs.declared.node.Nodes.TheInside.{Inside}
use Rattle.mlr_record.specs.NodeView.{node_of, children_in}
use Rattle.mlr_record.specs.Nodes.{node_depth, list_depth}

deep-Node≤depth : (node : Node) → deep-Node node ≤ node_depth (node_of node)
deep-Node≤depth (End value) = omega arith
deep-Node≤depth (Made nodes) = omega arith

most≤depth : (children : List Child) → most deep-Child children ≤ list_depth (children_in children)
most≤depth [] = omega arith
most≤depth (child ∷ children) = omega (arith, deep-Node≤depth child.node, most≤depth children)

pub children_fall : (n : Inside) → deep-Nodes n ≤ list_depth (children_in n.children.items)
children_fall n = omega (arith, most≤depth n.children.items)
