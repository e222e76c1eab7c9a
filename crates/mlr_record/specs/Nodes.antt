-- The nodes that the paths of a record have made so far, as a list of names with their nodes, and how deep
-- they are nested.
use Rattle.std.specs.Prelude.{◌≡◌, ℕ, ◌+◌, max, List, [], ◌∷◌}
use Rattle.std.proofs.Common.{ap, arith}
use Rattle.std.specs.Coded.{Coded, coded_ℕ, coded_list, coded×}
use base.Stored.{Gv, gnil, gnum, gcons, num}
use Rattle.mlr_spec.specs.TreeCode.{coded_tree}
use Rattle.mlr_spec.specs.Flatten.{Node, leaf, made, Nodes, no_nodes, node_and}

abbrev pub nodes_of : List (List ℕ × Node) → Nodes
nodes_of [] = no_nodes
nodes_of (pair ∷ pairs) = node_and pair.0 pair.1 (nodes_of pairs)

-- how deep maps made by paths are nested
abbrev mutual
  pub node_depth : Node → ℕ
  node_depth (leaf value) = 0
  node_depth (made nodes) = nodes_depth nodes + 1

  pub nodes_depth : Nodes → ℕ
  nodes_depth no_nodes = 0
  nodes_depth (node_and name node more) = max (node_depth node) (nodes_depth more)

abbrev pub list_depth : List (List ℕ × Node) → ℕ
list_depth pairs = nodes_depth (nodes_of pairs)

-- the code by which models hold nodes
abbrev coded_text : Coded (List ℕ)
coded_text = coded_list coded_ℕ

abbrev mutual
  code_node : Node → Gv
  code_node (leaf value) = gcons (gnum 0) (coded_tree.code value)
  code_node (made nodes) = gcons (gnum 1) (code_nodes nodes)

  code_nodes : Nodes → Gv
  code_nodes no_nodes = gnil
  code_nodes (node_and name node more) = gcons (coded_text.code name) (gcons (code_node node) (code_nodes more))

mutual
  pub code_node-inj : (x y : Node) → code_node x ≡ code_node y → x ≡ y
  code_node-inj (leaf v) (leaf w) same = ap leaf (coded_tree.inj v w (let e : coded_tree.code v ≡ coded_tree.code w = cc in e))
  code_node-inj (leaf v) (made n) same = absurd (let e : gnum 0 ≡ gnum 1 = cc in let f : ◌≡◌ {A = ℕ} 0 1 = ap num e in omega arith)
  code_node-inj (made m) (leaf w) same = absurd (let e : gnum 1 ≡ gnum 0 = cc in let f : ◌≡◌ {A = ℕ} 1 0 = ap num e in omega arith)
  code_node-inj (made m) (made n) same = ap made (code_nodes-inj m n (let e : code_nodes m ≡ code_nodes n = cc in e))

  code_nodes-inj : (x y : Nodes) → code_nodes x ≡ code_nodes y → x ≡ y
  code_nodes-inj no_nodes no_nodes same = λ i. no_nodes
  code_nodes-inj no_nodes (node_and name node more) same = absurd (let e : gnil ≡ gcons (coded_text.code name) (gcons (code_node node) (code_nodes more)) = same in cc)
  code_nodes-inj (node_and name node more) no_nodes same = absurd (let e : gcons (coded_text.code name) (gcons (code_node node) (code_nodes more)) ≡ gnil = same in cc)
  code_nodes-inj (node_and name node more) (node_and other node_2 more_2) same =
      let names = coded_text.inj name other (let e : coded_text.code name ≡ coded_text.code other = cc in e) in
      let nodes = code_node-inj node node_2 (let e : code_node node ≡ code_node node_2 = cc in e) in
      let rest = code_nodes-inj more more_2 (let e : code_nodes more ≡ code_nodes more_2 = cc in e) in
      λ i. node_and (names i) (nodes i) (rest i)

abbrev coded_node : Coded Node
coded_node = record { code = code_node; inj = code_node-inj }

abbrev pub coded_nodes : Coded (List (List ℕ × Node))
coded_nodes = coded_list (coded× coded_text coded_node)
