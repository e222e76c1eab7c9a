-- What is at a path of nodes is what is there in the finished record, where no array has items.
use Rattle.std.proofs.Common.{◌≡◌, ℕ, ◌+◌, Bool, true, false, cond, ◌&&◌, List, [], ◌∷◌, map, Option, Some, None, refl, ap, ap₂, sym, ◌∙◌, inl, inr, codes}
use Rattle.std.specs.Fmt.{decimal}
use Rattle.std.specs.Option.{option_map}
use Rattle.std.specs.Str.{bytes_eq}
use Rattle.std.proofs.lemmas.Bool.{cases_Bool, and_parts, and_from, true≢false}
use Rattle.std.proofs.lemmas.Slice.Eq.{bytes_eq-Decides}
use Rattle.mlr_spec.specs.Flatten.{Node, leaf, made, Nodes, no_nodes, node_and, are_positions_from, change_child, children_of, collection_of_text, finished, finished_pairs, leaves_in, map_or_array, put_in, put_path, with_collection}
use Rattle.mlr_spec.specs.Pairs.{value_at}
use Rattle.mlr_spec.specs.Tree.{Tree, absent, empty, string, int, fraction, wide, boolean, mapping, array, error, no_trees, tree_and, trees_of, items_in, Fields, no_fields, field_and, fields_of, pairs_in, is_collection, map_of, array_of}
use Rattle.mlr_laws.specs.Paths.{Path, at_path, has_no_items, have_no_items, inside, numbered, within}
use Rattle.mlr_laws.proofs.Nodes.{child, node_at, node_inside}

abbrev pub Pairs : Type 0
Pairs = List (List ℕ × Tree)

-- nodes in which no array has items
abbrev mutual
  pub is_small : Node → Bool
  is_small (leaf value) = has_no_items value
  is_small (made nodes) = are_small nodes

  pub are_small : Nodes → Bool
  are_small no_nodes = true
  are_small (node_and name node more) = is_small node && are_small more

leaves-small : (pairs : Fields) → have_no_items pairs ≡ true → are_small (leaves_in pairs) ≡ true
leaves-small no_fields small = refl
leaves-small (field_and key value more) small =
    let parts = and_parts (has_no_items value) (have_no_items more) small in
    and_from (has_no_items value) (are_small (leaves_in more)) parts.0 (leaves-small more parts.1)

children-small : (node : Node) → is_small node ≡ true → are_small (children_of node) ≡ true
children-small (made nodes) small = small
children-small (leaf (mapping pairs)) small = leaves-small pairs small
children-small (leaf absent) small = refl
children-small (leaf empty) small = refl
children-small (leaf (string text)) small = refl
children-small (leaf (int n spelling)) small = refl
children-small (leaf (fraction text)) small = refl
children-small (leaf (wide text)) small = refl
children-small (leaf (boolean b)) small = refl
children-small (leaf (array items)) small = refl
children-small (leaf error) small = refl

change-small : (name : List ℕ) (f : Node → Node) (nodes : Nodes) → ((node : Node) → is_small node ≡ true → is_small (f node) ≡ true) → are_small nodes ≡ true → are_small (change_child name f nodes) ≡ true
change-small name f no_nodes keeps small = and_from (is_small (f (leaf absent))) true (keeps (leaf absent) refl) refl
change-small name f (node_and other node more) keeps small =
    let parts = and_parts (is_small node) (are_small more) small in
    elim (cases_Bool (bytes_eq other name)) as (λ _. are_small (change_child name f (node_and other node more)) ≡ true) [
      | inl here ↦ rw here (and_from (is_small (f node)) (are_small more) (keeps node parts.0) parts.1)
      | inr not_here ↦ rw not_here (and_from (is_small node) (are_small (change_child name f more)) parts.0 (change-small name f more keeps parts.1))
    ]

put_path-small : (path : Path) (value : Tree) (node : Node) → has_no_items value ≡ true → is_small node ≡ true → is_small (put_path path value node) ≡ true
put_path-small [] value node none small = none
put_path-small (name ∷ path) value node none small =
    change-small name (put_path path value) (children_of node) (λ inner is. put_path-small path value inner none is) (children-small node small)

pub put_in-small : (path : Path) (value : Tree) (nodes : Nodes) → has_no_items value ≡ true → are_small nodes ≡ true → are_small (put_in path value nodes) ≡ true
put_in-small [] value nodes none small = small
put_in-small (name ∷ path) value nodes none small = change-small name (put_path path value) nodes (λ inner is. put_path-small path value inner none is) small

text-small : (text : List ℕ) → has_no_items (collection_of_text text) ≡ true
text-small text = either (bytes_eq text (codes "{}")) (bytes_eq text (codes "[]"))
  where
    either : (t u : Bool) → has_no_items (cond t (map_of []) (cond u (array_of []) (string text))) ≡ true
    either true u = refl
    either false true = refl
    either false false = refl

pub with_collection-small : (value : Tree) → has_no_items value ≡ true → has_no_items (with_collection value) ≡ true
with_collection-small (string text) small = text-small text
with_collection-small absent small = refl
with_collection-small empty small = refl
with_collection-small (int n spelling) small = refl
with_collection-small (fraction text) small = refl
with_collection-small (wide text) small = refl
with_collection-small (boolean b) small = refl
with_collection-small (mapping pairs) small = small
with_collection-small (array items) small = small
with_collection-small error small = refl

-- the pairs in a map or an array that was made
pairs-back : (pairs : Pairs) → pairs_in (fields_of pairs) ≡ pairs
pairs-back [] = refl
pairs-back (pair ∷ pairs) = ap (λ more. pair ∷ more) (pairs-back pairs)

items-back : (items : List Tree) → items_in (trees_of items) ≡ items
items-back [] = refl
items-back (item ∷ items) = ap (λ more. item ∷ more) (items-back items)

numbered-are : (pairs : Pairs) (n : ℕ) → are_positions_from n pairs ≡ true → numbered n (map (λ p. p.1) pairs) ≡ pairs
numbered-are [] n are = refl
numbered-are (pair ∷ pairs) n are =
    let parts = and_parts (bytes_eq pair.0 (decimal n)) (are_positions_from (n + 1) pairs) are in
    ap₂ (λ key more. (key, pair.1) ∷ more) (sym ((bytes_eq-Decides pair.0 (decimal n)).0 parts.0)) (numbered-are pairs (n + 1) parts.1)

within-made : (pairs : Pairs) → within (map_or_array pairs) ≡ pairs
within-made [] = refl
within-made (pair ∷ pairs) =
    let all = pair ∷ pairs in
    elim (cases_Bool (are_positions_from 1 all)) as (λ _. within (map_or_array all) ≡ all) [
      | inl are ↦ rw are (ap (numbered 1) (items-back (map (λ p. p.1) all)) ∙ numbered-are all 1 are)
      | inr arent ↦ rw arent (pairs-back all)
    ]

pub made-collection : (nodes : Nodes) → is_collection (finished (made nodes)) ≡ true
made-collection nodes = collection (finished_pairs nodes)
  where
    either : (t : Bool) (one other : Tree) → is_collection one ≡ true → is_collection other ≡ true → is_collection (cond t one other) ≡ true
    either true one other first second = first
    either false one other first second = second

    collection : (pairs : Pairs) → is_collection (map_or_array pairs) ≡ true
    collection [] = refl
    collection (pair ∷ pairs) = either (are_positions_from 1 (pair ∷ pairs)) (array_of (map (λ p. p.1) (pair ∷ pairs))) (map_of (pair ∷ pairs)) refl refl

leaves-finished : (pairs : Fields) → finished_pairs (leaves_in pairs) ≡ pairs_in pairs
leaves-finished no_fields = refl
leaves-finished (field_and key value more) = ap (λ rest. (key, value) ∷ rest) (leaves-finished more)

-- what is within a finished node, where no array has items
within-node : (node : Node) → is_small node ≡ true → within (finished node) ≡ finished_pairs (children_of node)
within-node (made nodes) small = within-made (finished_pairs nodes)
within-node (leaf (mapping pairs)) small = sym (leaves-finished pairs)
within-node (leaf (array no_trees)) small = refl
within-node (leaf (array (tree_and item more))) small = absurd (true≢false (sym small))
within-node (leaf absent) small = refl
within-node (leaf empty) small = refl
within-node (leaf (string text)) small = refl
within-node (leaf (int n spelling)) small = refl
within-node (leaf (fraction text)) small = refl
within-node (leaf (wide text)) small = refl
within-node (leaf (boolean b)) small = refl
within-node (leaf error) small = refl

value-finished : (name : List ℕ) (nodes : Nodes) → value_at name (finished_pairs nodes) ≡ option_map finished (child name nodes)
value-finished name no_nodes = refl
value-finished name (node_and other node more) =
    elim (cases_Bool (bytes_eq other name)) as (λ _. value_at name (finished_pairs (node_and other node more)) ≡ option_map finished (child name (node_and other node more))) [
      | inl here ↦ rw here refl
      | inr not_here ↦ rw not_here (value-finished name more)
    ]

child-small : (name : List ℕ) (nodes : Nodes) (node : Node) → are_small nodes ≡ true → child name nodes ≡ Some node → is_small node ≡ true
child-small name no_nodes node small found = absurd (let e : None ≡ Some node = found in cc)
child-small name (node_and other first more) node small found =
    let parts = and_parts (is_small first) (are_small more) small in
    elim (cases_Bool (bytes_eq other name)) as (λ _. is_small node ≡ true) [
      | inl here ↦
          let e : Some first ≡ Some node = sym (ap (λ t. cond t (Some first) (child name more)) here) ∙ found in
          let same : first ≡ node = cc in
          ap is_small (sym same) ∙ parts.0
      | inr not_here ↦ child-small name more node parts.1 (sym (ap (λ t. cond t (Some first) (child name more)) not_here) ∙ found)
    ]

pub at-finished : (path : Path) (nodes : Nodes) → are_small nodes ≡ true → at_path path (finished_pairs nodes) ≡ option_map finished (node_at path nodes)
at-finished [] nodes small = refl
at-finished (name ∷ []) nodes small = value-finished name nodes
at-finished (name ∷ next ∷ path) nodes small =
    ap (λ found. elim found [ Some value ↦ at_path (next ∷ path) (within value) | None ↦ None ]) (value-finished name nodes)
    ∙ by-child (child name nodes) refl (λ node is. at-finished (next ∷ path) (children_of node) (children-small node (child-small name nodes node small is)))
  where
    by-child : (found : Option Node) → child name nodes ≡ found
        → ((node : Node) → child name nodes ≡ Some node → at_path (next ∷ path) (finished_pairs (children_of node)) ≡ option_map finished (node_at (next ∷ path) (children_of node)))
        → (elim (option_map finished found) [ Some value ↦ at_path (next ∷ path) (within value) | None ↦ None ])
        ≡ option_map finished (elim found [ Some node ↦ node_at (next ∷ path) (children_of node) | None ↦ None ])
    by-child None is later = refl
    by-child (Some node) is later = ap (at_path (next ∷ path)) (within-node node (child-small name nodes node small is)) ∙ later node is

-- what is at a path within a value that was set
pub at-inside : (path : Path) (value : Tree) → has_no_items value ≡ true → option_map finished (node_inside path (leaf value)) ≡ inside path value
at-inside [] value none = refl
at-inside (name ∷ path) value none =
    sym (at-finished (name ∷ path) (children_of (leaf value)) (children-small (leaf value) none))
    ∙ ap (at_path (name ∷ path)) (sym (within-node (leaf value) none))
