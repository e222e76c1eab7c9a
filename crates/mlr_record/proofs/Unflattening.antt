-- A record that unflattening leaves as it is, and the steps of the others: one field, one pair and one node after another.
use Rattle.std.proofs.Common.{◌≡◌, ℕ, zero, suc, ◌+◌, ◌≤◌, true, false, cond, ◌&&◌, List, [], ◌∷◌, ◌++◌, map, length, drop, Some, None, slice_get, refl, ap, ap₂, sym, ◌∙◌, arith, inl, inr, append_assoc, nat_le}
use Rattle.std.specs.Prelude.{codes}
use Rattle.std.specs.List.{list_any}
use Rattle.std.specs.Option.{unwrap_or, is_some}
use Rattle.std.specs.Str.{bytes_eq}
use Rattle.std.specs.Fmt.{decimal}
use Rattle.std.proofs.lemmas.Bool.{cases_Bool, or_parts, true≢false}
use Rattle.mlr_spec.specs.Tree.{Tree, absent, empty, string, int, fraction, wide, boolean, mapping, array, error, fields_of, map_of, array_of}
use Rattle.mlr_spec.specs.Pairs.{keys_of, are_distinct, value_at, put_at, put_each}
use Rattle.mlr_spec.specs.Split.{place_in}
use Rattle.mlr_spec.specs.Flatten.{Node, Nodes, leaf, made, node_and, leaves_in, change_child, put_path, put_in, path_of, with_collection, are_positions_from, finished, finished_pairs, put_paths, unflat}
use Rattle.mlr_spec.proofs.Pairs.{put_at-none}
use Rattle.mlr_spec.proofs.Splitting.{cases_Option, split_by-none}
use Rattle.mlr_spec.proofs.Flattening.{put_each-distinct, drop-more, absent-before}
use Rattle.mlr_record.specs.Nodes.{nodes_of, node_depth, list_depth}
use Rattle.mlr_record.specs.Paths.{represents_collection, is_unflattened, ends, is_array}

-- a child that is changed is the node of its name, set there again
change_child-put : (name : List ℕ) (change : Node → Node) (pairs : List (List ℕ × Node))
    → change_child name change (nodes_of pairs) ≡ nodes_of (put_at name (change (unwrap_or (value_at name pairs) (leaf absent))) pairs)
change_child-put name change [] = refl
change_child-put name change (p ∷ pairs) =
    elim (cases_Bool (bytes_eq p.0 name)) as (λ _. change_child name change (nodes_of (p ∷ pairs)) ≡ nodes_of (put_at name (change (unwrap_or (value_at name (p ∷ pairs)) (leaf absent))) (p ∷ pairs))) [
      | inl same ↦ rw same refl
      | inr other ↦
          let new = change (unwrap_or (value_at name (p ∷ pairs)) (leaf absent)) in
          ap (λ t. cond t (node_and p.0 (change p.1) (nodes_of pairs)) (node_and p.0 p.1 (change_child name change (nodes_of pairs)))) other
          ∙ ap (node_and p.0 p.1) (change_child-put name change pairs)
          ∙ ap (λ o. nodes_of (p ∷ put_at name (change (unwrap_or o (leaf absent))) pairs)) (sym (ap (λ t. cond t (Some p.1) (value_at name pairs)) other))
          ∙ ap (λ t. nodes_of (cond t ((p.0, new) ∷ pairs) (p ∷ put_at name new pairs))) (sym other)
    ]

-- the same where the node was taken out, changed and set there again
pub change_child-taken : (name : List ℕ) (change : Node → Node) (before left after : List (List ℕ × Node)) (taken node : Node)
    → taken ≡ unwrap_or (value_at name before) (leaf absent) → ((n : Node) → put_at name n left ≡ put_at name n before) → node ≡ change taken
    → after ≡ put_at name node left → nodes_of after ≡ change_child name change (nodes_of before)
change_child-taken name change before left after taken node is_taken is_left is_changed put =
    ap nodes_of (put ∙ is_left node ∙ ap (λ n. put_at name n before) (is_changed ∙ ap change is_taken))
    ∙ sym (change_child-put name change before)

-- values as nodes of their names
put_at-ends : (name : List ℕ) (value : Tree) (pairs : List (List ℕ × Tree)) → put_at name (leaf value) (ends pairs) ≡ ends (put_at name value pairs)
put_at-ends name value [] = refl
put_at-ends name value (p ∷ pairs) =
    elim (cases_Bool (bytes_eq p.0 name)) as (λ _. put_at name (leaf value) (ends (p ∷ pairs)) ≡ ends (put_at name value (p ∷ pairs))) [
      | inl same ↦ rw same refl
      | inr other ↦ rw other (ap (λ x. (p.0, leaf p.1) ∷ x) (put_at-ends name value pairs))
    ]

-- a value set under a name among values
pub put_in-ends : (name : List ℕ) (value : Tree) (pairs : List (List ℕ × Tree)) → put_in (name ∷ []) value (nodes_of (ends pairs)) ≡ nodes_of (ends (put_at name value pairs))
put_in-ends name value pairs = change_child-put name (put_path [] value) (ends pairs) ∙ ap nodes_of (put_at-ends name value pairs)

pub finished-ends : (pairs : List (List ℕ × Tree)) → finished_pairs (nodes_of (ends pairs)) ≡ pairs
finished-ends [] = refl
finished-ends (p ∷ pairs) = ap (λ x. p ∷ x) (finished-ends pairs)

pub leaves_in-ends : (pairs : List (List ℕ × Tree)) → leaves_in (fields_of pairs) ≡ nodes_of (ends pairs)
leaves_in-ends [] = refl
leaves_in-ends (p ∷ pairs) = ap (node_and p.0 (leaf p.1)) (leaves_in-ends pairs)

keys_of-ends : (pairs : List (List ℕ × Tree)) → keys_of (ends pairs) ≡ keys_of pairs
keys_of-ends [] = refl
keys_of-ends (p ∷ pairs) = ap (λ keys. p.0 ∷ keys) (keys_of-ends pairs)

keys_of-finished : (pairs : List (List ℕ × Node)) → keys_of (finished_pairs (nodes_of pairs)) ≡ keys_of pairs
keys_of-finished [] = refl
keys_of-finished (p ∷ pairs) = ap (λ keys. p.0 ∷ keys) (keys_of-finished pairs)

with_collection-plain : (value : Tree) → represents_collection value ≡ false → with_collection value ≡ value
with_collection-plain (string text) plain =
    let parts = or_parts (bytes_eq text (codes "{}")) (bytes_eq text (codes "[]")) plain in
    rw (parts.0, parts.1) refl
with_collection-plain absent plain = refl
with_collection-plain empty plain = refl
with_collection-plain (int n spelling) plain = refl
with_collection-plain (fraction text) plain = refl
with_collection-plain (wide text) plain = refl
with_collection-plain (boolean b) plain = refl
with_collection-plain (mapping pairs) plain = refl
with_collection-plain (array items) plain = refl
with_collection-plain error plain = refl

module _ (separator : List ℕ) where
  path_of-plain : (name : List ℕ) → is_some (place_in separator name) ≡ false → path_of separator name ≡ name ∷ []
  path_of-plain name plain =
      elim (cases_Option (place_in separator name)) as (λ _. path_of separator name ≡ name ∷ []) [
        | inl none ↦ ap (λ parts. cond (nat_le (length parts) 200) parts (name ∷ [])) (split_by-none separator name none)
        | inr found ↦ absurd (true≢false (sym (ap is_some found.1) ∙ plain))
      ]

  -- a field that unflattening doesn't change is set under its whole name
  pub put_in-plain : (p : List ℕ × Tree) (nodes : Nodes) → is_unflattened separator p ≡ false → put_in (path_of separator p.0) (with_collection p.1) nodes ≡ put_in (p.0 ∷ []) p.1 nodes
  put_in-plain p nodes plain =
      let here = or_parts (is_some (place_in separator p.0)) (represents_collection p.1) plain in
      ap₂ (λ path value. put_in path value nodes) (path_of-plain p.0 here.0) (with_collection-plain p.1 here.1)

  put_paths-plain : (prefix pairs : List (List ℕ × Tree)) → list_any (is_unflattened separator) pairs ≡ false → put_paths separator (nodes_of (ends prefix)) pairs ≡ nodes_of (ends (put_each prefix pairs))
  put_paths-plain prefix [] plain = refl
  put_paths-plain prefix (p ∷ pairs) plain =
      let parts = or_parts (is_unflattened separator p) (list_any (is_unflattened separator) pairs) plain in
      let put = put_in-plain p (nodes_of (ends prefix)) parts.0 ∙ put_in-ends p.0 p.1 prefix in
      ap (λ nodes. put_paths separator nodes pairs) put ∙ put_paths-plain (put_at p.0 p.1 prefix) pairs parts.1

  -- a record whose names spell no paths, and without the texts of empty collections
  pub unflat-plain : (pairs : List (List ℕ × Tree)) → are_distinct (keys_of pairs) ≡ true → list_any (is_unflattened separator) pairs ≡ false → unflat separator pairs ≡ pairs
  unflat-plain pairs distinct plain =
      ap finished_pairs (put_paths-plain [] pairs plain) ∙ finished-ends (put_each [] pairs) ∙ put_each-distinct [] pairs distinct

  -- one more field, set before the remaining ones
  pub paths-more : (into after : List (List ℕ × Node)) (pairs : List (List ℕ × Tree)) (place : ℕ) (name : List ℕ) (value : Tree) → slice_get pairs place ≡ Some (name, value)
      → nodes_of after ≡ put_in (path_of separator name) (with_collection value) (nodes_of into)
      → put_paths separator (nodes_of after) (drop (place + 1) pairs) ≡ put_paths separator (nodes_of into) (drop place pairs)
  paths-more into after pairs place name value at put =
      ap (λ nodes. put_paths separator nodes (drop (place + 1) pairs)) put
      ∙ sym (ap (put_paths separator (nodes_of into)) (drop-more pairs place (name, value) at))

-- one more pair of a map as a node, set before the remaining ones
module _ (into : List (List ℕ × Node)) (pairs : List (List ℕ × Tree)) (place : ℕ) (name : List ℕ) (value : Tree) (at : slice_get pairs place ≡ Some (name, value)) (so_far : into ++ ends (drop place pairs) ≡ ends pairs) where
  next-end : into ++ (name, leaf value) ∷ ends (drop (place + 1) pairs) ≡ ends pairs
  next-end = sym (ap (λ left. into ++ ends left) (drop-more pairs place (name, value) at)) ∙ so_far

  pub end-absent : are_distinct (keys_of pairs) ≡ true → value_at name into ≡ None
  end-absent distinct =
      absent-before into (name, leaf value) (ends (drop (place + 1) pairs)) (ap (λ x. are_distinct (keys_of x)) next-end ∙ ap are_distinct (keys_of-ends pairs) ∙ distinct)

  pub ends-more : (after : List (List ℕ × Node)) → after ≡ into ++ (name, leaf value) ∷ [] → after ++ ends (drop (place + 1) pairs) ≡ ends pairs
  ends-more after pushed = ap (λ x. x ++ ends (drop (place + 1) pairs)) pushed ∙ append_assoc into ((name, leaf value) ∷ []) (ends (drop (place + 1) pairs)) ∙ next-end

-- one more node that is finished
module _ (into : List (List ℕ × Tree)) (nodes : List (List ℕ × Node)) (place : ℕ) (name : List ℕ) (node : Node) (at : slice_get nodes place ≡ Some (name, node))
    (so_far : into ++ finished_pairs (nodes_of (drop place nodes)) ≡ finished_pairs (nodes_of nodes)) where
  next-finished : into ++ (name, finished node) ∷ finished_pairs (nodes_of (drop (place + 1) nodes)) ≡ finished_pairs (nodes_of nodes)
  next-finished = sym (ap (λ left. into ++ finished_pairs (nodes_of left)) (drop-more nodes place (name, node) at)) ∙ so_far

  pub finished-absent : are_distinct (keys_of nodes) ≡ true → value_at name into ≡ None
  finished-absent distinct =
      absent-before into (name, finished node) (finished_pairs (nodes_of (drop (place + 1) nodes)))
      (ap (λ x. are_distinct (keys_of x)) next-finished ∙ ap are_distinct (keys_of-finished nodes) ∙ distinct)

  pub finished-more : (after : List (List ℕ × Tree)) → after ≡ into ++ (name, finished node) ∷ [] → after ++ finished_pairs (nodes_of (drop (place + 1) nodes)) ≡ finished_pairs (nodes_of nodes)
  finished-more after pushed =
      ap (λ x. x ++ finished_pairs (nodes_of (drop (place + 1) nodes))) pushed
      ∙ append_assoc into ((name, finished node) ∷ []) (finished_pairs (nodes_of (drop (place + 1) nodes))) ∙ next-finished

  pub finished-put : (after : List (List ℕ × Tree)) → are_distinct (keys_of nodes) ≡ true → after ≡ put_at name (finished node) into → after ++ finished_pairs (nodes_of (drop (place + 1) nodes)) ≡ finished_pairs (nodes_of nodes)
  finished-put after distinct put = finished-more after (put ∙ put_at-none name (finished node) into (finished-absent distinct))

pub items-finished-more : (into after : List Tree) (nodes : List (List ℕ × Node)) (place : ℕ) (name : List ℕ) (node : Node) → slice_get nodes place ≡ Some (name, node)
    → into ++ map (λ p. p.1) (finished_pairs (nodes_of (drop place nodes))) ≡ map (λ p. p.1) (finished_pairs (nodes_of nodes))
    → after ≡ into ++ finished node ∷ []
    → after ++ map (λ p. p.1) (finished_pairs (nodes_of (drop (place + 1) nodes))) ≡ map (λ p. p.1) (finished_pairs (nodes_of nodes))
items-finished-more into after nodes place name node at so_far pushed =
    let left = map (λ p. p.1) (finished_pairs (nodes_of (drop (place + 1) nodes))) in
    ap (λ x. x ++ left) pushed ∙ append_assoc into (finished node ∷ []) left
    ∙ sym (ap (λ following. into ++ map (λ p. p.1) (finished_pairs (nodes_of following))) (drop-more nodes place (name, node) at)) ∙ so_far

-- a node is no deeper than the nodes that it is among
pub depth-node : (nodes : List (List ℕ × Node)) (place : ℕ) (entry : List ℕ × Node) → slice_get nodes place ≡ Some entry → node_depth entry.1 ≤ list_depth nodes
depth-node [] place entry at = absurd (let e : None ≡ Some entry = at in cc)
depth-node (x ∷ nodes) zero entry at =
    let same : x ≡ entry = cc in
    omega (arith, ap (λ p. node_depth p.1) same)
depth-node (x ∷ nodes) (suc place) entry at = omega (arith, depth-node nodes place entry at)

-- what a map that paths made becomes
pub finished-array : (nodes : List (List ℕ × Node)) → is_array (finished_pairs (nodes_of nodes)) ≡ true → finished (made (nodes_of nodes)) ≡ array_of (map (λ p. p.1) (finished_pairs (nodes_of nodes)))
finished-array [] positions = absurd (true≢false (sym positions))
finished-array (p ∷ nodes) positions = ap (λ t. cond t (array_of (map (λ p. p.1) (finished_pairs (nodes_of (p ∷ nodes))))) (map_of (finished_pairs (nodes_of (p ∷ nodes))))) positions

pub finished-map : (nodes : List (List ℕ × Node)) → is_array (finished_pairs (nodes_of nodes)) ≡ false → finished (made (nodes_of nodes)) ≡ map_of (finished_pairs (nodes_of nodes))
finished-map [] positions = refl
finished-map (p ∷ nodes) positions = ap (λ t. cond t (array_of (map (λ p. p.1) (finished_pairs (nodes_of (p ∷ nodes))))) (map_of (finished_pairs (nodes_of (p ∷ nodes))))) positions

-- the names from a place on, where the next one is its position, and where it isn't
module _ (nodes : List (List ℕ × Node)) (place : ℕ) (name : List ℕ) (node : Node) (at : slice_get nodes place ≡ Some (name, node))
    (so_far : are_positions_from (place + 1) (finished_pairs (nodes_of (drop place nodes))) ≡ are_positions_from 1 (finished_pairs (nodes_of nodes))) where
  next-position : (bytes_eq name (decimal (place + 1)) && are_positions_from (place + 1 + 1) (finished_pairs (nodes_of (drop (place + 1) nodes)))) ≡ are_positions_from 1 (finished_pairs (nodes_of nodes))
  next-position = sym (ap (λ left. are_positions_from (place + 1) (finished_pairs (nodes_of left))) (drop-more nodes place (name, node) at)) ∙ so_far

  pub positions-more : bytes_eq name (decimal (place + 1)) ≡ true → are_positions_from (place + 1 + 1) (finished_pairs (nodes_of (drop (place + 1) nodes))) ≡ are_positions_from 1 (finished_pairs (nodes_of nodes))
  positions-more is = sym (ap (λ t. t && are_positions_from (place + 1 + 1) (finished_pairs (nodes_of (drop (place + 1) nodes)))) is) ∙ next-position

  pub positions-end : bytes_eq name (decimal (place + 1)) ≡ false → is_array (finished_pairs (nodes_of nodes)) ≡ false
  positions-end other = not-array (finished_pairs (nodes_of nodes)) (sym next-position ∙ ap (λ t. t && are_positions_from (place + 1 + 1) (finished_pairs (nodes_of (drop (place + 1) nodes)))) other)
    where
      not-array : (pairs : List (List ℕ × Tree)) → are_positions_from 1 pairs ≡ false → is_array pairs ≡ false
      not-array [] none = refl
      not-array (p ∷ pairs) none = none
