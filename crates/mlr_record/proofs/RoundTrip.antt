-- A flattened record that is unflattened and flattened again.
use Rattle.std.proofs.Common.{◌≡◌, ℕ, ◌+◌, ◌<◌, ◌≤◌, ◌^◌, Bool, true, false, cond, List, [], ◌∷◌, ◌++◌, map, length, inl, inr, refl, ap, ap₂, sym, subst, ◌∙◌, append_assoc, arith}
use Rattle.std.specs.Prelude.{codes}
use Rattle.std.specs.List.{flat_map, list_any}
use Rattle.std.specs.Str.{bytes_eq}
use Rattle.std.specs.Fmt.{decimal}
use Rattle.std.proofs.lemmas.Fmt.{decimal_injective}
use Rattle.std.proofs.lemmas.Bool.{cases_Bool, true≢false, false_from_ne_true, or_left, or_parts, and_parts}
use Rattle.std.proofs.lemmas.List.{map-append}
use Rattle.std.proofs.lemmas.Slice.Eq.{bytes_eq-Decides}
use Rattle.mlr_spec.specs.Json.{joined}
use Rattle.mlr_spec.specs.Pairs.{keys_of, are_distinct, put_each}
use Rattle.mlr_spec.specs.Tree.{Tree, absent, empty, string, int, fraction, wide, boolean, mapping, array, error, Trees, no_trees, tree_and, Fields, no_fields, field_and, pairs_in, items_in, fields_of, trees_of, map_of, array_of}
use Rattle.mlr_spec.specs.Flatten.{leaves_of, leaves_of_pairs, leaves_of_items, flat, Node, leaf, made, Nodes, no_nodes, node_and, change_child, put_path, put_in, collection_of_text, with_collection, are_positions_from, map_or_array, finished, finished_pairs, put_paths, unflat}
use Rattle.mlr_spec.proofs.Pairs.{are_distinct-twice}
use Rattle.mlr_spec.proofs.Flattening.{put_each-distinct}
use Rattle.mlr_record.specs.Leaves.{Leaf, under, leaves_in, leaves_in_pairs, leaves_in_items, IsSound, ArePairsSound, AreItemsSound, AreSplit, IsFlattenedApart}

map-same : {A B : Type 0} (f g : A → B) → ((x : A) → f x ≡ g x) → (xs : List A) → map f xs ≡ map g xs
map-same f g same [] = refl
map-same f g same (x ∷ xs) = ap₂ (λ y ys. y ∷ ys) (same x) (map-same f g same xs)

map-under : {B : Type 0} (f : Leaf → B) (name : List ℕ) (leaves : List Leaf) → map f (under name leaves) ≡ map (λ l. f (name ∷ l.0, l.1)) leaves
map-under f name [] = refl
map-under f name (l ∷ leaves) = ap (λ t. f (name ∷ l.0, l.1) ∷ t) (map-under f name leaves)

-- ---- the leaves by name are the leaves by path

module _ (separator : List ℕ) where
  abbrev named : List ℕ → Leaf → List ℕ × Tree
  named name l = (joined separator (name ∷ l.0), l.1)

  named-under : (name key : List ℕ) (l : Leaf) → named (name ++ separator ++ key) l ≡ named name (key ∷ l.0, l.1)
  named-under name key l = ap (λ t. (t, l.1)) (names l.0)
    where
      names : (path : List (List ℕ)) → joined separator ((name ++ separator ++ key) ∷ path) ≡ joined separator (name ∷ key ∷ path)
      names [] = refl
      names (next ∷ path) = simp append_assoc

  mutual
    leaves-named : (name : List ℕ) (v : Tree) → leaves_of separator name v ≡ map (named name) (leaves_in v)
    leaves-named name (mapping no_fields) = refl
    leaves-named name (mapping (field_and key value more)) = pairs-named name (field_and key value more)
    leaves-named name (array no_trees) = refl
    leaves-named name (array (tree_and item more)) = items-named name 1 (tree_and item more)
    leaves-named name absent = refl
    leaves-named name empty = refl
    leaves-named name (string text) = refl
    leaves-named name (int n spelling) = refl
    leaves-named name (fraction text) = refl
    leaves-named name (wide text) = refl
    leaves-named name (boolean b) = refl
    leaves-named name error = refl

    pairs-named : (name : List ℕ) (pairs : Fields) → leaves_of_pairs separator name pairs ≡ map (named name) (leaves_in_pairs pairs)
    pairs-named name no_fields = refl
    pairs-named name (field_and key value more) =
        ap₂ (λ x y. x ++ y)
        (leaves-named (name ++ separator ++ key) value ∙ map-same (named (name ++ separator ++ key)) (λ l. named name (key ∷ l.0, l.1)) (named-under name key) (leaves_in value)
        ∙ sym (map-under (named name) key (leaves_in value)))
        (pairs-named name more)
        ∙ sym (map-append (named name) (under key (leaves_in value)) (leaves_in_pairs more))

    items-named : (name : List ℕ) (position : ℕ) (items : Trees) → leaves_of_items separator name position items ≡ map (named name) (leaves_in_items position items)
    items-named name position no_trees = refl
    items-named name position (tree_and item more) =
        ap₂ (λ x y. x ++ y)
        (leaves-named (name ++ separator ++ decimal position) item ∙ map-same (named (name ++ separator ++ decimal position)) (λ l. named name (decimal position ∷ l.0, l.1)) (named-under name (decimal position)) (leaves_in item)
        ∙ sym (map-under (named name) (decimal position) (leaves_in item)))
        (items-named name (position + 1) more)
        ∙ sym (map-append (named name) (under (decimal position) (leaves_in item)) (leaves_in_items (position + 1) more))

  abbrev by_name : Leaf → List ℕ × Tree
  by_name l = (joined separator l.0, l.1)

  record-named : (pairs : List (List ℕ × Tree)) → flat_map (λ pair. leaves_of separator pair.0 pair.1) pairs ≡ map by_name (leaves_in_pairs (fields_of pairs))
  record-named [] = refl
  record-named (pair ∷ pairs) =
      ap₂ (λ x y. x ++ y) (leaves-named pair.0 pair.1 ∙ sym (map-under by_name pair.0 (leaves_in pair.1))) (record-named pairs)
      ∙ sym (map-append by_name (under pair.0 (leaves_in pair.1)) (leaves_in_pairs (fields_of pairs)))

-- ---- leaves that are set one after another

abbrev put_all : Nodes → List Leaf → Nodes
put_all nodes [] = nodes
put_all nodes (l ∷ leaves) = put_all (put_in l.0 (with_collection l.1) nodes) leaves

abbrev grow : Node → List Leaf → Node
grow node [] = node
grow node (l ∷ leaves) = grow (put_path l.0 (with_collection l.1) node) leaves

put_paths-all : (separator : List ℕ) (nodes : Nodes) (leaves : List Leaf) → AreSplit separator leaves → put_paths separator nodes (map (λ l. (joined separator l.0, l.1)) leaves) ≡ put_all nodes leaves
put_paths-all separator nodes [] h = refl
put_paths-all separator nodes (l ∷ leaves) h =
    ap (λ path. put_paths separator (put_in path (with_collection l.1) nodes) (map (λ x. (joined separator x.0, x.1)) leaves)) h.0
    ∙ put_paths-all separator (put_in l.0 (with_collection l.1) nodes) leaves h.1

put_all-append : (nodes : Nodes) (xs ys : List Leaf) → put_all nodes (xs ++ ys) ≡ put_all (put_all nodes xs) ys
put_all-append nodes [] ys = refl
put_all-append nodes (x ∷ xs) ys = put_all-append (put_in x.0 (with_collection x.1) nodes) xs ys

same-bytes : (text : List ℕ) → bytes_eq text text ≡ true
same-bytes text = (bytes_eq-Decides text text).1 refl

change-twice : (name : List ℕ) (f g : Node → Node) (nodes : Nodes) → change_child name g (change_child name f nodes) ≡ change_child name (λ n. g (f n)) nodes
change-twice name f g no_nodes = ap (λ b. cond b (node_and name (g (f (leaf absent))) no_nodes) (node_and name (f (leaf absent)) (change_child name g no_nodes))) (same-bytes name)
change-twice name f g (node_and other node more) =
    elim (cases_Bool (bytes_eq other name)) as (λ _. change_child name g (change_child name f (node_and other node more)) ≡ change_child name (λ n. g (f n)) (node_and other node more)) [
      | inl y ↦ rw y (rw y refl)
      | inr n ↦ rw n (rw n (ap (node_and other node) (change-twice name f g more)))
    ]

-- one leaf at least under a name
put_all-under : (name : List ℕ) (l : Leaf) (leaves : List Leaf) (nodes : Nodes) → put_all nodes (under name (l ∷ leaves)) ≡ change_child name (λ n. grow n (l ∷ leaves)) nodes
put_all-under name l [] nodes = refl
put_all-under name l (next ∷ leaves) nodes =
    put_all-under name next leaves (put_in (name ∷ l.0) (with_collection l.1) nodes)
    ∙ change-twice name (put_path l.0 (with_collection l.1)) (λ n. grow n (next ∷ leaves)) nodes

-- ---- names that aren't there yet

abbrev names_in : Nodes → List (List ℕ)
names_in no_nodes = []
names_in (node_and name node more) = name ∷ names_in more

abbrev followed : Nodes → Nodes → Nodes
followed no_nodes more = more
followed (node_and name node nodes) more = node_and name node (followed nodes more)

abbrev is_there : List ℕ → Nodes → Bool
is_there name nodes = list_any (λ n. bytes_eq n name) (names_in nodes)

followed-none : (nodes : Nodes) → followed nodes no_nodes ≡ nodes
followed-none no_nodes = refl
followed-none (node_and name node nodes) = ap (node_and name node) (followed-none nodes)

followed-assoc : (a b c : Nodes) → followed (followed a b) c ≡ followed a (followed b c)
followed-assoc no_nodes b c = refl
followed-assoc (node_and name node a) b c = ap (node_and name node) (followed-assoc a b c)

names-followed : (a b : Nodes) → names_in (followed a b) ≡ names_in a ++ names_in b
names-followed no_nodes b = refl
names-followed (node_and name node a) b = ap (λ t. name ∷ t) (names-followed a b)

change-fresh : (name : List ℕ) (f : Node → Node) (nodes : Nodes) → is_there name nodes ≡ false → change_child name f nodes ≡ followed nodes (node_and name (f (leaf absent)) no_nodes)
change-fresh name f no_nodes h = refl
change-fresh name f (node_and other node more) h =
    elim (cases_Bool (bytes_eq other name)) as (λ _. change_child name f (node_and other node more) ≡ node_and other node (followed more (node_and name (f (leaf absent)) no_nodes))) [
      | inl y ↦ absurd (true≢false (sym (or_left (bytes_eq other name) (is_there name more) y) ∙ h))
      | inr n ↦ rw n (ap (node_and other node) (change-fresh name f more (or_parts (bytes_eq other name) (is_there name more) h).1))
    ]

-- ---- what grows from the leaves of a value

abbrev mutual
  node_of : Tree → Node
  node_of (mapping no_fields) = leaf (map_of [])
  node_of (mapping (field_and key value more)) = made (nodes_of (field_and key value more))
  node_of (array no_trees) = leaf (array_of [])
  node_of (array (tree_and item more)) = made (nodes_from 1 (tree_and item more))
  node_of absent = leaf absent
  node_of empty = leaf empty
  node_of (string text) = leaf (collection_of_text text)
  node_of (int n spelling) = leaf (int n spelling)
  node_of (fraction text) = leaf (fraction text)
  node_of (wide text) = leaf (wide text)
  node_of (boolean b) = leaf (boolean b)
  node_of error = leaf error

  nodes_of : Fields → Nodes
  nodes_of no_fields = no_nodes
  nodes_of (field_and key value more) = node_and key (node_of value) (nodes_of more)

  nodes_from : ℕ → Trees → Nodes
  nodes_from position no_trees = no_nodes
  nodes_from position (tree_and item more) = node_and (decimal position) (node_of item) (nodes_from (position + 1) more)

-- a value has a leaf
some-leaf : (v : Tree) → (l : Leaf) × (leaves : List Leaf) × (leaves_in v ≡ l ∷ leaves)
some-leaf (mapping no_fields) = (([], string (codes "{}")), [], refl)
some-leaf (mapping (field_and key value more)) =
    let h = some-leaf value in
    ((key ∷ h.0.0, h.0.1), under key h.1 ++ leaves_in_pairs more, ap (λ t. under key t ++ leaves_in_pairs more) h.2)
some-leaf (array no_trees) = (([], string (codes "[]")), [], refl)
some-leaf (array (tree_and item more)) =
    let h = some-leaf item in
    ((decimal 1 ∷ h.0.0, h.0.1), under (decimal 1) h.1 ++ leaves_in_items (1 + 1) more, ap (λ t. under (decimal 1) t ++ leaves_in_items (1 + 1) more) h.2)
some-leaf absent = (([], absent), [], refl)
some-leaf empty = (([], empty), [], refl)
some-leaf (string text) = (([], string text), [], refl)
some-leaf (int n spelling) = (([], int n spelling), [], refl)
some-leaf (fraction text) = (([], fraction text), [], refl)
some-leaf (wide text) = (([], wide text), [], refl)
some-leaf (boolean b) = (([], boolean b), [], refl)
some-leaf error = (([], error), [], refl)

-- leaves under names make a map
grow-under : (name : List ℕ) (leaves more : List Leaf) (nodes : Nodes) → grow (made nodes) (under name leaves ++ more) ≡ grow (made (put_all nodes (under name leaves))) more
grow-under name [] more nodes = refl
grow-under name (l ∷ leaves) more nodes = grow-under name leaves more (put_in (name ∷ l.0) (with_collection l.1) nodes)

grow-pairs : (pairs : Fields) (nodes : Nodes) → grow (made nodes) (leaves_in_pairs pairs) ≡ made (put_all nodes (leaves_in_pairs pairs))
grow-pairs no_fields nodes = refl
grow-pairs (field_and key value more) nodes =
    grow-under key (leaves_in value) (leaves_in_pairs more) nodes
    ∙ grow-pairs more (put_all nodes (under key (leaves_in value)))
    ∙ ap made (sym (put_all-append nodes (under key (leaves_in value)) (leaves_in_pairs more)))

grow-items : (position : ℕ) (items : Trees) (nodes : Nodes) → grow (made nodes) (leaves_in_items position items) ≡ made (put_all nodes (leaves_in_items position items))
grow-items position no_trees nodes = refl
grow-items position (tree_and item more) nodes =
    grow-under (decimal position) (leaves_in item) (leaves_in_items (position + 1) more) nodes
    ∙ grow-items (position + 1) more (put_all nodes (under (decimal position) (leaves_in item)))
    ∙ ap made (sym (put_all-append nodes (under (decimal position) (leaves_in item)) (leaves_in_items (position + 1) more)))

-- the first leaf makes the map
grow-first : (name : List ℕ) (v : Tree) (more : List Leaf) → grow (leaf absent) (under name (leaves_in v) ++ more) ≡ grow (made no_nodes) (under name (leaves_in v) ++ more)
grow-first name v more =
    let h = some-leaf v in
    subst (λ t. grow (leaf absent) (under name t ++ more) ≡ grow (made no_nodes) (under name t ++ more)) (sym h.2) refl

-- the leaves under a new name
put_all-fresh : (name : List ℕ) (v : Tree) (nodes : Nodes) → is_there name nodes ≡ false → grow (leaf absent) (leaves_in v) ≡ node_of v
    → put_all nodes (under name (leaves_in v)) ≡ followed nodes (node_and name (node_of v) no_nodes)
put_all-fresh name v nodes fresh is =
    let h = some-leaf v in
    let all : put_all nodes (under name (leaves_in v)) ≡ change_child name (λ n. grow n (leaves_in v)) nodes =
    subst (λ t. put_all nodes (under name t) ≡ change_child name (λ n. grow n t) nodes) (sym h.2) (put_all-under name h.0 h.1 nodes) in
    all ∙ change-fresh name (λ n. grow n (leaves_in v)) nodes fresh ∙ ap (λ n. followed nodes (node_and name n no_nodes)) is

fresh-key : (before : List (List ℕ)) (key : List ℕ) (more : List (List ℕ)) → are_distinct (before ++ key ∷ more) ≡ true → list_any (λ n. bytes_eq n key) before ≡ false
fresh-key before key more distinct = false_from_ne_true (list_any (λ n. bytes_eq n key) before) (λ twice. true≢false (sym distinct ∙ are_distinct-twice key before more twice))

-- names that are positions below a number
abbrev ArePositions : ℕ → List (List ℕ) → Type 0
ArePositions position [] = Unit {0}
ArePositions position (name ∷ names) = ((q : ℕ) × (q < position) × (name ≡ decimal q)) × ArePositions position names

fresh-position : (position : ℕ) (names : List (List ℕ)) → position < 2 ^ 64 → ArePositions position names → list_any (λ n. bytes_eq n (decimal position)) names ≡ false
fresh-position position [] small h = refl
fresh-position position (name ∷ names) small h =
    let here : bytes_eq name (decimal position) ≡ false =
    false_from_ne_true (bytes_eq name (decimal position)) (λ e.
    let same : decimal h.0.0 ≡ decimal position = sym h.0.2 ∙ (bytes_eq-Decides name (decimal position)).0 e in
    let below : h.0.0 < position = h.0.1 in
    let equal : h.0.0 ≡ position = decimal_injective h.0.0 position (omega arith) small same in
    omega arith) in
    rw here (fresh-position position names small h.1)

positions-later : (position : ℕ) (names : List (List ℕ)) → ArePositions position names → ArePositions (position + 1) (names ++ decimal position ∷ [])
positions-later position [] h = ((position, omega arith, refl), tt)
positions-later position (name ∷ names) h =
    let below : h.0.0 < position = h.0.1 in
    ((h.0.0, omega arith, h.0.2), positions-later position names h.1)

mutual
  grow-value : (v : Tree) → IsSound v → grow (leaf absent) (leaves_in v) ≡ node_of v
  grow-value (mapping no_fields) h = refl
  grow-value (mapping (field_and key value more)) h =
      grow-first key value (leaves_in_pairs more) ∙ grow-pairs (field_and key value more) no_nodes
      ∙ ap made (put-pairs (field_and key value more) no_nodes h.0 h.1)
  grow-value (array no_trees) h = refl
  grow-value (array (tree_and item more)) h =
      grow-first (decimal 1) item (leaves_in_items (1 + 1) more) ∙ grow-items 1 (tree_and item more) no_nodes
      ∙ ap made (put-items 1 (tree_and item more) no_nodes (let few : length (items_in (tree_and item more)) < 2 ^ 64 = h.0 in omega arith) tt h.1)
  grow-value absent h = refl
  grow-value empty h = refl
  grow-value (string text) h = refl
  grow-value (int n spelling) h = refl
  grow-value (fraction text) h = refl
  grow-value (wide text) h = refl
  grow-value (boolean b) h = refl
  grow-value error h = refl

  put-pairs : (pairs : Fields) (nodes : Nodes) → are_distinct (names_in nodes ++ keys_of (pairs_in pairs)) ≡ true → ArePairsSound pairs → put_all nodes (leaves_in_pairs pairs) ≡ followed nodes (nodes_of pairs)
  put-pairs no_fields nodes distinct h = sym (followed-none nodes)
  put-pairs (field_and key value more) nodes distinct h =
      let here = put_all-fresh key value nodes (fresh-key (names_in nodes) key (keys_of (pairs_in more)) distinct) (grow-value value h.0) in
      let grown = followed nodes (node_and key (node_of value) no_nodes) in
      let names : names_in grown ++ keys_of (pairs_in more) ≡ names_in nodes ++ key ∷ keys_of (pairs_in more) =
      ap (λ t. t ++ keys_of (pairs_in more)) (names-followed nodes (node_and key (node_of value) no_nodes)) ∙ append_assoc (names_in nodes) (key ∷ []) (keys_of (pairs_in more)) in
      put_all-append nodes (under key (leaves_in value)) (leaves_in_pairs more)
      ∙ ap (λ n. put_all n (leaves_in_pairs more)) here
      ∙ put-pairs more grown (ap are_distinct names ∙ distinct) h.1
      ∙ followed-assoc nodes (node_and key (node_of value) no_nodes) (nodes_of more)

  put-items : (position : ℕ) (items : Trees) (nodes : Nodes) → position + length (items_in items) ≤ 2 ^ 64 → ArePositions position (names_in nodes) → AreItemsSound items
      → put_all nodes (leaves_in_items position items) ≡ followed nodes (nodes_from position items)
  put-items position no_trees nodes few positions h = sym (followed-none nodes)
  put-items position (tree_and item more) nodes few positions h =
      let here = put_all-fresh (decimal position) item nodes (fresh-position position (names_in nodes) (omega arith) positions) (grow-value item h.0) in
      let grown = followed nodes (node_and (decimal position) (node_of item) no_nodes) in
      put_all-append nodes (under (decimal position) (leaves_in item)) (leaves_in_items (position + 1) more)
      ∙ ap (λ n. put_all n (leaves_in_items (position + 1) more)) here
      ∙ put-items (position + 1) more grown (omega arith)
      (subst (ArePositions (position + 1)) (sym (names-followed nodes (node_and (decimal position) (node_of item) no_nodes))) (positions-later position (names_in nodes) positions)) h.1
      ∙ followed-assoc nodes (node_and (decimal position) (node_of item) no_nodes) (nodes_from (position + 1) more)

-- ---- what has grown has the leaves of the value

leaves-collection : (separator name text : List ℕ) → leaves_of separator name (collection_of_text text) ≡ (name, string text) ∷ []
leaves-collection separator name text =
    elim (cases_Bool (bytes_eq text (codes "{}"))) [
      | inl y ↦ rw y (ap (λ t. (name, string t) ∷ []) (sym ((bytes_eq-Decides text (codes "{}")).0 y)))
      | inr n ↦ elim (cases_Bool (bytes_eq text (codes "[]"))) [
        | inl y ↦ rw (n, y) (ap (λ t. (name, string t) ∷ []) (sym ((bytes_eq-Decides text (codes "[]")).0 y)))
        | inr k ↦ rw (n, k) refl
      ]
    ]

-- positions as keys, and as places in an array
leaves-positions : (separator name : List ℕ) (position : ℕ) (pairs : List (List ℕ × Tree)) → are_positions_from position pairs ≡ true
    → leaves_of_items separator name position (trees_of (map (λ p. p.1) pairs)) ≡ leaves_of_pairs separator name (fields_of pairs)
leaves-positions separator name position [] h = refl
leaves-positions separator name position (pair ∷ pairs) h =
    let parts = and_parts (bytes_eq pair.0 (decimal position)) (are_positions_from (position + 1) pairs) h in
    ap₂ (λ k t. leaves_of separator (name ++ separator ++ k) pair.1 ++ t) (sym ((bytes_eq-Decides pair.0 (decimal position)).0 parts.0)) (leaves-positions separator name (position + 1) pairs parts.1)

leaves-made : (separator name : List ℕ) (pair : List ℕ × Tree) (pairs : List (List ℕ × Tree)) → leaves_of separator name (map_or_array (pair ∷ pairs)) ≡ leaves_of_pairs separator name (fields_of (pair ∷ pairs))
leaves-made separator name pair pairs =
    elim (cases_Bool (are_positions_from 1 (pair ∷ pairs))) as (λ _. leaves_of separator name (map_or_array (pair ∷ pairs)) ≡ leaves_of_pairs separator name (fields_of (pair ∷ pairs))) [
      | inl y ↦ rw y (leaves-positions separator name 1 (pair ∷ pairs) y)
      | inr n ↦ rw n refl
    ]

mutual
  leaves-back : (separator name : List ℕ) (v : Tree) → leaves_of separator name (finished (node_of v)) ≡ leaves_of separator name v
  leaves-back separator name (mapping no_fields) = refl
  leaves-back separator name (mapping (field_and key value more)) =
      leaves-made separator name (key, finished (node_of value)) (finished_pairs (nodes_of more)) ∙ pairs-back separator name (field_and key value more)
  leaves-back separator name (array no_trees) = refl
  leaves-back separator name (array (tree_and item more)) =
      leaves-made separator name (decimal 1, finished (node_of item)) (finished_pairs (nodes_from (1 + 1) more)) ∙ items-back separator name 1 (tree_and item more)
  leaves-back separator name absent = refl
  leaves-back separator name empty = refl
  leaves-back separator name (string text) = leaves-collection separator name text
  leaves-back separator name (int n spelling) = refl
  leaves-back separator name (fraction text) = refl
  leaves-back separator name (wide text) = refl
  leaves-back separator name (boolean b) = refl
  leaves-back separator name error = refl

  pairs-back : (separator name : List ℕ) (pairs : Fields) → leaves_of_pairs separator name (fields_of (finished_pairs (nodes_of pairs))) ≡ leaves_of_pairs separator name pairs
  pairs-back separator name no_fields = refl
  pairs-back separator name (field_and key value more) = ap₂ (λ x y. x ++ y) (leaves-back separator (name ++ separator ++ key) value) (pairs-back separator name more)

  items-back : (separator name : List ℕ) (position : ℕ) (items : Trees) → leaves_of_pairs separator name (fields_of (finished_pairs (nodes_from position items))) ≡ leaves_of_items separator name position items
  items-back separator name position no_trees = refl
  items-back separator name position (tree_and item more) = ap₂ (λ x y. x ++ y) (leaves-back separator (name ++ separator ++ decimal position) item) (items-back separator name (position + 1) more)

record-back : (separator : List ℕ) (pairs : List (List ℕ × Tree)) → flat_map (λ p. leaves_of separator p.0 p.1) (finished_pairs (nodes_of (fields_of pairs))) ≡ flat_map (λ p. leaves_of separator p.0 p.1) pairs
record-back separator [] = refl
record-back separator (pair ∷ pairs) = ap₂ (λ x y. x ++ y) (leaves-back separator pair.0 pair.1) (record-back separator pairs)

in-pairs : (pairs : List (List ℕ × Tree)) → keys_of (pairs_in (fields_of pairs)) ≡ keys_of pairs
in-pairs [] = refl
in-pairs (pair ∷ pairs) = ap (λ t. pair.0 ∷ t) (in-pairs pairs)

pub flat-again : (separator : List ℕ) (pairs : List (List ℕ × Tree)) → IsFlattenedApart separator pairs → flat separator (unflat separator (flat separator pairs)) ≡ flat separator pairs
flat-again separator pairs h =
    let leaves = leaves_in_pairs (fields_of pairs) in
    let all = flat_map (λ p. leaves_of separator p.0 p.1) pairs in
    let apart : flat separator pairs ≡ all = put_each-distinct [] all h.names in
    let named : all ≡ map (λ l. (joined separator l.0, l.1)) leaves = record-named separator pairs in
    let grown : put_paths separator no_nodes all ≡ nodes_of (fields_of pairs) =
    ap (put_paths separator no_nodes) named ∙ put_paths-all separator no_nodes leaves h.split ∙ put-pairs (fields_of pairs) no_nodes (ap are_distinct (in-pairs pairs) ∙ h.keys) h.sound in
    ap (λ r. flat separator (unflat separator r)) apart
    ∙ ap (λ n. flat separator (finished_pairs n)) grown
    ∙ ap (put_each []) (record-back separator pairs)
