-- The leaves of a nested record by their paths, and the records that come back from flattening.
use Rattle.std.specs.Prelude.{◌≡◌, ℕ, ◌+◌, ◌<◌, ◌^◌, true, List, [], ◌∷◌, ◌++◌, map, length, codes}
use Rattle.std.specs.List.{flat_map}
use Rattle.std.specs.Fmt.{decimal}
use Rattle.mlr_spec.specs.Json.{joined}
use Rattle.mlr_spec.specs.Pairs.{keys_of, are_distinct}
use Rattle.mlr_spec.specs.Tree.{Tree, string, mapping, array, Trees, no_trees, tree_and, Fields, no_fields, field_and, pairs_in, items_in, fields_of}
use Rattle.mlr_spec.specs.Flatten.{leaves_of, path_of}

-- a leaf: the names on its path, and its value
abbrev pub Leaf : Type 0
Leaf = List (List ℕ) × Tree

abbrev pub under : List ℕ → List Leaf → List Leaf
under name leaves = map (λ l. (name ∷ l.0, l.1)) leaves

-- the leaves of a value; an empty map and an empty array are leaves with their texts
abbrev mutual
  pub leaves_in : Tree → List Leaf
  leaves_in (mapping no_fields) = ([], string (codes "{}")) ∷ []
  leaves_in (mapping (field_and key value more)) = leaves_in_pairs (field_and key value more)
  leaves_in (array no_trees) = ([], string (codes "[]")) ∷ []
  leaves_in (array (tree_and item more)) = leaves_in_items 1 (tree_and item more)
  leaves_in value = ([], value) ∷ []

  pub leaves_in_pairs : Fields → List Leaf
  leaves_in_pairs no_fields = []
  leaves_in_pairs (field_and key value more) = under key (leaves_in value) ++ leaves_in_pairs more

  pub leaves_in_items : ℕ → Trees → List Leaf
  leaves_in_items position no_trees = []
  leaves_in_items position (tree_and item more) = under (decimal position) (leaves_in item) ++ leaves_in_items (position + 1) more

-- the maps in a value have distinct keys, and its arrays fewer than 2^64 items
abbrev mutual
  pub IsSound : Tree → Type 0
  IsSound (mapping pairs) = (are_distinct (keys_of (pairs_in pairs)) ≡ true) × ArePairsSound pairs
  IsSound (array items) = (length (items_in items) < 2 ^ 64) × AreItemsSound items
  IsSound _ = Unit {0}

  pub ArePairsSound : Fields → Type 0
  ArePairsSound no_fields = Unit {0}
  ArePairsSound (field_and key value more) = IsSound value × ArePairsSound more

  pub AreItemsSound : Trees → Type 0
  AreItemsSound no_trees = Unit {0}
  AreItemsSound (tree_and item more) = IsSound item × AreItemsSound more

-- the joined names of each path are split into these names again
abbrev pub AreSplit : List ℕ → List Leaf → Type 0
AreSplit separator [] = Unit {0}
AreSplit separator (l ∷ leaves) = (path_of separator (joined separator l.0) ≡ l.0) × AreSplit separator leaves

-- A nested record that flattening doesn't mix up: no two leaves get one name, and the names that they get are split into
-- the names on their paths.
pub record IsFlattenedApart (separator : List ℕ) (pairs : List (List ℕ × Tree)) : Type 0 where
  pub keys : are_distinct (keys_of pairs) ≡ true
  pub sound : ArePairsSound (fields_of pairs)
  pub names : are_distinct (keys_of (flat_map (λ pair. leaves_of separator pair.0 pair.1) pairs)) ≡ true
  pub split : AreSplit separator (leaves_in_pairs (fields_of pairs))
