-- Records flattened, one field for each leaf of a map or an array, and unflattened, by the paths that their names spell.
use Rattle.std.specs.Prelude.{ℕ, ◌+◌, nat_le, Bool, true, ◌&&◌, if◌then◌else◌, List, [], ◌∷◌, ◌++◌, map, length, codes}
use Rattle.std.specs.List.{flat_map}
use Rattle.std.specs.Str.{bytes_eq}
use Rattle.std.specs.Fmt.{decimal}
use Rattle.mlr_spec.specs.Tree.{Tree, absent, empty, string, int, fraction, wide, boolean, mapping, array, error, Trees, no_trees, tree_and, Fields, no_fields, field_and, map_of, array_of}
use Rattle.mlr_spec.specs.Pairs.{put_each}
use Rattle.mlr_spec.specs.Split.{split_by}

-- the leaves of a value, each with its name: the names on its path joined by the separator, where the items of an array
-- are named 1, 2, 3 and so on; an empty map is the text `{}`, an empty array the text `[]`
abbrev mutual
  pub leaves_of : List ℕ → List ℕ → Tree → List (List ℕ × Tree)
  leaves_of separator name (mapping no_fields) = (name, string (codes "{}")) ∷ []
  leaves_of separator name (mapping (field_and key value more)) = leaves_of_pairs separator name (field_and key value more)
  leaves_of separator name (array no_trees) = (name, string (codes "[]")) ∷ []
  leaves_of separator name (array (tree_and item more)) = leaves_of_items separator name 1 (tree_and item more)
  leaves_of separator name absent = (name, absent) ∷ []
  leaves_of separator name empty = (name, empty) ∷ []
  leaves_of separator name (string text) = (name, string text) ∷ []
  leaves_of separator name (int n spelling) = (name, int n spelling) ∷ []
  leaves_of separator name (fraction text) = (name, fraction text) ∷ []
  leaves_of separator name (wide text) = (name, wide text) ∷ []
  leaves_of separator name (boolean b) = (name, boolean b) ∷ []
  leaves_of separator name error = (name, error) ∷ []

  pub leaves_of_pairs : List ℕ → List ℕ → Fields → List (List ℕ × Tree)
  leaves_of_pairs separator name no_fields = []
  leaves_of_pairs separator name (field_and key value more) =
      leaves_of separator (name ++ separator ++ key) value ++ leaves_of_pairs separator name more

  pub leaves_of_items : List ℕ → List ℕ → ℕ → Trees → List (List ℕ × Tree)
  leaves_of_items separator name position no_trees = []
  leaves_of_items separator name position (tree_and item more) =
      leaves_of separator (name ++ separator ++ decimal position) item ++ leaves_of_items separator name (position + 1) more

-- a record flattened: the leaves of all its fields, set one after another
abbrev pub flat : List ℕ → List (List ℕ × Tree) → List (List ℕ × Tree)
flat separator pairs = put_each [] (flat_map (λ pair. leaves_of separator pair.0 pair.1) pairs)

-- A place of a record that is being unflattened: a value, or a map made by paths, with its nodes by name.
mutual
  pub data Node : Type 0 where
    leaf : Tree → Node
    made : Nodes → Node

  pub data Nodes : Type 0 where
    no_nodes : Nodes
    node_and : List ℕ → Node → Nodes → Nodes

abbrev pub leaves_in : Fields → Nodes
leaves_in no_fields = no_nodes
leaves_in (field_and key value more) = node_and key (leaf value) (leaves_in more)

-- a path continues in a map; any other value is in its way, and is replaced by a map without pairs
abbrev pub children_of : Node → Nodes
children_of (made nodes) = nodes
children_of (leaf (mapping pairs)) = leaves_in pairs
children_of (leaf absent) = no_nodes
children_of (leaf empty) = no_nodes
children_of (leaf (string text)) = no_nodes
children_of (leaf (int n spelling)) = no_nodes
children_of (leaf (fraction text)) = no_nodes
children_of (leaf (wide text)) = no_nodes
children_of (leaf (boolean b)) = no_nodes
children_of (leaf (array items)) = no_nodes
children_of (leaf error) = no_nodes

-- the node of a name, changed in its place, or new at the end
abbrev pub change_child : List ℕ → (Node → Node) → Nodes → Nodes
change_child name change no_nodes = node_and name (change (leaf absent)) no_nodes
change_child name change (node_and other node more) =
    if bytes_eq other name then node_and other (change node) more else node_and other node (change_child name change more)

-- a value set at a path
abbrev pub put_path : List (List ℕ) → Tree → Node → Node
put_path [] value node = leaf value
put_path (name ∷ path) value node = made (change_child name (put_path path value) (children_of node))

abbrev pub put_in : List (List ℕ) → Tree → Nodes → Nodes
put_in [] value nodes = nodes
put_in (name ∷ path) value nodes = change_child name (put_path path value) nodes

-- the path that a name spells; a name with more than 199 separators is a path of one name
abbrev pub path_of : List ℕ → List ℕ → List (List ℕ)
path_of separator name = if nat_le (length (split_by separator name)) 200 then split_by separator name else name ∷ []

-- the texts `{}` and `[]` are an empty map and an empty array
abbrev pub collection_of_text : List ℕ → Tree
collection_of_text text =
    if bytes_eq text (codes "{}") then map_of [] else (
    if bytes_eq text (codes "[]") then array_of [] else string text)

abbrev pub with_collection : Tree → Tree
with_collection (string text) = collection_of_text text
with_collection absent = absent
with_collection empty = empty
with_collection (int n spelling) = int n spelling
with_collection (fraction text) = fraction text
with_collection (wide text) = wide text
with_collection (boolean b) = boolean b
with_collection (mapping pairs) = mapping pairs
with_collection (array items) = array items
with_collection error = error

-- the keys 1, 2, 3 and so on, from this number on
abbrev pub are_positions_from : ℕ → List (List ℕ × Tree) → Bool
are_positions_from n [] = true
are_positions_from n (pair ∷ pairs) = bytes_eq pair.0 (decimal n) && are_positions_from (n + 1) pairs

-- a map that was made is an array if its keys are 1 to n in order
abbrev pub map_or_array : List (List ℕ × Tree) → Tree
map_or_array [] = map_of []
map_or_array (pair ∷ pairs) =
    if are_positions_from 1 (pair ∷ pairs) then array_of (map (λ p. p.1) (pair ∷ pairs)) else map_of (pair ∷ pairs)

abbrev mutual
  pub finished : Node → Tree
  finished (leaf value) = value
  finished (made nodes) = map_or_array (finished_pairs nodes)

  pub finished_pairs : Nodes → List (List ℕ × Tree)
  finished_pairs no_nodes = []
  finished_pairs (node_and name node more) = (name, finished node) ∷ finished_pairs more

abbrev pub put_paths : List ℕ → Nodes → List (List ℕ × Tree) → Nodes
put_paths separator nodes [] = nodes
put_paths separator nodes (pair ∷ pairs) =
    put_paths separator (put_in (path_of separator pair.0) (with_collection pair.1) nodes) pairs

-- a record unflattened: each value is set at its path, one after another
abbrev pub unflat : List ℕ → List (List ℕ × Tree) → List (List ℕ × Tree)
unflat separator pairs = finished_pairs (put_paths separator no_nodes pairs)
