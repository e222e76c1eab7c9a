-- What is at a path of a record, and how paths lie to each other.
use Rattle.std.specs.Prelude.{ℕ, ◌+◌, if◌then◌else◌, Bool, true, false, not, ◌&&◌, List, [], ◌∷◌, ◌++◌, Option, Some, None, is_some}
use Rattle.std.specs.Fmt.{decimal}
use Rattle.std.specs.List.{list_all, list_any}
use Rattle.std.specs.Str.{bytes_eq}
use Rattle.mlr_spec.specs.Flatten.{path_of}
use Rattle.mlr_spec.specs.Pairs.{value_at}
use Rattle.mlr_spec.specs.Tree.{Tree, absent, empty, string, int, fraction, wide, boolean, mapping, array, error, no_trees, tree_and, Fields, no_fields, field_and, items_in, pairs_in}

abbrev pub Path : Type 0
Path = List (List ℕ)

-- the pairs in a value: those of a map, and the items of an array under their positions 1, 2, 3 and so on
abbrev pub numbered : ℕ → List Tree → List (List ℕ × Tree)
numbered n [] = []
numbered n (item ∷ items) = (decimal n, item) ∷ numbered (n + 1) items

abbrev pub within : Tree → List (List ℕ × Tree)
within (mapping pairs) = pairs_in pairs
within (array items) = numbered 1 (items_in items)
within absent = []
within empty = []
within (string text) = []
within (int n spelling) = []
within (fraction text) = []
within (wide text) = []
within (boolean b) = []
within error = []

-- the value at a path of one name or more
abbrev pub at_path : Path → List (List ℕ × Tree) → Option Tree
at_path [] pairs = None
at_path (name ∷ []) pairs = value_at name pairs
at_path (name ∷ next ∷ path) pairs = elim (value_at name pairs) [ Some value ↦ at_path (next ∷ path) (within value) | None ↦ None ]

-- the value at a path within a value, which is the value itself for a path of no names
abbrev pub inside : Path → Tree → Option Tree
inside [] value = Some value
inside (name ∷ path) value = at_path (name ∷ path) (within value)

-- what follows a path in another one that begins with it
abbrev pub rest_after : Path → Path → Option Path
rest_after [] other = Some other
rest_after (name ∷ path) [] = None
rest_after (name ∷ path) (next ∷ other) = if bytes_eq name next then rest_after path other else None

-- neither path begins with the other
abbrev pub are_apart : Path → Path → Bool
are_apart path other = not (is_some (rest_after path other)) && not (is_some (rest_after other path))

-- the paths that the names of fields spell are all apart from this one
abbrev pub all_apart : List ℕ → Path → List (List ℕ × Tree) → Bool
all_apart separator path pairs = list_all (λ pair. are_apart (path_of separator pair.0) path) pairs

-- a value in which no array has an item
abbrev mutual
  pub has_no_items : Tree → Bool
  has_no_items (mapping pairs) = have_no_items pairs
  has_no_items (array no_trees) = true
  has_no_items (array (tree_and item more)) = false
  has_no_items absent = true
  has_no_items empty = true
  has_no_items (string text) = true
  has_no_items (int n spelling) = true
  has_no_items (fraction text) = true
  has_no_items (wide text) = true
  has_no_items (boolean b) = true
  has_no_items error = true

  pub have_no_items : Fields → Bool
  have_no_items no_fields = true
  have_no_items (field_and key value more) = has_no_items value && have_no_items more

abbrev pub are_without_items : List (List ℕ × Tree) → Bool
are_without_items pairs = list_all (λ pair. has_no_items pair.1) pairs

-- names, and then those of more names that aren't among them yet, in the order in which they first come
abbrev pub first_seen : List (List ℕ) → List (List ℕ) → List (List ℕ)
first_seen names [] = names
first_seen names (name ∷ more) = first_seen (if list_any (bytes_eq name) names then names else names ++ name ∷ []) more

-- the first name of a path
abbrev pub first_of : Path → List ℕ
first_of [] = []
first_of (name ∷ path) = name
