-- Which fields unflattening changes, and which nodes become an array.
use Rattle.std.specs.Prelude.{ℕ, Bool, false, ◌||◌, List, [], ◌∷◌, map, codes}
use Rattle.std.specs.Option.{is_some}
use Rattle.std.specs.Str.{bytes_eq}
use Rattle.mlr_spec.specs.Tree.{Tree, string}
use Rattle.mlr_spec.specs.Split.{place_in}
use Rattle.mlr_spec.specs.Flatten.{Node, leaf, are_positions_from}

-- the texts that represent an empty map and an empty array
abbrev pub represents_collection : Tree → Bool
represents_collection (string text) = bytes_eq text (codes "{}") || bytes_eq text (codes "[]")
represents_collection _ = false

-- a field whose name spells a path, or whose text represents an empty map or array
abbrev pub is_unflattened : List ℕ → List ℕ × Tree → Bool
is_unflattened separator pair = is_some (place_in separator pair.0) || represents_collection pair.1

-- each value as a node of its name
abbrev pub ends : List (List ℕ × Tree) → List (List ℕ × Node)
ends pairs = map (λ pair. (pair.0, leaf pair.1)) pairs

-- whether a map that was made is an array
abbrev pub is_array : List (List ℕ × Tree) → Bool
is_array [] = false
is_array (pair ∷ pairs) = are_positions_from 1 (pair ∷ pairs)
