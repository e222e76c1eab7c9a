-- A record in which only the named fields are unflattened.
use Rattle.std.specs.Prelude.{ℕ, Bool, ◌&&◌, if◌then◌else◌, List, [], ◌∷◌}
use Rattle.std.specs.List.{list_any}
use Rattle.std.specs.Str.{bytes_eq}
use Rattle.mlr_spec.specs.Tree.{Tree}
use Rattle.mlr_spec.specs.Flatten.{Nodes, no_nodes, put_in, path_of, with_collection, finished_pairs}
use Rattle.mlr_record.specs.Parts.{first_part}
use Rattle.mlr_record.specs.Paths.{is_unflattened}

-- a field is named if the first part of its name is among the names
abbrev pub is_named : List ℕ → List (List ℕ) → List ℕ → Bool
is_named separator names name = list_any (bytes_eq (first_part separator name)) names

-- a named field is set at the path that its name spells; any other is kept under its whole name
abbrev pub put_if_named : List ℕ → List (List ℕ) → List ℕ × Tree → Nodes → Nodes
put_if_named separator names pair nodes =
    if is_named separator names pair.0 then put_in (path_of separator pair.0) (with_collection pair.1) nodes
    else put_in (pair.0 ∷ []) pair.1 nodes

abbrev pub put_named : List ℕ → List (List ℕ) → Nodes → List (List ℕ × Tree) → Nodes
put_named separator names nodes [] = nodes
put_named separator names nodes (pair ∷ pairs) = put_named separator names (put_if_named separator names pair nodes) pairs

-- a record with its named fields unflattened: all its fields are set, one after another
abbrev pub unflat_named : List ℕ → List (List ℕ) → List (List ℕ × Tree) → List (List ℕ × Tree)
unflat_named separator names pairs = finished_pairs (put_named separator names no_nodes pairs)

-- a named field that unflattening changes
abbrev pub is_unflattened_named : List ℕ → List (List ℕ) → List ℕ × Tree → Bool
is_unflattened_named separator names pair = is_unflattened separator pair && is_named separator names pair.0
