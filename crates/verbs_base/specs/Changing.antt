-- Values changed in their places.
use Rattle.std.specs.Prelude.{ℕ, Bool, true, if◌then◌else◌, List, map, Option, Some, None}
use Rattle.std.specs.Str.{bytes_eq}
use Rattle.mlr_spec.specs.Tree.{Tree}
use Rattle.mlr_event.specs.Reading.{is_among}

-- whether a verb takes the field of a name: those that it was given, or all where it was given none
abbrev pub is_taken : Option (List (List ℕ)) → List ℕ → Bool
is_taken None name = true
is_taken (Some names) name = is_among names name

-- whether it is this name
abbrev pub has_name : List ℕ → List ℕ → Bool
has_name name other = bytes_eq other name

-- a field with another value
abbrev pub with_image : (Tree → Tree) → List ℕ × Tree → List ℕ × Tree
with_image change pair = (pair.0, change pair.1)

-- a field whose value becomes another if the field is taken
abbrev pub changed_field : (List ℕ → Bool) → (Tree → Tree) → List ℕ × Tree → List ℕ × Tree
changed_field takes change pair = (pair.0, if takes pair.0 then change pair.1 else pair.1)

abbrev pub changed : (List ℕ → Bool) → (Tree → Tree) → List (List ℕ × Tree) → List (List ℕ × Tree)
changed takes change pairs = map (changed_field takes change) pairs
