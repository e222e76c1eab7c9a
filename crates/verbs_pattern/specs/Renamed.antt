-- What renaming by one rule gives, for a whole record.
use Rattle.std.specs.Prelude.{ℕ, List, [], ◌∷◌, if◌then◌else◌}
use Rattle.mlr_spec.specs.Pairs.{keys_of}
use Rattle.mlr_spec.specs.Tree.{Tree}
use Rattle.mlr_event.specs.Reading.{is_among}

-- a field with its new name
abbrev pub under_new_name : (List ℕ → List ℕ) → List ℕ × Tree → List ℕ × Tree
under_new_name new_name pair = (new_name pair.0, pair.1)

-- the fields that are reached, where `given` has the names that earlier fields got: a field with such a name
-- isn't reached
abbrev pub reached : (List ℕ → List ℕ) → List (List ℕ) → List (List ℕ × Tree) → List (List ℕ × Tree)
reached new_name given [] = []
reached new_name given (pair ∷ pairs) =
    if is_among given pair.0 then reached new_name given pairs else pair ∷ reached new_name (new_name pair.0 ∷ given) pairs

-- of the fields with one name only the last, each in its place
abbrev pub last_of_each : List (List ℕ × Tree) → List (List ℕ × Tree)
last_of_each [] = []
last_of_each (pair ∷ pairs) = if is_among (keys_of pairs) pair.0 then last_of_each pairs else pair ∷ last_of_each pairs
