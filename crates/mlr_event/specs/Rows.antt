-- Records built field by field.
use Rattle.std.specs.Prelude.{ℕ, Bool, true, false, List, [], ◌∷◌, ◌++◌}
use Rattle.std.specs.List.{zip}
use Rattle.mlr_spec.specs.Tree.{Tree}
use Rattle.mlr_spec.specs.Pairs.{keys_of, put_at, put_each}
use Rattle.mlr_event.specs.Reading.{free_name, distinct_after}

-- the pairs with another field: a name that is there gets a suffix, or its value is replaced
abbrev pub with_field : Bool → List ℕ → Tree → List (List ℕ × Tree) → List (List ℕ × Tree)
with_field true name value pairs = pairs ++ (free_name (keys_of pairs) name, value) ∷ []
with_field false name value pairs = put_at name value pairs

-- the pairs with more fields, of these names and values
abbrev pub with_fields : Bool → List (List ℕ × Tree) → List (List ℕ) → List Tree → List (List ℕ × Tree)
with_fields true pairs names values = pairs ++ zip (distinct_after (keys_of pairs) names) values
with_fields false pairs names values = put_each pairs (zip names values)
