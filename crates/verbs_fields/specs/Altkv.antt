-- The verb `altkv`.
use Rattle.std.specs.Prelude.{ℕ, ◌+◌, ◌/◌, List, [], ◌∷◌, length}
use Rattle.std.specs.Fmt.{decimal}
use Rattle.mlr_spec.specs.Tree.{Tree}
use Rattle.mlr_spec.specs.Pairs.{put_each}
use Rattle.text_forms.specs.Shown.{shown}
use Rattle.verbs_base.specs.Records.{Fields}
use Rattle.verbs_fields.specs.Values.{values_of}

-- The values in turn as a key and its value. The last value of an odd number of values has no value after it:
-- it gets the key `last`.
abbrev pub in_turn : List ℕ → List Tree → Fields
in_turn last [] = []
in_turn last (value ∷ []) = (last, value) ∷ []
in_turn last (key ∷ value ∷ more) = (shown key, value) ∷ in_turn last more

-- The fields that the values in turn make. If the number of values is odd, the key of the last is the number
-- of its pair.
abbrev pub altkv : Fields → Fields
altkv fields = put_each [] (in_turn (decimal ((length fields + 1) / 2)) (values_of fields))
