-- The verb `flatten`.
use Rattle.std.specs.Prelude.{◌<◌, ℕ, Bool, ◌&&◌, if◌then◌else◌, List, [], ◌∷◌, length}
use Rattle.std.specs.List.{flat_map}
use Rattle.mlr_spec.specs.Flatten.{leaves_of}
use Rattle.mlr_spec.specs.Pairs.{put_each}
use Rattle.mlr_spec.specs.Tree.{Tree, is_collection}
use Rattle.verbs_base.specs.Changing.{is_taken}
use Rattle.verbs_base.specs.Records.{Fields}
use Rattle.verbs_values.specs.declared.flatten.Flatten.{Flatten}

-- the fields that a field becomes: its leaves if `flatten` takes it, else itself
abbrev pub flattened_field : List ℕ → (List ℕ → Bool) → List ℕ × Tree → Fields
flattened_field separator takes pair = if takes pair.0 then leaves_of separator pair.0 pair.1 else pair ∷ []

-- these fields set one after another: of two with one name, the first gives the place and the later the value
abbrev pub flattened : List ℕ → (List ℕ → Bool) → Fields → Fields
flattened separator takes fields = put_each [] (flat_map (flattened_field separator takes) fields)

-- all fields are flattened, or only the named ones
abbrev pub flatten : Flatten → Fields → Fields
flatten verb fields = flattened verb.separator (is_taken verb.names) fields

-- the separator isn't empty
abbrev pub IsSoundFlatten : Flatten → Type 0
IsSoundFlatten verb = 0 < length verb.separator

-- whether `flatten` takes the field and its value is a map or an array
abbrev pub is_flattened : (List ℕ → Bool) → List ℕ × Tree → Bool
is_flattened takes pair = takes pair.0 && is_collection pair.1
