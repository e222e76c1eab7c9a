-- The verb `unflatten`.
use Rattle.std.specs.Prelude.{◌<◌, ℕ, List, length, Option, Some, None}
use Rattle.mlr_spec.specs.Flatten.{unflat}
use Rattle.mlr_record.specs.NamedPaths.{unflat_named}
use Rattle.verbs_base.specs.Records.{Fields}
use Rattle.verbs_values.specs.declared.unflatten.Unflatten.{Unflatten}

-- all fields are unflattened, or only those whose names begin with one of the given parts
abbrev pub unflattened : List ℕ → Option (List (List ℕ)) → Fields → Fields
unflattened separator None fields = unflat separator fields
unflattened separator (Some names) fields = unflat_named separator names fields

abbrev pub unflatten : Unflatten → Fields → Fields
unflatten verb fields = unflattened verb.separator verb.names fields

-- the separator isn't empty
abbrev pub IsSoundUnflatten : Unflatten → Type 0
IsSoundUnflatten verb = 0 < length verb.separator
