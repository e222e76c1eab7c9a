-- `regularize`: records with the same names get the same order of fields.
use Rattle.std.specs.Prelude.{◌≡◌, ℕ, Bool, true, List, map, Some, None}
use Rattle.std.specs.List.{find}
use Rattle.mlr_spec.specs.Tree.{absent}
use Rattle.mlr_spec.specs.Pairs.{are_distinct, keys_of}
use Rattle.mlr_groups.specs.Grouping.{texts_eq}
use Rattle.mlr_groups.specs.Keys.{key_of}
use Rattle.verbs_base.specs.Choosing.{picked}
use Rattle.verbs_base.specs.Records.{Fields, RecordVerb, maps, streams}
use Rattle.verbs_fields.specs.Sorting.{by_name}
use Rattle.verbs_state.specs.declared.regularize.RegularizeVerb.{RegularizeVerb}

-- whether two records have the same names, in any order
abbrev pub has_keys_of : Fields → Fields → Bool
has_keys_of fields other = texts_eq (keys_of (by_name fields)) (keys_of (by_name other))

-- the fields in the order of the first record with the same names
abbrev pub regular : List Fields → Fields → Fields
regular before fields = elim (find (has_keys_of fields) before) [ Some first ↦ picked (keys_of first) fields | None ↦ fields ]

abbrev pub regularize : RecordVerb
regularize = streams (λ before. maps (regular before))

-- names sorted by their bytes
abbrev pub sorted_names : List (List ℕ) → List (List ℕ)
sorted_names names = keys_of (by_name (map (λ name. (name, absent)) names))

-- the state: the sets of names so far, by their keys, and for each set the order of the names in its first
-- record
abbrev pub KeepsFirsts : List (List ℕ) → List (List (List ℕ)) → List Fields → Type 0
KeepsFirsts sets orders before =
    (firsts : List Fields)
    × (are_distinct sets ≡ true)
    × (sets ≡ map (λ first. key_of (keys_of (by_name first))) firsts)
    × (orders ≡ map keys_of firsts)
    × ((fields : Fields) → find (has_keys_of fields) before ≡ find (has_keys_of fields) firsts)

abbrev pub RegularizeRepresents : RegularizeVerb → List Fields → Type 0
RegularizeRepresents verb before = KeepsFirsts verb.sets verb.orders.items before
