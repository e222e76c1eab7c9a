-- The fields of a record as pairs of a name and a tree.
use Rattle.std.specs.Prelude.{◌≡◌, ◌<◌, ℕ, Bool, true, false, List, map, length, take, Option, Some, MatchOption, slice_index_or}
use Rattle.std.specs.List.{list_any}
use Rattle.std.specs.Str.{bytes_eq}
use Rattle.mlr_spec.specs.Tree.{Tree}
use Rattle.mlr_spec.specs.Pairs.{remove_at, with_name}
use Rattle.mlr_value.specs.Value.{tree_of}
use Rattle.mlr_record.specs.declared.record.Field.{Field}

abbrev pub pair_of : Field → List ℕ × Tree
pair_of field = (field.name, tree_of field.value)

abbrev pub pairs_of : List Field → List (List ℕ × Tree)
pairs_of fields = map pair_of fields

-- whether a field has this name
abbrev pub has_name : List ℕ → Field → Bool
has_name key field = bytes_eq field.name key

-- the place of the one field with this name, or none where no field has it
abbrev pub IsPlaceOf : List ℕ → List Field → Option ℕ → Type 0
IsPlaceOf key fields place =
    MatchOption place (list_any (has_name key) fields ≡ false)
    (λ i. (i < length fields) × (list_any (has_name key) (take i fields) ≡ false) × ((d : Field) → has_name key (slice_index_or fields i d) ≡ true))

-- the field at this place, which has another name, is renamed, and another field of the new name is taken out
abbrev pub IsRenamed : List ℕ → ℕ → List Field → List Field → Type 0
IsRenamed new place before after =
    (old : List ℕ) → IsPlaceOf old before (Some place) → bytes_eq old new ≡ false → pairs_of after ≡ with_name old new (remove_at new (pairs_of before))
