-- Records in groups.
use Rattle.std.specs.Prelude.{◌≡◌, ℕ, Bool, false, not, if◌then◌else◌, List, [], ◌∷◌, map, Option, is_some, Some, None, MatchOption, slice_get}
use Rattle.std.specs.List.{filter, filter_map, flat_map, list_all}
use Rattle.std.specs.Option.{option_map}
use Rattle.std.specs.Str.{bytes_eq}
use Rattle.std.specs.Cmp.Lexicographic.{pointwise}
use Rattle.mlr_spec.specs.Tree.{Tree}
use Rattle.mlr_spec.specs.Pairs.{keys_of, value_at}
use Rattle.mlr_event.specs.Reading.{is_among}
use Rattle.text_forms.specs.Shown.{shown}
use Rattle.mlr_groups.specs.declared.group_by.GroupBy.{GroupBy}
use Rattle.mlr_groups.specs.declared.group_by.GroupBy.TheVariants as group

-- a record
abbrev pub Fields : Type 0
Fields = List (List ℕ × Tree)

-- the texts of the named fields, if the record has all of these fields
abbrev pub group_of : List (List ℕ) → Fields → Option (List (List ℕ))
group_of [] fields = Some []
group_of (name ∷ names) fields = elim (value_at name fields) [
  | Some value ↦ option_map (λ texts. shown value ∷ texts) (group_of names fields)
  | None ↦ None
]

-- the texts of the named fields, and the empty text for each that is missing
abbrev pub texts_of : List (List ℕ) → Fields → List (List ℕ)
texts_of names fields = map (λ name. elim (value_at name fields) [ Some value ↦ shown value | None ↦ [] ]) names

-- whether two lists of texts are equal
abbrev pub texts_eq : List (List ℕ) → List (List ℕ) → Bool
texts_eq texts other = pointwise bytes_eq texts other

-- the fields that have none of these names
abbrev pub others : List (List ℕ) → Fields → Fields
others names fields = filter (λ field. not (is_among names field.0)) fields

-- the texts that a record has in common with the others of its group, if it is in one
abbrev pub common_in : GroupBy → Fields → Option (List (List ℕ))
common_in (group.Texts names) fields = group_of names fields
common_in group.Keys fields = Some (keys_of fields)
common_in group.Fields fields = Some (flat_map (λ field. field.0 ∷ shown field.1 ∷ []) fields)
common_in (group.Others names) fields =
    if list_all (λ name. is_some (value_at name fields)) names then Some (flat_map (λ field. field.0 ∷ shown field.1 ∷ []) (others names fields)) else None

-- whether a record is in the group of these texts
abbrev pub is_in : GroupBy → List (List ℕ) → Fields → Bool
is_in by texts fields = elim (common_in by fields) [ Some own ↦ texts_eq texts own | None ↦ false ]

-- the records in a group
abbrev pub members : GroupBy → List (List ℕ) → List Fields → List Fields
members by texts records = filter (is_in by texts) records

-- each element once, at its first place
abbrev pub each_once : {A : Type 0} → (A → A → Bool) → List A → List A
each_once eq [] = []
each_once eq (x ∷ xs) = x ∷ filter (λ other. not (eq x other)) (each_once eq xs)

-- the groups of records, in the order in which they come first
abbrev pub groups_in : GroupBy → List Fields → List (List (List ℕ))
groups_in by records = each_once texts_eq (filter_map (common_in by) records)

-- The place of a record's group among the groups of some records. A record in no group
-- has none.
abbrev pub IsGroupPlace : GroupBy → List Fields → Fields → Option ℕ → Type 0
IsGroupPlace by records fields place =
    MatchOption place (common_in by fields ≡ None) (λ p. (texts : List (List ℕ)) × (common_in by fields ≡ Some texts) × (slice_get (groups_in by records) p ≡ Some texts))
