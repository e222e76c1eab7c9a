-- `fill-down`: fields get the last values that earlier records have in them.
use Rattle.std.specs.Prelude.{◌≡◌, ℕ, Bool, not, ◌&&◌, if◌then◌else◌, List, [], ◌∷◌, map, Option, Some, None}
use Rattle.std.specs.List.{filter_map, fold}
use Rattle.std.specs.Option.{option_map}
use Rattle.mlr_spec.specs.Tree.{Tree}
use Rattle.mlr_spec.specs.Pairs.{put_at, value_at}
use Rattle.mlr_value.specs.Value.{tree_of}
use Rattle.mlr_value.specs.declared.value.Value.{Value}
use Rattle.verbs_base.specs.Choosing.{is_empty}
use Rattle.verbs_base.specs.Records.{Fields, RecordVerb, streams}
use Rattle.verbs_state.specs.declared.fill_down.FillDown.{FillDown}
use Rattle.verbs_state.specs.declared.fill_down.FillDownVerb.{FillDownVerb}
use Rattle.verbs_state.specs.Last.{last}

-- The value of a field in a record, which later records may get. With `-a` an empty value doesn't count: the
-- empty field itself is filled with a value from an earlier record.
abbrev pub carried : Bool → List ℕ → Fields → Option Tree
carried blank name fields = elim (value_at name fields) [
  | Some value ↦ (if blank && is_empty value then None else Some value)
  | None ↦ None
]

-- the last value that records have in the field
abbrev pub last_carried : Bool → List ℕ → List Fields → Option Tree
last_carried blank name before = last (filter_map (carried blank name) before)

-- whether the field is to be filled: it is absent, or with `-a` present and empty
abbrev pub is_wanting : Bool → List ℕ → Fields → Bool
is_wanting blank name fields = elim (value_at name fields) [ Some value ↦ blank && is_empty value | None ↦ not blank ]

-- a record with one field filled, in its place or, if it is absent, at the end
abbrev pub filled : Bool → List Fields → Fields → List ℕ → Fields
filled blank before fields name = elim (last_carried blank name before) [
  | Some value ↦ (if is_wanting blank name fields then put_at name value fields else fields)
  | None ↦ fields
]

abbrev pub fill_down_gives : FillDown → List Fields → Fields → List Fields
fill_down_gives options before fields = fold (filled options.blank before) fields options.names ∷ []

abbrev pub fill_down : FillDown → RecordVerb
fill_down options = streams (fill_down_gives options)

-- the kept values: for each name the last value of the field
abbrev pub KeepsLast : FillDown → List (Option Value) → List Fields → Type 0
KeepsLast options kept before = map (option_map tree_of) kept ≡ map (λ name. last_carried options.blank name before) options.names

abbrev pub FillDownRepresents : FillDownVerb → List Fields → Type 0
FillDownRepresents verb before = KeepsLast verb.options verb.kept.items before
