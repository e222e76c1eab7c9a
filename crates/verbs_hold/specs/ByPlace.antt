-- The values of records in the places of their names.
use Rattle.std.specs.Prelude.{ℕ, Bool, true, List, map, Option, None}
use Rattle.std.specs.List.{list_all}
use Rattle.std.specs.Option.{option_map}
use Rattle.mlr_event.specs.Reading.{is_among}
use Rattle.mlr_event.specs.declared.event.Event.{Event}
use Rattle.mlr_event.specs.declared.event.Event.TheVariants.{Rec}
use Rattle.mlr_spec.specs.Pairs.{value_at}
use Rattle.mlr_spec.specs.Tree.{Tree}
use Rattle.mlr_value.specs.Value.{tree_of}
use Rattle.mlr_value.specs.declared.value.Value.{Value}
use Rattle.verbs_base.specs.Records.{Fields}

-- the values in the places as trees
abbrev pub trees_of : List (Option Value) → List (Option Tree)
trees_of values = map (option_map tree_of) values

-- no values, in the places of these names
abbrev pub no_values : List (List ℕ) → List (Option Tree)
no_values names = map (λ name. None) names

-- the values of a record in the places of these names
abbrev pub values_at : List (List ℕ) → Fields → List (Option Tree)
values_at names fields = map (λ name. value_at name fields) names

-- whether all names of a record, or of the record in an event, are among these
abbrev pub has_all_of : List (List ℕ) → Fields → Bool
has_all_of names fields = list_all (λ pair. is_among names pair.0) fields

abbrev pub has_all_in : List (List ℕ) → Event → Bool
has_all_in names (Rec fields ctx) = has_all_of names fields
has_all_in names event = true
