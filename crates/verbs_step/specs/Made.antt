-- The values that a record makes, before they are put into it.
use Rattle.std.specs.Prelude.{ℕ, if◌then◌else◌, List, [], ◌∷◌, map, Option, Some, None}
use Rattle.std.specs.List.{flat_map}
use Rattle.std.specs.Option.{option_map}
use Rattle.mlr_spec.specs.Pairs.{value_at}
use Rattle.mlr_spec.specs.Tree.{Tree, is_empty}
use Rattle.mlr_value.specs.Value.{tree_of}
use Rattle.mlr_value.specs.declared.value.Value.{Value}
use Rattle.stat_base.specs.Outputs.{output_name}
use Rattle.stat_base.specs.Steppers.{name_of}
use Rattle.stat_base.specs.Values.{present, values_of}
use Rattle.stat_base.specs.declared.stepper.Stepper.{Stepper}
use Rattle.verbs_base.specs.Records.{Fields}
use Rattle.verbs_step.specs.Kept.{Kept, kept_after, made_from}
use Rattle.verbs_step.specs.Step.{stepped}
use Rattle.verbs_step.specs.declared.step.Step.{Step}

-- the value of a field, if it isn't empty
abbrev pub present_at : List ℕ → Fields → Option Tree
present_at name fields = elim (value_at name fields) [ Some value ↦ (if is_empty value then None else Some value) | None ↦ None ]

-- the values in the places where they are made, as trees
abbrev pub trees_of : List (Option Value) → List (Option Tree)
trees_of made = map (option_map tree_of) made

-- what a value that may be absent makes, track by track, and what is kept after it
abbrev pub made_by : Option Tree → List Kept → List (Option Tree)
made_by (Some value) tracks = map (λ kept. Some (made_from value kept)) tracks
made_by None tracks = map (λ kept. None) tracks

abbrev pub kept_by : Option Tree → List Kept → List Kept
kept_by (Some value) tracks = map (kept_after value) tracks
kept_by None tracks = tracks

-- what a value that may be absent makes after some values, stepper by stepper
abbrev pub made_after : List Stepper → List Tree → Option Tree → List (Option Tree)
made_after steppers before (Some value) = map (λ stepper. Some (stepped before value stepper)) steppers
made_after steppers before None = map (λ stepper. None) steppers

-- what the named fields of a record make after other records
abbrev pub made_in : List Stepper → List (List ℕ) → List Fields → Fields → List (Option Tree)
made_in steppers names before fields = flat_map (λ name. made_after steppers (present (values_of name before)) (present_at name fields)) names

-- the names of the fields that are made, field by field
abbrev pub outputs_for : List Stepper → List ℕ → List (List ℕ)
outputs_for steppers name = map (λ stepper. output_name name (name_of stepper)) steppers

abbrev pub outputs_of : Step → List (List ℕ)
outputs_of options = flat_map (outputs_for options.steppers) options.names

-- the values that were made, with their names
abbrev pub named : List (List ℕ) → List (Option Tree) → Fields
named [] made = []
named (name ∷ names) [] = []
named (name ∷ names) (Some value ∷ made) = (name, value) ∷ named names made
named (name ∷ names) (None ∷ made) = named names made
