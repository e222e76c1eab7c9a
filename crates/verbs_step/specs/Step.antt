-- `step`: values that are made of each value of a field and those before it.
use Rattle.std.specs.Prelude.{ℕ, pos, ◌+◌, if◌then◌else◌, List, [], ◌∷◌, ◌++◌, length, map, Some, None}
use Rattle.std.specs.List.{flat_map}
use Rattle.std.specs.Option.{unwrap_or}
use Rattle.mlr_spec.specs.Arith.{arith_of}
use Rattle.mlr_spec.specs.Pairs.{put_each, value_at}
use Rattle.mlr_spec.specs.Tree.{Tree, empty, int, is_empty}
use Rattle.mlr_spec.specs.declared.arith.Op.TheVariants.{Minus}
use Rattle.mlr_groups.specs.Grouping.{common_in, members}
use Rattle.mlr_groups.specs.declared.group_by.GroupBy.{GroupBy}
use Rattle.mlr_groups.specs.declared.group_by.GroupBy.TheVariants.{Texts}
use Rattle.group_state.specs.Counts.{count_value}
use Rattle.stat_base.specs.Outputs.{output_name}
use Rattle.stat_base.specs.Steppers.{name_of}
use Rattle.stat_base.specs.Values.{present, sum_of, values_of}
use Rattle.stat_base.specs.declared.stepper.Stepper.{Stepper}
use Rattle.stat_base.specs.declared.stepper.Stepper.TheVariants.{Shift, Delta, Rsum, Counter}
use Rattle.verbs_base.specs.Records.{Fields, RecordVerb, streams}
use Rattle.verbs_step.specs.declared.step.Step.{Step}

-- the last of some values, or another where there are none
abbrev pub last_or : Tree → List Tree → Tree
last_or other [] = other
last_or other (value ∷ values) = last_or value values

-- a value without the last one before it
abbrev pub without_last : List Tree → Tree → Tree
without_last [] value = int (pos 0) []
without_last (first ∷ more) value = arith_of Minus value (last_or first more)

-- what a stepper makes of a value and those before it
abbrev pub stepped : List Tree → Tree → Stepper → Tree
stepped before value Shift = last_or empty before
stepped before value Delta = without_last before value
stepped before value Rsum = sum_of (before ++ value ∷ [])
stepped before value Counter = count_value (length before + 1)

-- the fields that are made of the value in a field of a record, after some records of its group; an absent value and an empty one
-- make none
abbrev pub made_of : Step → List Fields → Fields → List ℕ → Fields
made_of options before fields name = elim (value_at name fields) [
  | Some value ↦ (if is_empty value then [] else map (λ stepper. (output_name name (name_of stepper), stepped (present (values_of name before)) value stepper)) options.steppers)
  | None ↦ []
]

-- a record with the fields that are made of its fields
abbrev pub with_steps : Step → List Fields → Fields → Fields
with_steps options before fields = put_each fields (flat_map (made_of options before fields) options.names)

-- what the records have in common of which values count
abbrev pub step_groups : Step → GroupBy
step_groups options = Texts (unwrap_or options.groups [])

-- a record with its steps, after the records before it in its group; a record in no group is dropped
abbrev pub step_gives : Step → List Fields → Fields → List Fields
step_gives options before fields = elim (common_in (step_groups options) fields) [
  | Some texts ↦ with_steps options (members (step_groups options) texts before) fields ∷ []
  | None ↦ []
]

abbrev pub step : Step → RecordVerb
step options = streams (step_gives options)
