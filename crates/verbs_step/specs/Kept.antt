-- What is kept of the values of a field, and what the next value makes of it.
use Rattle.std.specs.Prelude.{ℕ, ◌+◌, List, [], ◌∷◌, length, Option, Some, None}
use Rattle.std.specs.Option.{option_map}
use Rattle.mlr_spec.specs.Arith.{arith_of}
use Rattle.mlr_spec.specs.Tree.{Tree, empty}
use Rattle.mlr_spec.specs.declared.arith.Op.TheVariants.{Minus, Plus}
use Rattle.mlr_value.specs.Value.{tree_of}
use Rattle.mlr_groups.specs.Tallying.{capped}
use Rattle.group_state.specs.Counts.{count_value}
use Rattle.stat_base.specs.Values.{sum_of}
use Rattle.stat_base.specs.declared.stepper.Stepper.{Stepper}
use Rattle.stat_base.specs.declared.stepper.Stepper.TheVariants as stepper
use Rattle.verbs_step.specs.Step.{last_or}
use Rattle.verbs_step.specs.declared.track.Track.{Track}
use Rattle.verbs_step.specs.declared.track.Track.TheVariants as track

-- what a stepper keeps of some values
pub data Kept : Type 0 where
  last_value : Tree → Kept
  last_operand : Option Tree → Kept
  total : Tree → Kept
  number : ℕ → Kept

-- what a track keeps
abbrev pub kept : Track → Kept
kept (track.Shift last) = last_value (tree_of last)
kept (track.Delta last) = last_operand (option_map tree_of last)
kept (track.Rsum sum) = total (tree_of sum)
kept (track.Counter count) = number count

-- the last of some values, if there is one
abbrev pub last_in : List Tree → Option Tree
last_in [] = None
last_in (value ∷ values) = Some (last_or value values)

-- what a stepper keeps of these values
abbrev pub kept_of : Stepper → List Tree → Kept
kept_of stepper.Shift values = last_value (last_or empty values)
kept_of stepper.Delta values = last_operand (last_in values)
kept_of stepper.Rsum values = total (sum_of values)
kept_of stepper.Counter values = number (capped (length values))

-- what is kept after one more value
abbrev pub kept_after : Tree → Kept → Kept
kept_after value (last_value last) = last_value value
kept_after value (last_operand last) = last_operand (Some value)
kept_after value (total sum) = total (arith_of Plus sum value)
kept_after value (number count) = number (capped (count + 1))

-- what one more value makes
abbrev pub made_from : Tree → Kept → Tree
made_from value (last_value last) = last
made_from value (last_operand None) = count_value 0
made_from value (last_operand (Some last)) = arith_of Minus value last
made_from value (total sum) = arith_of Plus sum value
made_from value (number count) = count_value (count + 1)
