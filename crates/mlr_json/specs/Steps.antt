-- The machine's steps as the definitions have them.
use Rattle.std.specs.Prelude.{◌≡◌, ◌<◌, ◌≤◌, Bool, true, false, ◌&&◌, ◌||◌, List, [], ◌∷◌, length, reverse}
use Rattle.mlr_value.specs.Value.{tree_of}
use Rattle.mlr_json.specs.declared.frame.Frame.{Frame}
use Rattle.mlr_json.specs.declared.frame.Frame.TheVariants.{Array, Map}
use Rattle.mlr_json.specs.declared.frame.Phase.{Phase}
use Rattle.mlr_json.specs.declared.frame.Phase.TheVariants as phase
use Rattle.mlr_json.specs.declared.machine.Machine.{Machine}
use Rattle.mlr_json.specs.declared.machine.Went.{Went}
use Rattle.mlr_json.specs.declared.machine.Went.TheVariants.{On, Whole, Wrong, Deep}
use Rattle.mlr_json.specs.Machine.{Step, on, whole, wrong, takes_value, takes_key}

-- the frames, the innermost first
abbrev pub frames_of : Machine → List Frame
frames_of machine = reverse machine.frames.items

-- a machine at these frames and this phase
pub record Represents (machine : Machine) (frames : List Frame) (at : Phase) : Type 0 where
  pub frames_are : frames_of machine ≡ frames
  pub phase_is : machine.phase ≡ at

-- what went, and the machine afterwards, are this step
abbrev pub IsStep : Step → Went → Machine → Type 0
IsStep (on frames at) On machine = Represents machine frames at × (length frames ≤ 100)
IsStep (on frames at) Deep machine = 100 < length frames
IsStep (whole tree) (Whole value) machine = (tree_of value ≡ tree) × Represents machine [] phase.Value
IsStep wrong Wrong machine = Unit {0}
IsStep _ _ machine = ⊥

-- what a token led to that completes no value
abbrev pub went : Bool → Went
went true = On
went false = Wrong

-- whether a text may come: a key of the map that is open, or a value
abbrev pub is_in_map : List Frame → Bool
is_in_map [] = false
is_in_map (Array items ∷ frames) = false
is_in_map (Map pairs key ∷ frames) = true

-- whether a bracket is open
abbrev pub is_within : List Frame → Bool
is_within [] = false
is_within (frame ∷ frames) = true

abbrev pub takes_text : List Frame → Phase → Bool
takes_text frames at = takes_value at || takes_key at && is_in_map frames
