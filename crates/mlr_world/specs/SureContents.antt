-- The inputs in memory that never fail.
use Rattle.std.specs.Prelude.{◌≡◌, ◌≤◌, ◌++◌, ℕ, List, [], length, take, map, All, Some}
use Rattle.mlr_event.specs.declared.names.InputName.{InputName}
use Rattle.mlr_world.specs.declared.memory_inputs.Reading.{Reading}
use Rattle.mlr_world.specs.Inputs.{Contents}
use Rattle.mlr_world.specs.MemorySource.{contents_at}
use Rattle.mlr_world.specs.MemoryInputs.{IsReading}
use Rattle.mlr_world.specs.Outputs.{or_empty}

-- the contents of a name; one that isn't listed is empty
abbrev pub sure_contents : List (InputName × List ℕ) → Contents
sure_contents contents name = Some (or_empty (contents_at contents name))

-- the entry of a name that isn't listed
abbrev pub empty_entry : InputName → InputName × List ℕ
empty_entry name = (name, [])

-- empty entries were appended to the list
abbrev pub AddsEmpty : List (InputName × List ℕ) → List (InputName × List ℕ) → Type 0
AddsEmpty before now = (names : List InputName) × (now ≡ before ++ map empty_entry names)

-- The first `given` entries are those that were given, and the later ones change the contents of no name.
-- Each reading is of one entry.
pub record SureState (given : ℕ) (entries : List (InputName × List ℕ)) (readings : List Reading) : Type 0 where
  pub there : given ≤ length entries
  pub same : (name : InputName) → sure_contents entries name ≡ sure_contents (take given entries) name
  pub fine : All (IsReading entries) readings
