-- The state of the inputs in memory that contracts see.
use Rattle.std.specs.Prelude.{ℕ, List, [], Option, None}
use Rattle.mlr_event.specs.declared.names.InputName.{InputName}
use Rattle.mlr_world.specs.Calls.{Calls, calls_of}
use Rattle.mlr_world.specs.MemoryTexts.{same_input, first_at}
use Rattle.mlr_world.specs.Taken.{Take, OpenEntry}

pub record Source : Type 0 where
  -- the names with their contents; the first entry of a name counts
  pub contents : List (InputName × List ℕ)
  pub taken : List Take
  pub open_entry : Option OpenEntry
  pub faults : ℕ
  -- the sizes of the pieces of the reads to come
  pub pieces : List ℕ
  pub calls : Calls

-- the state before the first call
abbrev pub source_of : List (InputName × List ℕ) → List ℕ → List ℕ → Source
source_of contents pieces failing =
    record { contents = contents; taken = []; open_entry = None; faults = 0; pieces = pieces; calls = calls_of failing }

-- the state of the inputs that never fail, and the one before the first call
pub record SureSource : Type 0 where
  pub contents : List (InputName × List ℕ)
  pub taken : List Take
  pub open_entry : Option OpenEntry

abbrev pub sure_source_of : List (InputName × List ℕ) → SureSource
sure_source_of contents = record { contents = contents; taken = []; open_entry = None }

-- the contents of a name
abbrev pub contents_at : List (InputName × List ℕ) → InputName → Option (List ℕ)
contents_at contents name = first_at (λ entry. same_input entry.0 name) (λ entry. entry.1) contents
