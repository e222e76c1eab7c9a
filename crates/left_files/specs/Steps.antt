-- What the parts of a turn do.
use Rattle.std.specs.Prelude.{◌≡◌, ℕ, ◌≤◌, Bool, true, false, List, [], ◌∷◌, ◌++◌, length, Option, Some, None}
use Rattle.std.specs.Option.{option_and_then, option_to_list}
use Rattle.mlr_event.specs.declared.event.Event.{Event}
use Rattle.mlr_event.specs.declared.fault.Fault.{Fault}
use Rattle.left_files.specs.declared.reader.LeftReader.{LeftReader}
use Rattle.left_files.specs.declared.reader.LeftTurn.{LeftTurn}
use Rattle.left_files.specs.declared.reader.LeftTurn.TheVariants.{Went, Ended, Faulted, Failed, TooLong, NoMemory}
use Rattle.left_files.specs.Lefts.{at_left, fault_of}

-- the events of a file were kept, which is the last one where the reading ended
abbrev pub Kept : LeftTurn → List Event → LeftReader → LeftReader → Type 0
Kept Went events reader reader' =
    (1 ≤ length reader.files.items) × (reader'.files ≡ reader.files) × (reader'.current ≡ None) × (reader'.lefts.items ≡ reader.lefts.items ++ events ∷ [])
Kept (Ended lefts) events reader reader' = (reader.files.items ≡ []) × (lefts.items ≡ reader.lefts.items ++ events ∷ [])
Kept (Faulted fault) events reader reader' = ⊥
Kept (Failed name) events reader reader' = ⊥
Kept TooLong events reader reader' = ⊥
Kept NoMemory events reader reader' = Unit {0}

-- the fault in which the events of a file end was returned, or its events were kept
abbrev pub ClosedBy : Option Fault → LeftTurn → ℕ → List Event → LeftReader → LeftReader → Type 0
ClosedBy (Some fault) turn number events reader reader' = turn ≡ Faulted (at_left number fault)
ClosedBy None turn number events reader reader' = Kept turn events reader reader'

-- A file whose last event was read was closed.
pub record Closed (turn : LeftTurn) (number : ℕ) (events : List Event) (reader reader' : LeftReader) : Type 0 where
  pub before : List Event
  pub last : Option Event
  pub events_are : events ≡ before ++ option_to_list last
  pub none : last ≡ None → before ≡ []
  pub by : ClosedBy (option_and_then fault_of last) turn number before reader reader'

-- a left file can't be opened or read
abbrev pub failed : LeftTurn → Bool
failed Went = false
failed (Ended lefts) = false
failed (Faulted fault) = false
failed (Failed name) = true
failed TooLong = false
failed NoMemory = false
