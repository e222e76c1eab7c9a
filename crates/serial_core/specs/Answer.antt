-- The outcomes of a run.
use Rattle.std.specs.Prelude.{ℕ, Bool, true, false}
use Rattle.serial_core.specs.declared.answer.Ended.{Ended}
use Rattle.serial_core.specs.declared.answer.Ended.TheVariants.{Done, Refused, Data, Read, Written, TooLong, NoMemory}

-- the exit status
abbrev pub status_of : Ended → ℕ
status_of Done = 0
status_of (Refused refusal) = 1
status_of (Data fault) = 1
status_of (Read name) = 1
status_of (Written target) = 1
status_of TooLong = 1
status_of NoMemory = 3

abbrev pub is_refused : Ended → Bool
is_refused Done = false
is_refused (Refused refusal) = true
is_refused (Data fault) = false
is_refused (Read name) = false
is_refused (Written target) = false
is_refused TooLong = false
is_refused NoMemory = false

-- a write failed
abbrev pub has_failed : Ended → Bool
has_failed Done = false
has_failed (Refused refusal) = false
has_failed (Data fault) = false
has_failed (Read name) = false
has_failed (Written target) = true
has_failed TooLong = false
has_failed NoMemory = false

abbrev pub lacks_memory : Ended → Bool
lacks_memory Done = false
lacks_memory (Refused refusal) = false
lacks_memory (Data fault) = false
lacks_memory (Read name) = false
lacks_memory (Written target) = false
lacks_memory TooLong = false
lacks_memory NoMemory = true

-- the outcome says something of the data, of an output or of memory, and of no input
abbrev pub IsOfNoInput : Ended → Type 0
IsOfNoInput Done = Unit {0}
IsOfNoInput (Refused refusal) = ⊥
IsOfNoInput (Data fault) = Unit {0}
IsOfNoInput (Read name) = ⊥
IsOfNoInput (Written target) = Unit {0}
IsOfNoInput TooLong = ⊥
IsOfNoInput NoMemory = Unit {0}
