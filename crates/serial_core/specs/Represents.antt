-- How far a run has come, and what a turn of it does.
use Rattle.std.specs.Prelude.{◌≡◌, ◌⊎◌, ℕ, ◌<◌, ◌≤◌, ◌^◌, Bool, true, false, List, [], ◌++◌, Option, Some, None}
use Rattle.std.specs.List.{list_any}
use Rattle.mlr_event.specs.declared.event.Event.{Event}
use Rattle.mlr_event.specs.declared.names.InputName.{InputName}
use Rattle.mlr_event.specs.declared.names.Target.TheVariants.{Stdout}
use Rattle.mlr_event.specs.Verb.{Verb, is_end, is_list, is_open}
use Rattle.mlr_world.specs.Counts.{Rose}
use Rattle.mlr_world.specs.Inputs.{Contents}
use Rattle.mlr_world.specs.Outputs.{Held, ChangesAt, with_bytes}
use Rattle.mlr_world.specs.Taken.{Take, OpenEntry}
use Rattle.writers.specs.declared.options.WriteOpts.{WriteOpts}
use Rattle.outlet.specs.Out.{fault_in, out_of}
use Rattle.outlet.specs.Represents as outlet
use Rattle.verb_chain.specs.Chain.{chain}
use Rattle.verb_chain.specs.Represents as chain
use Rattle.read_files.specs.declared.reader.ReadTurn.{ReadTurn}
use Rattle.read_files.specs.declared.reader.ReadTurn.TheVariants as turn
use Rattle.read_files.specs.Takes.{stops_at, total}
use Rattle.serial_core.specs.declared.answer.Ended.{Ended}
use Rattle.serial_core.specs.declared.answer.Ended.TheVariants as answer
use Rattle.serial_core.specs.declared.serial.Serial.{Serial}
use Rattle.serial_core.specs.declared.serial.SerialTurn.{SerialTurn}
use Rattle.serial_core.specs.declared.serial.SerialTurn.TheVariants.{Went, Over}
use Rattle.serial_core.specs.Answer.{has_failed, lacks_memory}
use Rattle.serial_core.specs.Command.{Command, given_by, result}
use Rattle.serial_core.specs.Meaning.{Meaning, counted, meaning_of}
use Rattle.serial_core.specs.Reading.{CameOn, ReaderRepresents, TookMore}

-- It runs this command; this was taken of the inputs, these events were read, and the text of these was
-- written of what the verbs made of them. The others are pending.
pub record SerialRepresents {S : Type 0} (verb : S → Verb) (represents : S → List Event → Type 0) (command : Command) (given : List Take) (read shown : List Event) (serial : Serial S) : Type 0 where
  pub reader : ReaderRepresents command.origin given read serial.reader
  pub clear : is_open read ≡ true
  pub verbs : chain.verbs_in verb serial.stages ≡ command.verbs
  pub stages : chain.Represents verb represents read serial.stages
  pub outlet : outlet.Represents command.write shown serial.outlet
  pub at_hand : chain command.verbs read ≡ shown ++ serial.events

-- it begins: nothing was taken, and what the verbs have made of nothing is pending
abbrev pub Begins : {S : Type 0} → (S → Verb) → (S → List Event → Type 0) → Command → Serial S → Type 0
Begins verb represents command serial = SerialRepresents verb represents command [] [] [] serial

-- the same with nothing pending
pub record Settled {S : Type 0} (verb : S → Verb) (represents : S → List Event → Type 0) (command : Command) (given : List Take) (read : List Event) (serial : Serial S) : Type 0 where
  pub all : SerialRepresents verb represents command given read (chain command.verbs read) serial
  pub nothing : serial.events ≡ []

-- what an outcome says of what was taken
abbrev pub Says : Ended → Meaning → List Take → Type 0
Says answer.Done meaning given = list_any is_end (meaning.result given) ≡ true
Says (answer.Refused refusal) meaning given = ⊥
Says (answer.Data fault) meaning given = fault_in (meaning.result given) ≡ Some fault
Says (answer.Read name) meaning given = (is_open (meaning.result given) ≡ true) × (stops_at meaning.names given ≡ Some name) × (counted meaning.lefts given < 2 ^ 60)
Says (answer.Written target) meaning given = target ≡ Stdout
Says answer.TooLong meaning given = (is_open (meaning.result given) ≡ true) × (counted meaning.lefts given ≡ 2 ^ 60)
Says answer.NoMemory meaning given = Unit {0}

-- what an outcome leaves of a text in standard output
abbrev pub Leaves : Ended → List ℕ → Option (List ℕ) → Option (List ℕ) → Type 0
Leaves answer.Done text before now = now ≡ with_bytes text before
Leaves (answer.Refused refusal) text before now = now ≡ before
Leaves (answer.Data fault) text before now = now ≡ with_bytes text before
Leaves (answer.Read name) text before now = now ≡ with_bytes text before
Leaves (answer.Written target) text before now = outlet.AppendsPrefix text before now
Leaves answer.TooLong text before now = now ≡ with_bytes text before
Leaves answer.NoMemory text before now = outlet.AppendsPrefix text before now

-- nothing was taken, or more may be made of what was taken when more is
abbrev pub MayGoOn : Command → List Take → Type 0
MayGoOn command given = (given ≡ []) ⊎ (is_open (result command given) ≡ true)

-- A turn after which the run continues: all text that is fixed by what was taken was written.
pub record WentOn {S : Type 0} (verb : S → Verb) (represents : S → List Event → Type 0) (command : Command) (given given' : List Take) (read shown : List Event) (after : Serial S) (held held' : Option Held) : Type 0 where
  pub put : List Event
  pub rest : List Event
  pub events : given_by command.origin given' ≡ (read ++ put) ++ rest
  pub few : total given' < 2 ^ 60
  pub goes : is_open (chain command.verbs (read ++ put)) ≡ true
  pub may_go_on : MayGoOn command given'
  pub came_on : CameOn command.origin given given' put
  pub represent : SerialRepresents verb represents command given' (read ++ put) (chain command.verbs (read ++ put)) after
  pub more : List ℕ
  pub text : out_of command.write (chain command.verbs (read ++ put)) ≡ out_of command.write shown ++ more
  pub leaves : ChangesAt Stdout (λ before now. now ≡ with_bytes more before) held held'

-- A turn after which it is over, with this outcome.
pub record CameOver (ended : Ended) (command : Command) (given given' : List Take) (shown : List Event) (held held' : Option Held) : Type 0 where
  pub says : Says ended (meaning_of command) given'
  pub more : List ℕ
  pub text : out_of command.write (result command given') ≡ out_of command.write shown ++ more
  pub leaves : ChangesAt Stdout (Leaves ended more) held held'
  pub early : (given' ≡ given) ⊎ (is_open (result command given) ≡ true)

abbrev pub Outcome : {S : Type 0} → SerialTurn → (S → Verb) → (S → List Event → Type 0) → Command → List Take → List Take → List Event → List Event → Serial S → Option Held → Option Held → Type 0
Outcome Went verb represents command given given' read shown after held held' = WentOn verb represents command given given' read shown after held held'
Outcome (Over ended) verb represents command given given' read shown after held held' = CameOver ended command given given' shown held held'

-- What a turn did.
pub record Ran {S : Type 0} (turn : SerialTurn) (verb : S → Verb) (represents : S → List Event → Type 0) (command : Command) (before : Option (List Take)) (given : List Take) (read shown : List Event) (after : Serial S) (contents : Option Contents) (taken' : Option (List Take)) (entry' : Option OpenEntry) (held held' : Option Held) : Type 0 where
  pub given' : List Take
  pub took : TookMore command.origin before given given' contents taken' entry'
  pub outcome : Outcome turn verb represents command given given' read shown after held held'

-- what an outcome says of the counts of the inputs
abbrev pub InputCause : Ended → (InputName → ℕ) → (InputName → ℕ) → Type 0
InputCause answer.Done before now = (name : InputName) → now name ≡ before name
InputCause (answer.Refused refusal) before now = (name : InputName) → now name ≡ before name
InputCause (answer.Data fault) before now = (name : InputName) → now name ≡ before name
InputCause (answer.Read name) before now = ((other : InputName) → before other ≤ now other) × Rose (before name) (now name)
InputCause (answer.Written target) before now = (name : InputName) → now name ≡ before name
InputCause answer.TooLong before now = (name : InputName) → now name ≡ before name
InputCause answer.NoMemory before now = (name : InputName) → now name ≡ before name

abbrev pub turn_failed : SerialTurn → Bool
turn_failed Went = false
turn_failed (Over ended) = has_failed ended

abbrev pub turn_lacks : SerialTurn → Bool
turn_lacks Went = false
turn_lacks (Over ended) = lacks_memory ended

abbrev pub TurnCounts : SerialTurn → (InputName → ℕ) → (InputName → ℕ) → Type 0
TurnCounts Went before now = (name : InputName) → now name ≡ before name
TurnCounts (Over ended) before now = InputCause ended before now

-- what a write says of the events whose text is written now
abbrev pub WriteSays : Option Ended → List Event → Type 0
WriteSays None events = is_open events ≡ true
WriteSays (Some answer.Done) events = list_any is_end events ≡ true
WriteSays (Some (answer.Refused refusal)) events = ⊥
WriteSays (Some (answer.Data fault)) events = fault_in events ≡ Some fault
WriteSays (Some (answer.Read name)) events = ⊥
WriteSays (Some (answer.Written target)) events = target ≡ Stdout
WriteSays (Some answer.TooLong) events = ⊥
WriteSays (Some answer.NoMemory) events = Unit {0}

abbrev pub WriteLeaves : Option Ended → List ℕ → Option (List ℕ) → Option (List ℕ) → Type 0
WriteLeaves None text before now = now ≡ with_bytes text before
WriteLeaves (Some ended) text before now = Leaves ended text before now

abbrev pub write_failed : Option Ended → Bool
write_failed None = false
write_failed (Some ended) = has_failed ended

abbrev pub write_lacks : Option Ended → Bool
write_lacks None = false
write_lacks (Some ended) = lacks_memory ended

-- The text of events after others was written.
pub record Wrote (ended : Option Ended) (opts : WriteOpts) (shown events : List Event) (held held' : Option Held) : Type 0 where
  pub says : WriteSays ended (shown ++ events)
  pub more : List ℕ
  pub text : out_of opts (shown ++ events) ≡ out_of opts shown ++ more
  pub leaves : ChangesAt Stdout (WriteLeaves ended more) held held'

-- the result after a read, where no end and no fault came
abbrev pub following : ReadTurn → SerialTurn
following turn.Went = Went
following turn.Ended = Over answer.Done
following (turn.Failed name) = Over (answer.Read name)
following turn.TooLong = Over answer.TooLong
following turn.NoMemory = Over answer.NoMemory

-- Events can pass through the verbs after others whose text was written.
pub record CanPass {S : Type 0} (verb : S → Verb) (represents : S → List Event → Type 0) (opts : WriteOpts) (read : List Event) (serial : Serial S) : Type 0 where
  pub stages : chain.Represents verb represents read serial.stages
  pub outlet : outlet.Represents opts (chain (chain.verbs_in verb serial.stages) read) serial.outlet
  pub list : is_list (read ++ serial.events) ≡ true

-- The verbs have taken events, and all that they make of them was written.
pub record RepresentsAfter {S : Type 0} (verb : S → Verb) (represents : S → List Event → Type 0) (opts : WriteOpts) (verbs : List Verb) (events : List Event) (serial : Serial S) : Type 0 where
  pub verbs_are : chain.verbs_in verb serial.stages ≡ verbs
  pub stages : chain.Represents verb represents events serial.stages
  pub outlet : outlet.Represents opts (chain verbs events) serial.outlet
  pub at_hand : serial.events ≡ []

-- Events passed through the verbs after others, and the text of what they make was written.
pub record Passed {S : Type 0} (ended : Option Ended) (verb : S → Verb) (represents : S → List Event → Type 0) (opts : WriteOpts) (verbs : List Verb) (read put : List Event) (after : Serial S) (held held' : Option Held) : Type 0 where
  pub says : WriteSays ended (chain verbs (read ++ put))
  pub more : List ℕ
  pub text : out_of opts (chain verbs (read ++ put)) ≡ out_of opts (chain verbs read) ++ more
  pub leaves : ChangesAt Stdout (WriteLeaves ended more) held held'
  pub represent : ended ≡ None → RepresentsAfter verb represents opts verbs (read ++ put) after
