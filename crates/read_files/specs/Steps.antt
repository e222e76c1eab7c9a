-- What the parts of a turn do.
use Rattle.std.specs.Prelude.{◌≡◌, ℕ, ◌+◌, ◌*◌, ◌<◌, ◌≤◌, ◌^◌, Bool, true, false, List, [], ◌∷◌, ◌++◌, length, reverse, None}
use Rattle.mlr_event.specs.declared.event.Ctx.{Ctx}
use Rattle.mlr_event.specs.declared.event.Event.{Event}
use Rattle.mlr_event.specs.declared.event.Event.TheVariants.{End}
use Rattle.mlr_event.specs.declared.names.InputName.{InputName}
use Rattle.mlr_event.specs.declared.options.ReadOpts.{ReadOpts}
use Rattle.mlr_event.specs.Verb.{is_open}
use Rattle.mlr_world.specs.Taken.{Take}
use Rattle.read_files.specs.declared.reader.FileReader.{FileReader}
use Rattle.read_files.specs.declared.reader.ReadTurn.{ReadTurn}
use Rattle.read_files.specs.declared.reader.ReadTurn.TheVariants.{Went, Ended, Failed, TooLong, NoMemory}
use Rattle.read_files.specs.Takes.{GoesOn, InOrder, total}
use Rattle.read_files.specs.Sources.{ctx_from, events_taken, source, zero_context}
use Rattle.read_files.specs.Represents.{AllRead, Represents, TurnSays, can_read}

-- It reads these inputs, each of which this was taken of was read whole, and the next one has this name, which was taken
-- out of the names.
pub record RepresentsNext (opts : ReadOpts) (names : List InputName) (given : List Take) (name : InputName) (reader : FileReader) : Type 0 where
  pub few : total given < 2 ^ 60
  pub clear : is_open (events_taken opts given) ≡ true
  pub usable : can_read opts ≡ true
  pub opts_are : reader.opts ≡ opts
  pub taken_is : reader.taken ≡ total given
  pub prefix : List InputName
  pub read : AllRead prefix given
  pub at_is : reader.at ≡ ctx_from opts zero_context given
  pub few_files : reader.at.filenum + 1 + length reader.names.items ≤ 2 ^ 60
  pub few_records : reader.at.nr ≤ total given + 2 * reader.at.filenum
  pub names_are : names ≡ prefix ++ name ∷ reverse reader.names.items

-- the end was pushed after all
abbrev pub AppendsEnd : ReadTurn → Ctx → List Event → List Event → Type 0
AppendsEnd Went at out out' = ⊥
AppendsEnd Ended at out out' = out' ≡ out ++ End at ∷ []
AppendsEnd (Failed name) at out out' = ⊥
AppendsEnd TooLong at out out' = ⊥
AppendsEnd NoMemory at out out' = Unit {0}

-- What a read led to, by which what was taken became this: unless memory ran out, the events that it fixes
-- were pushed.
pub record Stepped (turn : ReadTurn) (opts : ReadOpts) (names : List InputName) (given given' : List Take) (reader' : FileReader) (out out' : List Event) : Type 0 where
  pub order : InOrder names given'
  pub goes_on : GoesOn given given'
  pub says : TurnSays turn opts names given given'
  pub more : List Event
  pub events : source opts names given' ≡ events_taken opts given ++ more
  pub appends : (turn ≡ NoMemory → ⊥) → out' ≡ out ++ more
  pub represents : turn ≡ Went → Represents opts names given' reader'

-- an input can't be opened or read
abbrev pub failed : ReadTurn → Bool
failed Went = false
failed Ended = false
failed (Failed name) = true
failed TooLong = false
failed NoMemory = false

-- an input was closed, after which this is the context, and the end was pushed if it is the last one
abbrev pub Closes : ReadTurn → Ctx → FileReader → FileReader → List Event → List Event → Type 0
Closes Went at reader reader' out out' = (1 ≤ length reader.names.items) × (reader' ≡ (record reader { current = None; at = at })) × (out' ≡ out)
Closes Ended at reader reader' out out' = (reader.names.items ≡ []) × (out' ≡ out ++ End at ∷ [])
Closes (Failed name) at reader reader' out out' = ⊥
Closes TooLong at reader reader' out out' = ⊥
Closes NoMemory at reader reader' out out' = Unit {0}

-- so many bytes were taken, and the reading continues if they aren't too many
abbrev pub WentTo : ReadTurn → ℕ → Type 0
WentTo Went taken = taken ≡ 2 ^ 60 → ⊥
WentTo Ended taken = ⊥
WentTo (Failed name) taken = ⊥
WentTo TooLong taken = taken ≡ 2 ^ 60
WentTo NoMemory taken = ⊥
