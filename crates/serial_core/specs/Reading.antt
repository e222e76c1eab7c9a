-- How far a reader has come, and what a turn of it does.
use Rattle.std.specs.Prelude.{◌≡◌, ◌⊎◌, ℕ, ◌+◌, ◌<◌, ◌≤◌, ◌^◌, true, false, List, [], ◌++◌, length, Option, Some}
use Rattle.mlr_event.specs.declared.event.Event.{Event}
use Rattle.mlr_event.specs.declared.names.InputName.{InputName}
use Rattle.mlr_event.specs.Verb.{is_list, is_open}
use Rattle.mlr_world.specs.Inputs.{Contents}
use Rattle.mlr_world.specs.Taken.{Take, OpenEntry}
use Rattle.read_files.specs.declared.reader.ReadTurn.{ReadTurn}
use Rattle.read_files.specs.declared.reader.ReadTurn.TheVariants.{Went, Ended, Failed, TooLong, NoMemory}
use Rattle.read_files.specs.Takes.{After, GoesOn, InOrder, ends, stops_at, total}
use Rattle.read_files.specs.Sources.{events_taken}
use Rattle.read_files.specs.Represents as file
use Rattle.verbs_seq.specs.Seq.{IsSoundSeq, seq_all, seq_events}
use Rattle.verbs_seq.specs.declared.seq_spec.SeqSpec.{SeqSpec}
use Rattle.verbs_seq.specs.declared.source.SeqSource.{SeqSource}
use Rattle.verbs_seq.specs.Represents as seq
use Rattle.serial_core.specs.declared.reader.Reader.{Reader}
use Rattle.serial_core.specs.declared.reader.Reader.TheVariants as reader
use Rattle.serial_core.specs.Command.{Origin, files, numbers, given_by, names_of}

-- it reads this origin, this was taken of its inputs, and these events were pushed
abbrev pub ReaderRepresents : Origin → List Take → List Event → Reader → Type 0
ReaderRepresents (files opts names) given read (reader.Files all) = file.Represents opts names given all × (read ≡ events_taken opts given)
ReaderRepresents (files opts names) given read (reader.Numbers all) = ⊥
ReaderRepresents (numbers spec) given read (reader.Files all) = ⊥
ReaderRepresents (numbers spec) given read (reader.Numbers all) =
    (n : ℕ) × IsSoundSeq spec × seq.RepresentsAt spec n all × (read ≡ seq_events spec 0 n) × (given ≡ [])

-- What a turn of the numbers says: the next of them came, or all that were left and the end. They are at most 500 numbers.
pub record Counts (turn : ReadTurn) (spec : SeqSpec) (given : ℕ) (after : SeqSource) (out out' : List Event) : Type 0 where
  pub some : ℕ
  pub put : List Event
  pub few : length put ≤ 501
  pub appends : (turn ≡ NoMemory → ⊥) → out' ≡ out ++ put
  pub next : turn ≡ Went → (put ≡ seq_events spec given some) × (put ≡ [] → ⊥) × seq.RepresentsAt spec (given + some) after
  pub last : turn ≡ Ended → seq_events spec 0 given ++ put ≡ seq_all spec
  pub outcome : (turn ≡ Went) ⊎ ((turn ≡ Ended) ⊎ (turn ≡ NoMemory))

-- what the result of a turn says of what was taken, and of the pushed events: whether they are all, and which
abbrev pub ReadSays : ReadTurn → Origin → List Take → List Event → List Event → Type 0
ReadSays Went origin given read rest = (is_open read ≡ true) × (total given < 2 ^ 60) × ((rest ≡ []) ⊎ (given ≡ []))
ReadSays Ended origin given read rest = (is_open read ≡ false) × (rest ≡ [])
ReadSays (Failed name) origin given read rest = (is_open read ≡ true) × (rest ≡ []) × (stops_at (names_of origin) given ≡ Some name) × (total given < 2 ^ 60)
ReadSays TooLong origin given read rest = (is_open read ≡ true) × (rest ≡ []) × (total given ≡ 2 ^ 60)
ReadSays NoMemory origin given read rest = Unit {0}

-- More was taken of the inputs of an origin, in one read.
pub record TookMore (origin : Origin) (before : Option (List Take)) (given given' : List Take) (contents : Option Contents) (taken' : Option (List Take)) (entry' : Option OpenEntry) : Type 0 where
  pub order : InOrder (names_of origin) given'
  pub goes_on : GoesOn given given'
  pub following : After before given' contents taken' entry'
  pub one_read : total given' < total given + 65536
  pub few : total given' ≤ 2 ^ 60

-- the run came on: more was taken of the inputs, or more numbers came
abbrev pub CameOn : Origin → List Take → List Take → List Event → Type 0
CameOn (files opts names) given given' put = total given + ends given < total given' + ends given'
CameOn (numbers spec) given given' put = put ≡ [] → ⊥

-- so many events come in one turn: at most 500 numbers and the end, and of inputs what one read fixes
abbrev pub AreFew : Origin → List Event → Type 0
AreFew (files opts names) put = Unit {0}
AreFew (numbers spec) put = length put ≤ 501

-- What a turn did: more was taken, and unless memory ran out the next events were pushed.
pub record Read (turn : ReadTurn) (origin : Origin) (before : Option (List Take)) (given : List Take) (read : List Event) (after : Reader) (contents : Option Contents) (taken' : Option (List Take)) (entry' : Option OpenEntry) (out out' : List Event) : Type 0 where
  pub given' : List Take
  pub took : TookMore origin before given given' contents taken' entry'
  pub put : List Event
  pub rest : List Event
  pub events : given_by origin given' ≡ (read ++ put) ++ rest
  pub list : is_list (given_by origin given') ≡ true
  pub few : AreFew origin put
  pub appends : (turn ≡ NoMemory → ⊥) → out' ≡ out ++ put
  pub fails : ((name : InputName) → turn ≡ Failed name → put ≡ [])
  pub says : ReadSays turn origin given' (read ++ put) rest
  pub represents : turn ≡ Went → ReaderRepresents origin given' (read ++ put) after
  pub early : (given' ≡ given) ⊎ (given_by origin given ≡ read)
  pub came_on : turn ≡ Went → CameOn origin given given' put
