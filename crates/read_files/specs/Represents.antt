-- How far a reader of files has come, and what a turn does.
use Rattle.std.specs.Prelude.{◌≡◌, ℕ, ◌+◌, ◌*◌, ◌<◌, ◌≤◌, ◌^◌, Bool, true, false, List, [], ◌∷◌, ◌++◌, length, reverse, Option, Some, None}
use Rattle.mlr_event.specs.declared.event.Event.{Event}
use Rattle.mlr_event.specs.declared.event.Ctx.{Ctx}
use Rattle.mlr_event.specs.declared.names.FileRef.TheVariants.{Main}
use Rattle.mlr_event.specs.declared.names.InputName.{InputName}
use Rattle.mlr_event.specs.declared.options.Format.TheVariants as format
use Rattle.mlr_event.specs.declared.options.ReadOpts.{ReadOpts}
use Rattle.mlr_event.specs.Verb.{is_open}
use Rattle.mlr_world.specs.Counts.{Rose}
use Rattle.mlr_world.specs.Inputs.{Contents}
use Rattle.mlr_world.specs.Taken.{Take, OpenEntry}
use Rattle.read_csv.specs.Usable.{is_usable as csv_usable}
use Rattle.read_dkvp_nidx.specs.Usable.{is_usable as line_usable}
use Rattle.read_xtab_pprint.specs.Usable.{is_usable as block_usable}
use Rattle.read_json_lines.specs.Represents.{is_usable as json_usable}
use Rattle.read_files.specs.declared.open_file.OpenInput.{OpenInput}
use Rattle.read_files.specs.declared.reader.FileReader.{FileReader}
use Rattle.read_files.specs.declared.reader.ReadTurn.{ReadTurn}
use Rattle.read_files.specs.declared.reader.ReadTurn.TheVariants.{Went, Ended, Failed, TooLong, NoMemory}
use Rattle.read_files.specs.Takes.{After, GoesOn, InOrder, ends, stops_at, total}
use Rattle.read_files.specs.Readers.{FileRepresents}
use Rattle.read_files.specs.Sources.{Source, ctx_from, events_taken, next_file, source, zero_context}

-- a file can be read so
abbrev pub can_read : ReadOpts → Bool
can_read opts = elim opts.format [
  | format.Csv ↦ csv_usable opts
  | format.Tsv ↦ csv_usable opts
  | format.Dkvp ↦ line_usable opts
  | format.Nidx ↦ line_usable opts
  | format.Markdown ↦ line_usable opts
  | format.Xtab ↦ block_usable opts
  | format.Pprint ↦ block_usable opts
  | format.Json ↦ json_usable opts
  | format.Jsonl ↦ json_usable opts
]

-- these inputs, each read to its end
abbrev pub AllRead : List InputName → List Take → Type 0
AllRead [] [] = Unit {0}
AllRead [] (take ∷ takes) = ⊥
AllRead (name ∷ names) [] = ⊥
AllRead (name ∷ names) (take ∷ takes) = (take.name ≡ name) × (take.ended ≡ true) × AllRead names takes

-- the next input, after those that were read whole
abbrev pub source_after : ReadOpts → Ctx → Source
source_after opts ctx = record { opts = opts; file = Main (ctx.filenum + 1); ctx = next_file ctx }

-- the open input, if one is open, after those that were read whole and before those that weren't opened
pub record CurrentRepresents (opts : ReadOpts) (prefix rest : List InputName) (done : List Take) (names : List InputName) (given : List Take) (input : OpenInput) : Type 0 where
  pub bytes : List ℕ
  pub names_are : names ≡ prefix ++ input.name ∷ rest
  pub given_is : given ≡ done ++ (record { name = input.name; bytes = bytes; ended = false }) ∷ []
  pub represents : FileRepresents input.reader (source_after opts (ctx_from opts zero_context done)) bytes

pub record NoneRepresents (prefix rest : List InputName) (done : List Take) (names : List InputName) (given : List Take) : Type 0 where
  pub names_are : names ≡ prefix ++ rest
  pub given_is : given ≡ done

abbrev pub OpenRepresents : Option OpenInput → ReadOpts → List InputName → List InputName → List Take → List InputName → List Take → Type 0
OpenRepresents None opts prefix rest done names given = NoneRepresents prefix rest done names given
OpenRepresents (Some input) opts prefix rest done names given = CurrentRepresents opts prefix rest done names given input

-- how many inputs are open
abbrev pub open_count : Option OpenInput → ℕ
open_count None = 0
open_count (Some input) = 1

-- It reads these inputs, this was taken of them, and what that fixes was handed out: no fault. How the object holds this is
-- its own affair.
pub record Represents (opts : ReadOpts) (names : List InputName) (given : List Take) (reader : FileReader) : Type 0 where
  pub order : InOrder names given
  pub few : total given < 2 ^ 60
  pub clear : is_open (events_taken opts given) ≡ true
  pub usable : can_read opts ≡ true
  pub opts_are : reader.opts ≡ opts
  pub taken_is : reader.taken ≡ total given
  pub prefix : List InputName
  pub done : List Take
  pub read : AllRead prefix done
  pub at_is : reader.at ≡ ctx_from opts zero_context done
  pub few_files : reader.at.filenum + open_count reader.current + length reader.names.items ≤ 2 ^ 60
  pub few_records : reader.at.nr ≤ total done + 2 * reader.at.filenum
  pub current : OpenRepresents reader.current opts prefix (reverse reader.names.items) done names given

-- what the result of a turn says of what was taken
abbrev pub TurnSays : ReadTurn → ReadOpts → List InputName → List Take → List Take → Type 0
TurnSays Went opts names given given' = (is_open (source opts names given') ≡ true) × (total given' < 2 ^ 60) × (total given + ends given < total given' + ends given')
TurnSays Ended opts names given given' = is_open (source opts names given') ≡ false
TurnSays (Failed name) opts names given given' = (is_open (source opts names given') ≡ true) × (total given' < 2 ^ 60) × (stops_at names given' ≡ Some name) × (source opts names given' ≡ events_taken opts given)
TurnSays TooLong opts names given given' = (is_open (source opts names given') ≡ true) × (total given' ≡ 2 ^ 60)
TurnSays NoMemory opts names given given' = Unit {0}

-- What a turn did: more was taken, in one read, and unless memory ran out the events that it fixes were
-- pushed.
pub record Turned (turn : ReadTurn) (opts : ReadOpts) (names : List InputName) (before : Option (List Take)) (given : List Take) (reader' : FileReader) (contents : Option Contents) (taken' : Option (List Take)) (entry' : Option OpenEntry) (out out' : List Event) : Type 0 where
  pub given' : List Take
  pub order : InOrder names given'
  pub goes_on : GoesOn given given'
  pub following : After before given' contents taken' entry'
  pub one_read : total given' < total given + 65536
  pub few : total given' ≤ 2 ^ 60
  pub says : TurnSays turn opts names given given'
  pub more : List Event
  pub events : source opts names given' ≡ events_taken opts given ++ more
  pub appends : (turn ≡ NoMemory → ⊥) → out' ≡ out ++ more
  pub represents : turn ≡ Went → Represents opts names given' reader'

-- what a result says of the counts of the inputs
abbrev pub TurnCause : ReadTurn → (InputName → ℕ) → (InputName → ℕ) → Type 0
TurnCause Went before now = (name : InputName) → now name ≡ before name
TurnCause Ended before now = (name : InputName) → now name ≡ before name
TurnCause (Failed name) before now = ((other : InputName) → before other ≤ now other) × Rose (before name) (now name)
TurnCause TooLong before now = (name : InputName) → now name ≡ before name
TurnCause NoMemory before now = (name : InputName) → now name ≡ before name
