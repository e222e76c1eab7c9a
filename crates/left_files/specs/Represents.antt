-- How far a reader of left files has come, and what a turn does.
use Rattle.std.specs.Prelude.{◌≡◌, ◌⊎◌, ℕ, ◌+◌, ◌*◌, ◌-◌, ◌<◌, ◌≤◌, ◌^◌, true, if◌then◌else◌, List, [], ◌∷◌, ◌++◌, length, reverse, Option, Some, None, IfSome}
use Rattle.std.specs.List.{list_all}
use Rattle.mlr_event.specs.declared.names.InputName.{InputName}
use Rattle.mlr_world.specs.Counts.{Rose}
use Rattle.mlr_world.specs.Inputs.{Contents}
use Rattle.mlr_world.specs.Taken.{Take, OpenEntry}
use Rattle.read_files.specs.Takes.{After, GoesOn, InOrder, ends, stops_at, taken_by, total}
use Rattle.read_files.specs.Sources.{events_taken}
use Rattle.read_files.specs.Represents as files
use Rattle.read_files.specs.Represents.{AllRead, can_read}
use Rattle.left_files.specs.declared.left_file.LeftFile.{LeftFile}
use Rattle.left_files.specs.declared.open_left.OpenLeft.{OpenLeft}
use Rattle.left_files.specs.declared.reader.LeftReader.{LeftReader}
use Rattle.left_files.specs.declared.reader.LeftTurn.{LeftTurn}
use Rattle.left_files.specs.declared.reader.LeftTurn.TheVariants.{Went, Ended, Faulted, Failed, TooLong, NoMemory}
use Rattle.left_files.specs.Lefts.{faulted, lefts_of, names_of, reading, whole}

-- a file, of which this was taken and not its end
pub record ReadsFile (file : LeftFile) (takes : List Take) (input : OpenLeft) : Type 0 where
  pub number_is : input.number ≡ file.number
  pub unended : ends takes ≡ 0
  pub represents : files.Represents file.read (file.name ∷ []) takes input.reader
  pub events_are : input.events ≡ events_taken file.read takes

abbrev pub Begins : LeftFile → OpenLeft → Type 0
Begins file input = ReadsFile file [] input

-- the file that is being read, if there is one, after those that were read whole and before those that weren't begun
pub record CurrentRepresents (prefix rest : List LeftFile) (done : List Take) (files : List LeftFile) (given : List Take) (input : OpenLeft) : Type 0 where
  pub file : LeftFile
  pub takes : List Take
  pub files_are : files ≡ prefix ++ file ∷ rest
  pub given_is : given ≡ done ++ takes
  pub reads : ReadsFile file takes input

pub record NoneRepresents (prefix rest : List LeftFile) (done : List Take) (files : List LeftFile) (given : List Take) : Type 0 where
  pub files_are : files ≡ prefix ++ rest
  pub given_is : given ≡ done

abbrev pub OpenRepresents : Option OpenLeft → List LeftFile → List LeftFile → List Take → List LeftFile → List Take → Type 0
OpenRepresents None prefix rest done files given = NoneRepresents prefix rest done files given
OpenRepresents (Some input) prefix rest done files given = CurrentRepresents prefix rest done files given input

-- It reads these left files, this was taken of them, and it had no fault. How the object holds this is its own affair.
pub record Represents (files : List LeftFile) (given : List Take) (reader : LeftReader) : Type 0 where
  pub order : InOrder (names_of files) given
  pub begun : (given ≡ []) ⊎ (lefts_of files given ≡ reading)
  pub usable : list_all (λ file. can_read file.read) files ≡ true
  pub prefix : List LeftFile
  pub done : List Take
  pub read : AllRead (names_of prefix) done
  pub kept : lefts_of prefix done ≡ whole reader.lefts.items
  pub current : OpenRepresents reader.current prefix (reverse reader.files.items) done files given

-- the same reader with this file being read
abbrev pub with_open : OpenLeft → LeftReader → LeftReader
with_open input reader = record reader { current = Some input }

-- how much there is left to take at most: of each file 2^60 bytes and the end
abbrev pub open_left : Option OpenLeft → ℕ
open_left None = 0
open_left (Some input) = 2 ^ 60 + 1 - input.reader.taken

abbrev pub left : LeftReader → ℕ
left reader = length reader.files.items * (2 ^ 60 + 1) + open_left reader.current

-- how many bytes were taken of the file that is being read
abbrev pub open_bytes : List Take → ℕ
open_bytes [] = 0
open_bytes (take ∷ []) = if take.ended then 0 else length take.bytes
open_bytes (take ∷ next ∷ given) = open_bytes (next ∷ given)

-- what a result says of what was taken
abbrev pub Says : LeftTurn → List LeftFile → List Take → Type 0
Says Went files given = (lefts_of files given ≡ reading) × (open_bytes given < 2 ^ 60)
Says (Ended lefts) files given = lefts_of files given ≡ whole lefts.items
Says (Faulted fault) files given = lefts_of files given ≡ faulted fault
Says (Failed name) files given = (lefts_of files given ≡ reading) × (stops_at (names_of files) given ≡ Some name) × (open_bytes given < 2 ^ 60)
Says TooLong files given = (lefts_of files given ≡ reading) × (open_bytes given ≡ 2 ^ 60)
Says NoMemory files given = Unit {0}

-- What a turn did: more was taken, in one read.
pub record Turned (turn : LeftTurn) (files : List LeftFile) (before : Option (List Take)) (given : List Take) (reader' : LeftReader) (contents : Option Contents) (taken' : Option (List Take)) (entry' : Option OpenEntry) : Type 0 where
  pub given' : List Take
  pub order : InOrder (names_of files) given'
  pub goes_on : GoesOn given given'
  pub following : After before given' contents taken' entry'
  pub one_read : total given' < total given + 65536
  pub few : open_bytes given' ≤ 2 ^ 60
  pub says : Says turn files given'
  pub more : turn ≡ Went → total given + ends given < total given' + ends given'
  pub represents : turn ≡ Went → Represents files given' reader'

-- Fewer than 65,536 bytes more were taken than those that make a fault or are all.
abbrev pub StopsEarly : List LeftFile → Contents → List Take → Type 0
StopsEarly files told given = (n : ℕ) → (lefts_of files (taken_by told (names_of files) n) ≡ reading → ⊥) → total given < n + 65536

-- All turns of a reader: what was taken, and what the result says of it.
pub record ReadAll (turn : LeftTurn) (files : List LeftFile) (contents : Option Contents) (taken taken' : Option (List Take)) (entry' : Option OpenEntry) : Type 0 where
  pub given : List Take
  pub order : InOrder (names_of files) given
  pub following : After taken given contents taken' entry'
  pub few : open_bytes given ≤ 2 ^ 60
  pub says : Says turn files given
  pub over : turn ≡ Went → ⊥
  pub early : IfSome contents (λ told. IfSome taken (λ _. StopsEarly files told given))

-- what a result says of the counts of the inputs
abbrev pub TurnCause : LeftTurn → (InputName → ℕ) → (InputName → ℕ) → Type 0
TurnCause Went before now = (name : InputName) → now name ≡ before name
TurnCause (Ended lefts) before now = (name : InputName) → now name ≡ before name
TurnCause (Faulted fault) before now = (name : InputName) → now name ≡ before name
TurnCause (Failed name) before now = ((other : InputName) → before other ≤ now other) × Rose (before name) (now name)
TurnCause TooLong before now = (name : InputName) → now name ≡ before name
TurnCause NoMemory before now = (name : InputName) → now name ≡ before name
