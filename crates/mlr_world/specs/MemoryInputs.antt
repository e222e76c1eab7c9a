-- The inputs in memory: the contents of each name, and the bytes taken.
use Rattle.std.specs.Prelude.{◌≡◌, ◌≤◌, ◌<◌, ◌+◌, ◌-◌, ◌++◌, ℕ, Bool, true, false, List, [], length, take, drop, map, min, Option, Some, None, slice_get, slice_index_or}
use Rattle.std.specs.Option.{option_map}
use Rattle.mlr_event.specs.declared.names.InputName.{InputName}
use Rattle.mlr_event.specs.declared.names.InputName.TheVariants as input
use Rattle.mlr_world.specs.declared.inputs.Got.{Got}
use Rattle.mlr_world.specs.declared.inputs.Got.TheVariants as got
use Rattle.mlr_world.specs.declared.memory_inputs.Reading.{Reading}
use Rattle.mlr_world.specs.Inputs.{Contents}
use Rattle.mlr_world.specs.MemorySource.{contents_at}
use Rattle.mlr_world.specs.Outputs.{or_empty}
use Rattle.mlr_world.specs.Taken.{Take, OpenEntry, entry_of}

-- the entry at a place
abbrev pub entry_at : List (InputName × List ℕ) → ℕ → InputName × List ℕ
entry_at contents place = slice_index_or contents place (input.Stdin, [])

abbrev pub name_at : List (InputName × List ℕ) → ℕ → InputName
name_at contents place = (entry_at contents place).0

abbrev pub text_at : List (InputName × List ℕ) → ℕ → List ℕ
text_at contents place = (entry_at contents place).1

-- the bytes taken by a reading: the first bytes of its entry
abbrev pub take_of : List (InputName × List ℕ) → Reading → Take
take_of contents reading =
    record {
      name = name_at contents reading.place;
      bytes = take reading.count (text_at contents reading.place);
      ended = reading.ended;
    }

abbrev pub takes_of : List (InputName × List ℕ) → List Reading → List Take
takes_of contents readings = map (take_of contents) readings

-- the input that was opened last
abbrev pub last_entry : List Take → Option OpenEntry
last_entry taken = option_map (λ take. entry_of take.name (length taken - 1)) (slice_get taken (length taken - 1))

-- the same, if it is still open
abbrev pub entry_if : Bool → List Take → Option OpenEntry
entry_if true taken = last_entry taken
entry_if false taken = None

-- a reading is of the first entry of its name, and has taken no more bytes than the entry has
pub record IsReading (contents : List (InputName × List ℕ)) (reading : Reading) : Type 0 where
  pub there : reading.place < length contents
  pub within : reading.count ≤ length (text_at contents reading.place)
  pub first : contents_at contents (name_at contents reading.place) ≡ Some (text_at contents reading.place)

-- a read of at most `max` bytes of a text, from a place on, appends the bytes there
abbrev pub TakesFrom : ℕ → List ℕ → ℕ → Got → List ℕ → List ℕ → Type 0
TakesFrom max text place (got.Some n) into into' =
    (0 < n) × (n ≤ max) × (place + n ≤ length text) × (into' ≡ into ++ take n (drop place text))
TakesFrom max text place got.End into into' = (length text ≤ place) × (into' ≡ into)
TakesFrom max text place got.Failed into into' = ⊥
TakesFrom max text place got.NoMemory into into' = into' ≡ into

-- the bytes that are left of an input, by its entry
abbrev pub left_of : Contents → Option Take → List ℕ
left_of contents None = []
left_of contents (Some take) = drop (length take.bytes) (or_empty (contents take.name))

-- A read that takes bytes takes all that are left, but at most `limit`. It meets the end exactly where none are
-- left.
abbrev pub TakesUpTo : ℕ → Got → List ℕ → Type 0
TakesUpTo limit (got.Some n) left = n ≡ min limit (length left)
TakesUpTo limit got.End left = left ≡ []
TakesUpTo limit got.Failed left = Unit {0}
TakesUpTo limit got.NoMemory left = 0 < length left
