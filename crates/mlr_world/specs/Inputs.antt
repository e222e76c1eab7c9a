-- What the calls on inputs do.
use Rattle.std.specs.Prelude.{◌≡◌, ℕ, ◌≤◌, Bool, true, false, List, [], ◌∷◌, ◌++◌, length, Option, Some, None, IsSome, IfSome}
use Rattle.std.specs.Option.{option_map}
use Rattle.mlr_event.specs.declared.names.InputName.{InputName}
use Rattle.mlr_world.specs.declared.inputs.Opened.{Opened}
use Rattle.mlr_world.specs.declared.inputs.Opened.TheVariants as opened
use Rattle.mlr_world.specs.declared.inputs.Got.{Got}
use Rattle.mlr_world.specs.declared.inputs.Got.TheVariants as got
use Rattle.mlr_world.specs.Taken.{Take, OpenEntry, entry_of, begun, grown, ended, with_open, open_take}

abbrev pub Contents : Type 0
Contents = InputName → Option (List ℕ)

abbrev pub open_failed : Opened → Bool
open_failed opened.Ok = false
open_failed opened.Failed = true
open_failed opened.NoMemory = false

abbrev pub read_failed : Got → Bool
read_failed (got.Some n) = false
read_failed got.End = false
read_failed got.Failed = true
read_failed got.NoMemory = false

-- the place of the next entry; 0 where what was taken isn't known
abbrev pub next_place : Option (List Take) → ℕ
next_place None = 0
next_place (Some takes) = length takes

-- the input that is open after an open, by what was taken before
abbrev pub opens : InputName → Opened → Option (List Take) → Option OpenEntry
opens name opened.Ok taken = Some (entry_of name (next_place taken))
opens name opened.Failed taken = None
opens name opened.NoMemory taken = None

-- the open input of an object that doesn't tell what was taken
abbrev pub untold_entry : Option InputName → Option OpenEntry
untold_entry None = None
untold_entry (Some name) = Some (entry_of name 0)

-- a successful open adds an entry for its input to what was taken; one that fails changes nothing
abbrev pub OpenTakes : InputName → Opened → Option (List Take) → Option (List Take) → Type 0
OpenTakes name opened.Ok before now = now ≡ option_map (λ takes. takes ++ begun name ∷ []) before
OpenTakes name opened.Failed before now = now ≡ before
OpenTakes name opened.NoMemory before now = now ≡ before

-- where the contents are known, only a name that has contents can be opened
abbrev pub OpenFinds : InputName → Opened → Option Contents → Type 0
OpenFinds name opened.Ok contents = IfSome contents (λ told. IsSome (told name))
OpenFinds name opened.Failed contents = Unit {0}
OpenFinds name opened.NoMemory contents = Unit {0}

-- where the contents and the bytes taken are known: the contents of the open input begin with the bytes taken
-- from it, followed by this piece
abbrev pub Continues : Option Contents → Option (List Take) → Option OpenEntry → List ℕ → Type 0
Continues contents taken entry piece =
    IfSome contents (λ told. IfSome taken (λ takes. IfSome (open_take entry takes) (λ take.
    (rest : List ℕ) × (told take.name ≡ Some (take.bytes ++ piece ++ rest)))))

-- where they are known: the bytes taken from the open input are all of its contents
abbrev pub IsAllTaken : Option Contents → Option (List Take) → Option OpenEntry → Type 0
IsAllTaken contents taken entry =
    IfSome contents (λ told. IfSome taken (λ takes. IfSome (open_take entry takes) (λ take. told take.name ≡ Some take.bytes)))

-- A read appends n bytes, at least one, which continue the open input, and adds them to its entry alone.
pub record TakesPiece (max n : ℕ) (open_entry : Option OpenEntry) (contents : Option Contents) (before now : Option (List Take)) (into into' : List ℕ) : Type 0 where
  pub piece : List ℕ
  pub count : length piece ≡ n
  pub some : 1 ≤ n
  pub no_more : n ≤ max
  pub appended : into' ≡ into ++ piece
  pub entry : now ≡ option_map (with_open open_entry (grown piece)) before
  pub prefix : Continues contents before open_entry piece

-- A read meets the end of the open input, which happens only when all of its contents were taken.
pub record MeetsEnd (open_entry : Option OpenEntry) (contents : Option Contents) (before now : Option (List Take)) (into into' : List ℕ) : Type 0 where
  pub unchanged : into' ≡ into
  pub entry : now ≡ option_map (with_open open_entry ended) before
  pub all : IsAllTaken contents before open_entry

-- A read takes nothing.
pub record TakesNothing (before now : Option (List Take)) (into into' : List ℕ) : Type 0 where
  pub unchanged : into' ≡ into
  pub entry : now ≡ before

abbrev pub ReadTakes : ℕ → Got → Option OpenEntry → Option Contents → Option (List Take) → Option (List Take) → List ℕ → List ℕ → Type 0
ReadTakes max (got.Some n) entry contents before now into into' = TakesPiece max n entry contents before now into into'
ReadTakes max got.End entry contents before now into into' = MeetsEnd entry contents before now into into'
ReadTakes max got.Failed entry contents before now into into' = TakesNothing before now into into'
ReadTakes max got.NoMemory entry contents before now into into' = TakesNothing before now into into'
