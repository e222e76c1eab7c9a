-- What was taken of inputs, one after another.
use Rattle.std.specs.Prelude.{◌≡◌, ℕ, ◌+◌, ◌-◌, nat_le, true, false, if◌then◌else◌, List, [], ◌∷◌, ◌++◌, length, take, Option, Some, None, IfSome}
use Rattle.std.specs.Option.{option_map}
use Rattle.mlr_event.specs.declared.names.InputName.{InputName}
use Rattle.mlr_world.specs.Inputs.{Contents}
use Rattle.mlr_world.specs.Taken.{Take, OpenEntry, entry_of}

-- the last entry
abbrev pub last_take : List Take → Option Take
last_take [] = None
last_take (take ∷ []) = Some take
last_take (take ∷ next ∷ more) = last_take (next ∷ more)

-- a list with its last entry changed
abbrev pub with_last : (Take → Take) → List Take → List Take
with_last change [] = []
with_last change (take ∷ []) = change take ∷ []
with_last change (take ∷ next ∷ more) = take ∷ with_last change (next ∷ more)

-- the place of the last entry; 0 where what was taken isn't known
abbrev pub last_place : Option (List Take) → ℕ
last_place None = 0
last_place (Some takes) = length takes - 1

-- how many bytes were taken
abbrev pub total : List Take → ℕ
total [] = 0
total (take ∷ takes) = length take.bytes + total takes

-- how many ends were met
abbrev pub ends : List Take → ℕ
ends [] = 0
ends (take ∷ takes) = (if take.ended then 1 else 0) + ends takes

-- the input at which what was taken stops: the last one, if its end wasn't met, else the next; none after the
-- last
abbrev pub stops_at : List InputName → List Take → Option InputName
stops_at [] takes = None
stops_at (name ∷ names) [] = Some name
stops_at (name ∷ names) (take ∷ takes) = if take.ended then stops_at names takes else Some name

-- the inputs that were opened are the first of these in order, each but the last read to its end
abbrev pub InOrder : List InputName → List Take → Type 0
InOrder names [] = Unit {0}
InOrder [] (take ∷ takes) = ⊥
InOrder (name ∷ names) (take ∷ []) = take.name ≡ name
InOrder (name ∷ names) (take ∷ next ∷ takes) = (take.name ≡ name) × (take.ended ≡ true) × InOrder names (next ∷ takes)

-- of an input more was taken: nothing after its end
abbrev pub TakeGoesOn : Take → Take → Type 0
TakeGoesOn take next = (next.name ≡ take.name) × ((more : List ℕ) × (next.bytes ≡ take.bytes ++ more) × (take.ended ≡ true → (more ≡ []) × (next.ended ≡ true)))

-- more was taken
abbrev pub GoesOn : List Take → List Take → Type 0
GoesOn [] longer = Unit {0}
GoesOn (take ∷ takes) [] = ⊥
GoesOn (take ∷ takes) (next ∷ longer) = TakeGoesOn take next × GoesOn takes longer

-- what was taken of an input is a prefix of what it holds, and all of it where the end was met
abbrev pub IsPrefixTaken : Contents → Take → Type 0
IsPrefixTaken contents take =
    (rest : List ℕ) × (contents take.name ≡ Some (take.bytes ++ rest)) × (take.ended ≡ true → rest ≡ [])

abbrev pub ArePrefixesTaken : Contents → List Take → Type 0
ArePrefixesTaken contents [] = Unit {0}
ArePrefixesTaken contents (take ∷ takes) = IsPrefixTaken contents take × ArePrefixesTaken contents takes

-- each input whole
abbrev pub AreWhole : Contents → List InputName → List Take → Type 0
AreWhole told [] [] = Unit {0}
AreWhole told [] (take ∷ takes) = ⊥
AreWhole told (name ∷ names) [] = ⊥
AreWhole told (name ∷ names) (take ∷ takes) = (take.name ≡ name) × (take.ended ≡ true) × (told name ≡ Some take.bytes) × AreWhole told names takes

-- what is taken by so many bytes of the inputs, with the end of each input that ends within them
abbrev pub taken_by : Contents → List InputName → ℕ → List Take
taken_by told [] n = []
taken_by told (name ∷ names) n = elim (told name) [
  | None ↦ []
  | Some bytes ↦
      if nat_le (length bytes) n then record { name = name; bytes = bytes; ended = true } ∷ taken_by told names (n - length bytes)
      else record { name = name; bytes = take n bytes; ended = false } ∷ []
]

-- Inputs of which this was taken after what was taken before: the last one is open, if its end wasn't met, and
-- its entry is the last of all. Where the inputs' bytes are known, these are prefixes of what the inputs hold.
pub record After (before : Option (List Take)) (given : List Take) (contents : Option Contents) (taken : Option (List Take)) (entry : Option OpenEntry) : Type 0 where
  pub entries : taken ≡ option_map (λ takes. takes ++ given) before
  pub prefixes : IfSome contents (λ told. IfSome taken (λ _. ArePrefixesTaken told given))
  pub open_is : IfSome (last_take given) (λ last. last.ended ≡ false → entry ≡ Some (entry_of last.name (last_place taken)))
