-- The bytes that were taken from the inputs.
use Rattle.std.specs.Prelude.{ℕ, zero, suc, Bool, true, false, List, [], ◌∷◌, ◌++◌, Option, Some, None, slice_get}
use Rattle.mlr_event.specs.declared.names.InputName.{InputName}

-- an input that was opened: its name, the bytes taken from it, and whether its end was met
pub record Take : Type 0 where
  pub name : InputName
  pub bytes : List ℕ
  pub ended : Bool

-- an input that was just opened
abbrev pub begun : InputName → Take
begun name = record { name = name; bytes = []; ended = false }

-- an input with more bytes taken, and one whose end was met
abbrev pub grown : List ℕ → Take → Take
grown piece take = record { name = take.name; bytes = take.bytes ++ piece; ended = take.ended }

abbrev pub ended : Take → Take
ended take = record { name = take.name; bytes = take.bytes; ended = true }

-- The open input: its name, and the place of its entry in what was taken. The place is 0 where that isn't known.
pub record OpenEntry : Type 0 where
  pub name : InputName
  pub place : ℕ

abbrev pub entry_of : InputName → ℕ → OpenEntry
entry_of name place = record { name = name; place = place }

-- a list with the entry at this place changed
abbrev pub with_entry : ℕ → (Take → Take) → List Take → List Take
with_entry place change [] = []
with_entry zero change (take ∷ takes) = change take ∷ takes
with_entry (suc place) change (take ∷ takes) = take ∷ with_entry place change takes

-- what was taken, with the entry of the open input changed
abbrev pub with_open : Option OpenEntry → (Take → Take) → List Take → List Take
with_open None change takes = takes
with_open (Some entry) change takes = with_entry entry.place change takes

-- the entry of the open input
abbrev pub open_take : Option OpenEntry → List Take → Option Take
open_take None takes = None
open_take (Some entry) takes = slice_get takes entry.place
