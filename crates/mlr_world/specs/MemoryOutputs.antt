-- The outputs in memory: the bytes of each target, and the room that is left for all.
use Rattle.std.specs.Prelude.{◌≡◌, ◌≤◌, ◌+◌, ◌/◌, ◌||◌, ℕ, Bool, List, map, take, length, min, Option, is_none, nat_lt, if◌then◌else◌, vec_capacity, vec_len}
use Rattle.mlr_event.specs.declared.names.Target.{Target}
use Rattle.mlr_world.specs.declared.memory_outputs.HeldText.{HeldText}
use Rattle.mlr_world.specs.declared.outputs.Done.{Done}
use Rattle.mlr_world.specs.MemoryTexts.{same_target}
use Rattle.mlr_world.specs.Outputs.{call_failed, or_empty, with_bytes}

abbrev pub pair_of : HeldText → Target × List ℕ
pair_of entry = (entry.target, entry.text.items)

abbrev pub pairs_of : List HeldText → List (Target × List ℕ)
pairs_of entries = map pair_of entries

-- whether an entry is the one of a target
abbrev pub is_of : Target → HeldText → Bool
is_of target entry = same_target entry.target target

-- a text may grow by so many bytes without more memory
abbrev pub HasRoom : ℕ → HeldText → Type 0
HasRoom room entry = vec_len entry.text + room ≤ vec_capacity entry.text

-- the bytes that a write appends: as many as there is room for, and at most half of them in a call that is to fail
abbrev pub appended : Bool → ℕ → List ℕ → List ℕ
appended fails room bytes = take (min room (if fails then length bytes / 2 else length bytes)) bytes

-- A target and the room before and after a write. It fails if it is to fail, if the target isn't there, or if
-- there is too little room. What it appends, to any target, is taken from the room.
pub record Writes (fails : Bool) (room room' : ℕ) (bytes : List ℕ) (done : Done) (before now : Option (List ℕ)) : Type 0 where
  pub failed : call_failed done ≡ (fails || is_none before || nat_lt room (length bytes))
  pub text : now ≡ with_bytes (appended fails room bytes) before
  pub spent : room' + length (or_empty now) ≡ room + length (or_empty before)
