-- What the calls on outputs change.
use Rattle.std.specs.Prelude.{◌≡◌, ◌⊎◌, ℕ, Bool, true, false, List, [], ◌++◌, Option, Some, None, IsSome}
use Rattle.std.specs.Option.{option_map}
use Rattle.mlr_event.specs.declared.names.Target.{Target}
use Rattle.mlr_event.specs.declared.names.Mode.{Mode}
use Rattle.mlr_event.specs.declared.names.Mode.TheVariants.{Fresh, Append}
use Rattle.mlr_world.specs.declared.outputs.Done.{Done}
use Rattle.mlr_world.specs.declared.outputs.Done.TheVariants as done

abbrev pub Held : Type 0
Held = Target → Option (List ℕ)

abbrev pub call_failed : Done → Bool
call_failed done.Ok = false
call_failed done.Failed = true
call_failed done.NoMemory = false

abbrev pub lacked_memory : Done → Bool
lacked_memory done.Ok = false
lacked_memory done.Failed = false
lacked_memory done.NoMemory = true

-- only this target changed, as `step` says
pub record ChangesOnly (target : Target) (step : Option (List ℕ) → Option (List ℕ) → Type 0) (before now : Held) : Type 0 where
  pub here : step (before target) (now target)
  pub elsewhere : (other : Target) → (other ≡ target → ⊥) → now other ≡ before other

-- the same where the bytes are known; an object whose bytes are known stays so
abbrev pub ChangesAt : Target → (Option (List ℕ) → Option (List ℕ) → Type 0) → Option Held → Option Held → Type 0
ChangesAt target step None None = Unit {0}
ChangesAt target step None (Some now) = ⊥
ChangesAt target step (Some before) None = ⊥
ChangesAt target step (Some before) (Some now) = ChangesOnly target step before now

-- the bytes of a target, none if it isn't there
abbrev pub or_empty : Option (List ℕ) → List ℕ
or_empty None = []
or_empty (Some bytes) = bytes

-- A target before and after an open. Fresh empties it and Append keeps its bytes. An open that failed left it
-- as it was, or, with Fresh, perhaps empty.
abbrev pub OpenLeaves : Mode → Done → Option (List ℕ) → Option (List ℕ) → Type 0
OpenLeaves Fresh done.Ok before now = now ≡ Some []
OpenLeaves Append done.Ok before now = now ≡ Some (or_empty before)
OpenLeaves Fresh done.Failed before now = (now ≡ before) ⊎ (now ≡ Some [])
OpenLeaves Append done.Failed before now = now ≡ before
OpenLeaves mode done.NoMemory before now = now ≡ before

-- a target with these bytes appended
abbrev pub with_bytes : List ℕ → Option (List ℕ) → Option (List ℕ)
with_bytes bytes before = option_map (λ held. held ++ bytes) before

-- a text begins with this prefix
abbrev pub IsPrefixOf : List ℕ → List ℕ → Type 0
IsPrefixOf bytes prefix = (rest : List ℕ) × (bytes ≡ prefix ++ rest)

-- A target before and after a write. A write that failed appended a prefix of the bytes.
abbrev pub WriteLeaves : List ℕ → Done → Option (List ℕ) → Option (List ℕ) → Type 0
WriteLeaves bytes done.Ok before now = (now ≡ with_bytes bytes before) × IsSome before
WriteLeaves bytes done.Failed before now = (prefix : List ℕ) × IsPrefixOf bytes prefix × (now ≡ with_bytes prefix before)
WriteLeaves bytes done.NoMemory before now = now ≡ before

-- a target before and after a close
abbrev pub CloseLeaves : Option (List ℕ) → Option (List ℕ) → Type 0
CloseLeaves before now = now ≡ before
