-- All that the inputs hold, and what a run leaves by it.
use Rattle.std.specs.Prelude.{◌≡◌, ℕ, true, List, [], ◌∷◌, Option, Some, None}
use Rattle.std.specs.List.{list_any}
use Rattle.mlr_event.specs.declared.names.InputName.{InputName}
use Rattle.mlr_event.specs.declared.names.Target.TheVariants.{Stdout}
use Rattle.mlr_event.specs.Verb.{is_end}
use Rattle.mlr_world.specs.Inputs.{Contents}
use Rattle.mlr_world.specs.Outputs.{Held, ChangesAt, with_bytes}
use Rattle.mlr_world.specs.Taken.{Take}
use Rattle.outlet.specs.Out.{fault_in}
use Rattle.outlet.specs.Represents.{AppendsPrefix}
use Rattle.serial_core.specs.declared.answer.Ended.{Ended}
use Rattle.serial_core.specs.declared.answer.Ended.TheVariants as answer
use Rattle.serial_core.specs.Meaning.{Meaning, text}

-- each input in order, whole, up to the first that has no contents
abbrev pub whole_of : Contents → List InputName → List Take
whole_of told [] = []
whole_of told (name ∷ names) = elim (told name) [
  | None ↦ []
  | Some bytes ↦ record { name = name; bytes = bytes; ended = true } ∷ whole_of told names
]

-- Done and Data are the verdict on all of it
abbrev pub IsVerdict : Ended → Meaning → List Take → Type 0
IsVerdict answer.Done meaning whole = list_any is_end (meaning.result whole) ≡ true
IsVerdict (answer.Refused refusal) meaning whole = ⊥
IsVerdict (answer.Data fault) meaning whole = fault_in (meaning.result whole) ≡ Some fault
IsVerdict (answer.Read name) meaning whole = Unit {0}
IsVerdict (answer.Written target) meaning whole = Unit {0}
IsVerdict answer.TooLong meaning whole = Unit {0}
IsVerdict answer.NoMemory meaning whole = Unit {0}

-- after Done and Data a target got the text, and else a prefix of it
abbrev pub Gets : Ended → List ℕ → Option (List ℕ) → Option (List ℕ) → Type 0
Gets answer.Done text before now = now ≡ with_bytes text before
Gets (answer.Refused refusal) text before now = now ≡ before
Gets (answer.Data fault) text before now = now ≡ with_bytes text before
Gets (answer.Read name) text before now = AppendsPrefix text before now
Gets (answer.Written target) text before now = AppendsPrefix text before now
Gets answer.TooLong text before now = AppendsPrefix text before now
Gets answer.NoMemory text before now = AppendsPrefix text before now

-- The outcome and standard output by all that the inputs hold.
pub record OfWhole (ended : Ended) (meaning : Meaning) (told : Contents) (held held' : Option Held) : Type 0 where
  pub verdict : IsVerdict ended meaning (whole_of told meaning.names)
  pub gets : ChangesAt Stdout (Gets ended (text meaning (whole_of told meaning.names))) held held'
