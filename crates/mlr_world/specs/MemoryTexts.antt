-- The first entry of a list that passes a test, and when two names or targets are the same.
use Rattle.std.specs.Prelude.{◌≡◌, ◌<◌, ℕ, Bool, true, false, List, [], ◌∷◌, length, take, Option, Some, None, MatchOption, slice_index_or, if◌then◌else◌}
use Rattle.std.specs.List.{list_any}
use Rattle.std.specs.Str.{bytes_eq}
use Rattle.mlr_event.specs.declared.names.InputName.{InputName}
use Rattle.mlr_event.specs.declared.names.InputName.TheVariants as input
use Rattle.mlr_event.specs.declared.names.Target.{Target}
use Rattle.mlr_event.specs.declared.names.Target.TheVariants as target

-- whether two names are the same
abbrev pub same_input : InputName → InputName → Bool
same_input input.Stdin input.Stdin = true
same_input input.Stdin (input.File other) = false
same_input (input.File name) input.Stdin = false
same_input (input.File name) (input.File other) = bytes_eq name other

abbrev pub same_target : Target → Target → Bool
same_target target.Stdout target.Stdout = true
same_target target.Stdout target.Stderr = false
same_target target.Stdout (target.File other) = false
same_target target.Stderr target.Stdout = false
same_target target.Stderr target.Stderr = true
same_target target.Stderr (target.File other) = false
same_target (target.File name) target.Stdout = false
same_target (target.File name) target.Stderr = false
same_target (target.File name) (target.File other) = bytes_eq name other

-- the value of the first entry that passes
abbrev pub first_at : {E V : Type 0} → (E → Bool) → (E → V) → List E → Option V
first_at test value [] = None
first_at test value (entry ∷ entries) = if test entry then Some (value entry) else first_at test value entries

-- the place of the first entry that passes, or None if no entry passes
abbrev pub IsFirstPlace : {E : Type 0} → (E → Bool) → List E → Option ℕ → Type 0
IsFirstPlace {E} test entries place =
    MatchOption place (list_any test entries ≡ false)
    (λ i. (i < length entries) × (list_any test (take i entries) ≡ false) × ((d : E) → test (slice_index_or entries i d) ≡ true))
