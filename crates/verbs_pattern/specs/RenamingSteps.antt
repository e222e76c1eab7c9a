-- Renaming one field after another. No public clause cites this module.
use Rattle.std.specs.Prelude.{◌≡◌, ℕ, ◌+◌, ◌-◌, ◌<◌, List, [], ◌∷◌, ◌++◌, length, take, drop, slice_index_or}
use Rattle.regex.specs.Patterns.{Re}
use Rattle.mlr_spec.specs.Pairs.{remove_at}
use Rattle.mlr_spec.specs.Tree.{Tree}
use Rattle.mlr_pattern.specs.declared.which.Which.{Which}
use Rattle.mlr_pattern.specs.Replacing.{matches_of, replaced}
use Rattle.verbs_pattern.specs.Renaming.{renamed_from}

-- the name that a pattern gives
abbrev pub new_name : Which → Re → List ℕ → List ℕ → List ℕ
new_name which re by name = replaced name by (matches_of which re name)

-- A step of renaming: renaming the remaining fields after it gives the same record as before it, and fewer
-- fields remain.
abbrev pub GoesOn : (List ℕ → List ℕ) → ℕ → List (List ℕ × Tree) → ℕ → List (List ℕ × Tree) → Type 0
GoesOn rename place before next after =
    (renamed_from rename (take next after) [] (drop next after) ≡ renamed_from rename (take place before) [] (drop place before))
    × (length after - next < length before - place)

-- the field at this place has the new name, and another field with that name is removed
abbrev pub IsRenamedAt : ℕ → List ℕ → List (List ℕ × Tree) → ℕ → List (List ℕ × Tree) → Type 0
IsRenamedAt place new before next after =
    (pair : List ℕ × Tree) →
    (take next after ≡ remove_at new (take place before) ++ (new, (slice_index_or before place pair).1) ∷ [])
    × (drop next after ≡ remove_at new (drop (place + 1) before))
