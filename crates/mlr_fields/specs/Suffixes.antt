-- Names with suffixes that are taken.
use Rattle.std.specs.Prelude.{◌≡◌, ℕ, ◌≤◌, ◌<◌, true, List, [], ◌∷◌}
use Rattle.mlr_event.specs.Reading.{is_among, suffixed}

-- each suffix from 2 up to this number makes a name that is there
abbrev pub AreTaken : List (List ℕ) → List ℕ → ℕ → Type 0
AreTaken names name end = (2 ≤ end) × ((k : ℕ) → 2 ≤ k → k < end → is_among names (suffixed name k) ≡ true)

-- the same for each of some names, with a number for each of them
abbrev pub AreKnown : List (List ℕ) → List (List ℕ) → List ℕ → Type 0
AreKnown all [] [] = Unit {0}
AreKnown all [] (number ∷ numbers) = ⊥
AreKnown all (name ∷ names) [] = ⊥
AreKnown all (name ∷ names) (number ∷ numbers) = AreTaken all name number × AreKnown all names numbers
