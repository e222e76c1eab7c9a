-- Records with a count.
use Rattle.std.specs.Prelude.{◌≡◌, ℕ, List, [], ◌∷◌}
use Rattle.verbs_base.specs.Records.{Row}
use Rattle.verbs_hold.specs.CountSimilar.{with_count}

-- the same records one by one, each with some count
abbrev pub AreCounted : List ℕ → List Row → List Row → Type 0
AreCounted name [] [] = Unit {0}
AreCounted name [] (counted ∷ more) = ⊥
AreCounted name (row ∷ rows) [] = ⊥
AreCounted name (row ∷ rows) (counted ∷ more) = ((n : ℕ) × (counted ≡ (with_count name n row.0, row.1))) × AreCounted name rows more
