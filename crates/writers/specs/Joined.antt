-- Texts in a row.
use Rattle.std.specs.Prelude.{ℕ, Bool, true, false, if◌then◌else◌, List, [], ◌∷◌}

abbrev pub are_any : {A : Type 0} → List A → Bool
are_any [] = false
are_any (x ∷ xs) = true

-- the separator of two texts, if there is one before
abbrev pub separated : List ℕ → Bool → List ℕ
separated separator any = if any then separator else []
