-- Texts, and the first of a list that passes a test.
use Rattle.std.specs.Prelude.{◌≡◌, ℕ, zero, suc, Bool, true, false, List, [], ◌∷◌, map, Vec, Option, MatchOption}
use Rattle.std.specs.List.{list_any}
use Rattle.std.specs.Str.{bytes_eq}

abbrev pub texts_in : {A : Type 0} → List (Vec ℕ A) → List (List ℕ)
texts_in keys = map (λ key. key.items) keys

-- the element at this place passes, and none before it does
abbrev pub IsFirst : {A : Type 0} → (A → Bool) → List A → ℕ → Type 0
IsFirst test [] i = ⊥
IsFirst test (x ∷ xs) zero = test x ≡ true
IsFirst test (x ∷ xs) (suc i) = (test x ≡ false) × IsFirst test xs i

-- the place of the key among these texts, or none where it isn't there
abbrev pub IsPlaceAmong : List ℕ → List (List ℕ) → Option ℕ → Type 0
IsPlaceAmong key texts place = MatchOption place (list_any (bytes_eq key) texts ≡ false) (IsFirst (λ text. bytes_eq text key) texts)

-- an index, where there is one, has these keys
abbrev pub Knows : Option (List (List ℕ)) → List (List ℕ) → Type 0
Knows index keys = MatchOption index (Unit {0}) (λ known. known ≡ keys)
