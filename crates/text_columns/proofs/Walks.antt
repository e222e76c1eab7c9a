-- Lists walked from place to place.
use Rattle.std.proofs.Common.{◌≡◌, ℕ, ◌≤◌, zero, suc, List, [], ◌∷◌, length, drop, refl, arith}

-- nothing is left after the end
pub drop-end : {A : Type 0} (xs : List A) (n : ℕ) → length xs ≤ n → drop n xs ≡ []
drop-end [] zero all = refl
drop-end [] (suc n) all = refl
drop-end (x ∷ xs) zero all = absurd (omega (arith, all))
drop-end (x ∷ xs) (suc n) all = drop-end xs n (omega (arith, all))
