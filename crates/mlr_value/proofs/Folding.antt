-- Texts compared byte by byte with the letters of ASCII in lower case.
use Rattle.std.proofs.Common.{◌≡◌, ℕ, ◌+◌, ◌-◌, ◌<◌, ◌≤◌, List, [], ◌∷◌, length, drop, get_or, map, ◌⊎◌, inl, inr, ⊎_elim, min, ◌∙◌, arith}
use Rattle.std.specs.Char.{to_ascii_lowercase}
use Rattle.std.specs.Cmp.Lexicographic.{slice_cmp}
use Rattle.std.specs.Ordering.{nat_cmp, ordering_then}
use Rattle.std.specs.declared.cmp.Ordering.{Ordering}
use Rattle.std.specs.declared.cmp.Ordering.TheVariants.{Less, Equal, Greater}
use Rattle.std.specs.Cmp.{nat_cmp_is}
use Rattle.std.proofs.lemmas.Bool.{cases_lt}
use Rattle.std.proofs.lemmas.List.{at_drop_more, length-drop}

abbrev pub folded_cmp : List ℕ → List ℕ → Ordering
folded_cmp x y = slice_cmp nat_cmp (map to_ascii_lowercase x) (map to_ascii_lowercase y)

-- the order of two texts goes by their bytes at a place, and then by the rest
pub folded_cmp-step : (x y : List ℕ) (i : ℕ) → i < length x → i < length y
    → folded_cmp (drop i x) (drop i y)
    ≡ ordering_then (nat_cmp (to_ascii_lowercase (get_or x i 0)) (to_ascii_lowercase (get_or y i 0)))
    (folded_cmp (drop (i + 1) x) (drop (i + 1) y))
folded_cmp-step x y i p q =
    at_drop_more (λ rest. folded_cmp rest (drop i y)) x i 0 p
    ∙ at_drop_more (λ rest. folded_cmp (get_or x i 0 ∷ drop (i + 1) x) rest) y i 0 q

-- the rests of two texts at the place where one of them ends
rests : (a b : List ℕ) (m n i : ℕ) → length a ≡ m - i → length b ≡ n - i → i ≤ m → i ≤ n → (m ≤ i) ⊎ (n ≤ i)
    → folded_cmp a b ≡ nat_cmp m n
rests [] [] m n i p q h k e = nat_cmp_is m n Equal (omega (arith, p, q))
rests [] (b ∷ y) m n i p q h k e = nat_cmp_is m n Less (omega (arith, p, q))
rests (a ∷ x) [] m n i p q h k e = nat_cmp_is m n Greater (omega (arith, p, q))
rests (a ∷ x) (b ∷ y) m n i p q h k (inl e) = absurd (omega (arith, p, q))
rests (a ∷ x) (b ∷ y) m n i p q h k (inr e) = absurd (omega (arith, p, q))

ends : (m n i : ℕ) → i ≡ min m n → (m ≤ i) ⊎ (n ≤ i)
ends m n i e = ⊎_elim (λ h. inl (omega (arith, e, h))) (λ h. inr (omega (arith, e, h))) (cases_lt m n)

-- where one text ends, the longer one is after it
pub folded_cmp-end : (x y : List ℕ) (i : ℕ) → i ≡ min (length x) (length y)
    → folded_cmp (drop i x) (drop i y) ≡ nat_cmp (length x) (length y)
folded_cmp-end x y i e =
    rests (drop i x) (drop i y) (length x) (length y) i (length-drop i x) (length-drop i y) (omega (arith, e))
    (omega (arith, e)) (ends (length x) (length y) i e)
