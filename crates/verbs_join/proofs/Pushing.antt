-- The records at places, one after another.
use Rattle.std.proofs.Common.{◌≡◌, ℕ, zero, suc, ◌+◌, ◌<◌, ◌≤◌, List, [], ◌∷◌, map, drop, length, Some, slice_get, get_or, refl, ap, sym, ◌∙◌, add-one, arith}
use Rattle.std.proofs.lemmas.List.{drop_all, length-map}
use Rattle.verbs_base.specs.Records.{Fields}
use Rattle.verbs_join.specs.Places.{at_places}

-- the record at the next place
pub found-at : (lefts : List Fields) (places : List ℕ) (found : List Fields) (i any : ℕ) → at_places lefts places ≡ map Some found → i < length places
    → (left : Fields) × (slice_get lefts (get_or places i any) ≡ Some left) × (drop i found ≡ left ∷ drop (i + 1) found)
found-at lefts [] found i any are below = absurd (omega arith)
found-at lefts (place ∷ places) [] i any are below = absurd (let e : slice_get lefts place ∷ at_places lefts places ≡ [] = are in cc)
found-at lefts (place ∷ places) (left ∷ found) zero any are below =
    let e : slice_get lefts place ∷ at_places lefts places ≡ Some left ∷ map Some found = are in
    (left, (let h : slice_get lefts place ≡ Some left = cc in h), refl)
found-at lefts (place ∷ places) (left ∷ found) (suc i) any are below =
    let e : slice_get lefts place ∷ at_places lefts places ≡ Some left ∷ map Some found = are in
    let rest : at_places lefts places ≡ map Some found = cc in
    let next = found-at lefts places found i any rest (omega arith) in
    (next.0, next.1, next.2 ∙ ap (λ n. next.0 ∷ drop n found) (add-one i) ∙ sym (ap (λ n. next.0 ∷ drop n (left ∷ found)) (add-one (suc i))))

-- as many records as places
pub found-all : (lefts : List Fields) (places : List ℕ) (found : List Fields) (i : ℕ) → at_places lefts places ≡ map Some found → length places ≤ i → drop i found ≡ []
found-all lefts places found i are following =
    drop_all i found (omega (arith, following, sym (length-map places (slice_get lefts)) ∙ ap length are ∙ length-map found Some))
