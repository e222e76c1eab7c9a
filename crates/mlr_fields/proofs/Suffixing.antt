-- Which suffixes of names are taken, as more names are added.
use Rattle.std.proofs.Common.{◌≡◌, ℕ, zero, suc, ◌+◌, ◌^◌, ◌≤◌, ◌<◌, true, false, ◌||◌, List, [], ◌∷◌, ◌++◌, length, get_or, set, Some, None, slice_get, refl, ap, sym, ◌∙◌, subst, arith, inl, inr}
use Rattle.std.specs.Str.{bytes_eq}
use Rattle.std.proofs.lemmas.Bool.{cases_lt, true≢false}
use Rattle.std.proofs.lemmas.List.Folds.{list_any-append}
use Rattle.mlr_event.specs.Reading.{free_name, is_among, suffixed}
use Rattle.mlr_event.proofs.Distinct.{free_name-found, free_name-free, free_name-nowhere}
use Rattle.mlr_fields.specs.Suffixes.{AreKnown, AreTaken}

-- there are as many numbers as names
pub known-length : (all names : List (List ℕ)) (numbers : List ℕ) → AreKnown all names numbers → length names ≡ length numbers
known-length all [] [] known = refl
known-length all [] (number ∷ numbers) known = absurd known
known-length all (name ∷ names) [] known = absurd known
known-length all (name ∷ names) (number ∷ numbers) known = ap suc (known-length all names numbers known.1)

-- a name that is there is there among more names
among-more : (all : List (List ℕ)) (new name : List ℕ) → is_among all name ≡ true → is_among (all ++ new ∷ []) name ≡ true
among-more all new name there = list_any-append (bytes_eq name) all (new ∷ []) ∙ ap (λ t. t || is_among (new ∷ []) name) there

taken-more : (all : List (List ℕ)) (new name : List ℕ) (end : ℕ) → AreTaken all name end → AreTaken (all ++ new ∷ []) name end
taken-more all new name end taken = (taken.0, λ k low high. among-more all new (suffixed name k) (taken.1 k low high))

known-more : (all : List (List ℕ)) (new : List ℕ) (names : List (List ℕ)) (numbers : List ℕ) → AreKnown all names numbers → AreKnown (all ++ new ∷ []) names numbers
known-more all new [] [] known = known
known-more all new [] (number ∷ numbers) known = known
known-more all new (name ∷ names) [] known = known
known-more all new (name ∷ names) (number ∷ numbers) known = (taken-more all new name number known.0, known-more all new names numbers known.1)

known-last : (all : List (List ℕ)) (new : List ℕ) (names : List (List ℕ)) (numbers : List ℕ) → AreKnown all names numbers → AreKnown all (names ++ new ∷ []) (numbers ++ 2 ∷ [])
known-last all new [] [] known = ((omega arith, λ k low high. absurd (omega arith)), known)
known-last all new [] (number ∷ numbers) known = absurd known
known-last all new (name ∷ names) [] known = absurd known
known-last all new (name ∷ names) (number ∷ numbers) known = (known.0, known-last all new names numbers known.1)

-- a name is added, of which no suffix is known
pub known-pushed : (names : List (List ℕ)) (numbers : List ℕ) (new : List ℕ) → AreKnown names names numbers → AreKnown (names ++ new ∷ []) (names ++ new ∷ []) (numbers ++ 2 ∷ [])
known-pushed names numbers new known = known-last (names ++ new ∷ []) new names numbers (known-more names new names numbers known)

-- more suffixes of the name at a place are known
pub known-set : (all names : List (List ℕ)) (numbers : List ℕ) (place : ℕ) (name : List ℕ) (number : ℕ) → AreKnown all names numbers → slice_get names place ≡ Some name → AreTaken all name number
    → AreKnown all names (set numbers place number)
known-set all [] numbers place name number known at taken = absurd (let e : None ≡ Some name = at in cc)
known-set all (n ∷ names) [] place name number known at taken = absurd known
known-set all (n ∷ names) (m ∷ numbers) zero name number known at taken =
    let same : n ≡ name = let e : Some n ≡ Some name = at in cc in
    (subst (λ t. AreTaken all t number) (sym same) taken, known.1)
known-set all (n ∷ names) (m ∷ numbers) (suc place) name number known at taken = (known.0, known-set all names numbers place name number known.1 at taken)

pub known-at : (all names : List (List ℕ)) (numbers : List ℕ) (place : ℕ) (name : List ℕ) (number : ℕ) → AreKnown all names numbers → slice_get names place ≡ Some name → number ≡ get_or numbers place number
    → AreTaken all name number
known-at all [] numbers place name number known at is = absurd (let e : None ≡ Some name = at in cc)
known-at all (n ∷ names) [] place name number known at is = absurd known
known-at all (n ∷ names) (m ∷ numbers) zero name number known at is =
    let same : n ≡ name = let e : Some n ≡ Some name = at in cc in
    subst (λ t. AreTaken all t number) same (subst (λ m. AreTaken all n m) (sym is) known.0)
known-at all (n ∷ names) (m ∷ numbers) (suc place) name number known at is = known-at all names numbers place name number known.1 at is

module _ (names : List (List ℕ)) (name : List ℕ) (few : length names < 2 ^ 63) (there : is_among names name ≡ true) where
  -- not all of the first suffixes are taken
  pub not-all-taken : ((k : ℕ) → 2 ≤ k → k < length names + 3 → is_among names (suffixed name k) ≡ true) → ⊥
  not-all-taken all = true≢false (sym there ∙ ap (is_among names) (sym (free_name-nowhere names name there all)) ∙ free_name-free names name few)

  -- the least free suffix
  pub free_name-least : (k : ℕ) → AreTaken names name k → is_among names (suffixed name k) ≡ false → free_name names name ≡ suffixed name k
  free_name-least k taken free = elim (cases_lt k (length names + 3)) as (λ _. free_name names name ≡ suffixed name k) [
    | inl low ↦ free_name-found names name k there taken.0 low taken.1 free
    | inr high ↦ absurd (not-all-taken (λ j above below. taken.1 j above (omega arith)))
  ]

  pub free_name-chosen : (k : ℕ) (text : List ℕ) → text ≡ suffixed name k → AreTaken names name k → is_among names text ≡ false → text ≡ free_name names name
  free_name-chosen k text is taken free = is ∙ sym (free_name-least k taken (ap (is_among names) (sym is) ∙ free))
