-- Tests of one element after another of a list.
use Rattle.std.proofs.Common.{◌≡◌, ℕ, zero, suc, ◌+◌, ◌<◌, Bool, true, false, ◌&&◌, ◌||◌, List, [], ◌∷◌, length, take, get_or, Some, slice_get, ap, ◌∙◌, arith, add-one}
use Rattle.std.specs.List.{list_all, list_any}
use Rattle.std.proofs.lemmas.Bool.{and_from, and_parts, and_right, or_from, or_parts, or_right}
use Rattle.std.proofs.lemmas.Option.{get_or_from_slice_get, slice_get_within}

module _ {A : Type 0} (test : A → Bool) where
  none_at : (xs : List A) (i : ℕ) (x : A) → i < length xs → get_or xs i x ≡ x → test x ≡ false →
      list_any test (take i xs) ≡ false → list_any test (take (suc i) xs) ≡ false
  none_at [] i x below here fails none = absurd (omega (arith, below))
  none_at (y ∷ xs) zero x below here fails none = ap (λ z. test z || false) here ∙ ap (λ t. t || false) fails
  none_at (y ∷ xs) (suc i) x below here fails none =
      let parts = or_parts (test y) (list_any test (take i xs)) none in or_from _ _ parts.0 (none_at xs i x (omega (arith, below)) here fails parts.1)

  all_at : (xs : List A) (i : ℕ) (x : A) → i < length xs → get_or xs i x ≡ x → test x ≡ true →
      list_all test (take i xs) ≡ true → list_all test (take (suc i) xs) ≡ true
  all_at [] i x below here passes all = absurd (omega (arith, below))
  all_at (y ∷ xs) zero x below here passes all = ap (λ z. test z && true) here ∙ ap (λ t. t && true) passes
  all_at (y ∷ xs) (suc i) x below here passes all =
      let parts = and_parts (test y) (list_all test (take i xs)) all in and_from _ _ parts.0 (all_at xs i x (omega (arith, below)) here passes parts.1)

  pub any_at : (xs : List A) (i : ℕ) (x : A) → i < length xs → get_or xs i x ≡ x → test x ≡ true → list_any test xs ≡ true
  any_at [] i x below here passes = absurd (omega (arith, below))
  any_at (y ∷ xs) zero x below here passes = ap (λ z. test z || list_any test xs) here ∙ ap (λ t. t || list_any test xs) passes
  any_at (y ∷ xs) (suc i) x below here passes = or_right (test y) _ (any_at xs i x (omega (arith, below)) here passes)

  broken_at : (xs : List A) (i : ℕ) (x : A) → i < length xs → get_or xs i x ≡ x → test x ≡ false → list_all test xs ≡ false
  broken_at [] i x below here fails = absurd (omega (arith, below))
  broken_at (y ∷ xs) zero x below here fails = ap (λ z. test z && list_all test xs) here ∙ ap (λ t. t && list_all test xs) fails
  broken_at (y ∷ xs) (suc i) x below here fails = and_right (test y) _ (broken_at xs i x (omega (arith, below)) here fails)

  -- the same if the element is known by any default past the end of the list
  pub any_passes : (xs : List A) (i : ℕ) → i < length xs → ((d : A) → test (get_or xs i d) ≡ true) → list_any test xs ≡ true
  any_passes [] i below passes = absurd (omega (arith, below))
  any_passes (y ∷ xs) zero below passes = ap (λ t. t || list_any test xs) (passes y)
  any_passes (y ∷ xs) (suc i) below passes = or_right (test y) _ (any_passes xs i (omega (arith, below)) passes)

  none_further : (xs : List A) (i : ℕ) → i < length xs → ((d : A) → test (get_or xs i d) ≡ false) →
      list_any test (take i xs) ≡ false → list_any test (take (suc i) xs) ≡ false
  none_further [] i below fails none = absurd (omega (arith, below))
  none_further (y ∷ xs) zero below fails none = ap (λ t. t || false) (fails y)
  none_further (y ∷ xs) (suc i) below fails none =
      let parts = or_parts (test y) (list_any test (take i xs)) none in or_from _ _ parts.0 (none_further xs i (omega (arith, below)) fails parts.1)

  pub none_more : (xs : List A) (i : ℕ) → i < length xs → ((d : A) → test (get_or xs i d) ≡ false) →
      list_any test (take i xs) ≡ false → list_any test (take (i + 1) xs) ≡ false
  none_more xs i below fails none = ap (λ n. list_any test (take n xs)) (add-one i) ∙ none_further xs i below fails none

  -- one more element that is read from a record, or one that ends the loop
  module _ (xs : List A) (i : ℕ) (x : A) (read : slice_get xs i ≡ Some x) where
    pub none_so_far : test x ≡ false → list_any test (take i xs) ≡ false → list_any test (take (i + 1) xs) ≡ false
    none_so_far fails none =
        ap (λ n. list_any test (take n xs)) (add-one i)
        ∙ none_at xs i x (slice_get_within xs i x read) (get_or_from_slice_get xs i x x read) fails none

    pub all_so_far : test x ≡ true → list_all test (take i xs) ≡ true → list_all test (take (i + 1) xs) ≡ true
    all_so_far passes all =
        ap (λ n. list_all test (take n xs)) (add-one i)
        ∙ all_at xs i x (slice_get_within xs i x read) (get_or_from_slice_get xs i x x read) passes all

    pub one_passes : test x ≡ true → list_any test xs ≡ true
    one_passes passes = any_at xs i x (slice_get_within xs i x read) (get_or_from_slice_get xs i x x read) passes

    pub one_fails : test x ≡ false → list_all test xs ≡ false
    one_fails fails = broken_at xs i x (slice_get_within xs i x read) (get_or_from_slice_get xs i x x read) fails
