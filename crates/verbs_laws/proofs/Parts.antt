-- A list taken apart by tests that no element passes twice.
use Rattle.std.proofs.Common.{◌≡◌, Bool, true, false, not, ◌||◌, List, [], ◌∷◌, ◌++◌, refl, ap, ap₂, sym, subst, inl, inr}
use Rattle.std.specs.List.{filter, flat_map, list_any}
use Rattle.std.specs.List.Sorted.{IsPermutation}
use Rattle.std.proofs.lemmas.Bool.{cases_Bool}
use Rattle.std.proofs.lemmas.List.Sorted.{IsPermutation-append_right, IsPermutation-filter_both, IsPermutation-refl, IsPermutation-trans}

pub any-agree : {K : Type 0} (p q : K → Bool) → ((k : K) → p k ≡ q k) → (ks : List K) → list_any p ks ≡ list_any q ks
any-agree p q agree [] = refl
any-agree p q agree (k ∷ ks) = ap₂ (λ s t. s || t) (agree k) (any-agree p q agree ks)

pub any-never : {K : Type 0} (ks : List K) → list_any (λ k. false) ks ≡ false
any-never [] = refl
any-never (k ∷ ks) = any-never ks

pub filter-always : {X : Type 0} (xs : List X) → filter (λ x. true) xs ≡ xs
filter-always [] = refl
filter-always (x ∷ xs) = ap (λ ys. x ∷ ys) (filter-always xs)

filter-never : {X : Type 0} (xs : List X) → filter (λ x. false) xs ≡ []
filter-never [] = refl
filter-never (x ∷ xs) = filter-never xs

module _ {X K : Type 0} (mem : K → X → Bool) where
  -- whether an element passes the test of one of these
  abbrev pub within : List K → X → Bool
  within ks x = list_any (λ k. mem k x) ks

  -- no element passes the tests of two of them
  abbrev pub AreDisjoint : List K → Type 0
  AreDisjoint [] = Unit {0}
  AreDisjoint (k ∷ ks) = ((x : X) → mem k x ≡ true → within ks x ≡ false) × AreDisjoint ks

  here : (k : K) (ks : List K) (xs : List X) → filter (mem k) (filter (within (k ∷ ks)) xs) ≡ filter (mem k) xs
  here k ks [] = refl
  here k ks (x ∷ xs) =
      elim (cases_Bool (mem k x)) as (λ _. filter (mem k) (filter (within (k ∷ ks)) (x ∷ xs)) ≡ filter (mem k) (x ∷ xs)) [
        | inl is ↦ rw is (rw is (ap (λ ys. x ∷ ys) (here k ks xs)))
        | inr isnt ↦
            elim (cases_Bool (within ks x)) as (λ _. filter (mem k) (filter (within (k ∷ ks)) (x ∷ xs)) ≡ filter (mem k) (x ∷ xs)) [
              | inl other ↦ rw isnt (rw other (rw isnt (here k ks xs)))
              | inr none ↦ rw isnt (rw none (here k ks xs))
            ]
      ]

  there : (k : K) (ks : List K) → ((x : X) → mem k x ≡ true → within ks x ≡ false) → (xs : List X) → filter (λ x. not (mem k x)) (filter (within (k ∷ ks)) xs) ≡ filter (within ks) xs
  there k ks apart [] = refl
  there k ks apart (x ∷ xs) =
      elim (cases_Bool (mem k x)) as (λ _. filter (λ x. not (mem k x)) (filter (within (k ∷ ks)) (x ∷ xs)) ≡ filter (within ks) (x ∷ xs)) [
        | inl is ↦ let none = apart x is in rw is (rw is (rw none (there k ks apart xs)))
        | inr isnt ↦
            elim (cases_Bool (within ks x)) as (λ _. filter (λ x. not (mem k x)) (filter (within (k ∷ ks)) (x ∷ xs)) ≡ filter (within ks) (x ∷ xs)) [
              | inl other ↦ rw isnt (rw other (rw isnt (ap (λ ys. x ∷ ys) (there k ks apart xs))))
              | inr none ↦ rw isnt (rw none (there k ks apart xs))
            ]
      ]

  -- the elements that pass one of the tests are those that pass the first, those that pass the second, and so on
  pub parts : (ks : List K) → AreDisjoint ks → (xs : List X) → IsPermutation (filter (within ks) xs) (flat_map (λ k. filter (mem k) xs) ks)
  parts [] apart xs = subst (λ ys. IsPermutation ys []) (sym (filter-never xs)) (IsPermutation-refl [])
  parts (k ∷ ks) apart xs =
      IsPermutation-trans (filter (within (k ∷ ks)) xs) (filter (mem k) xs ++ filter (within ks) xs) (filter (mem k) xs ++ flat_map (λ k. filter (mem k) xs) ks)
      (subst (λ ys. IsPermutation (filter (within (k ∷ ks)) xs) ys) (ap₂ (λ ys zs. ys ++ zs) (here k ks xs) (there k ks apart.0 xs)) (IsPermutation-filter_both (mem k) (λ x. not (mem k x)) (λ x. refl) (filter (within (k ∷ ks)) xs)))
      (IsPermutation-append_right (filter (mem k) xs) (filter (within ks) xs) (flat_map (λ k. filter (mem k) xs) ks) (parts ks apart.1 xs))
