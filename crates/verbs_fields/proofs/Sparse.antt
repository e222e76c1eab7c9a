-- The fields that are kept and those that are dropped, interleaved.
use Rattle.std.proofs.Common.{◌≡◌, Bool, true, false, not, cond, List, [], ◌∷◌, refl, ap, inl, inr}
use Rattle.std.specs.List.{filter, list_all, list_any}
use Rattle.std.proofs.lemmas.Bool.{cases_Bool, and_from, or_from}
use Rattle.verbs_fields.specs.Interleaving.{Interleaves}

module _ {A : Type 0} (test : A → Bool) where
  pub interleaved : (xs : List A) → (others : List A) × Interleaves xs (filter (λ x. not (test x)) xs) others × (list_all test others ≡ true)
  interleaved [] = ([], (refl, refl), refl)
  interleaved (x ∷ xs) =
      let kept = filter (λ x. not (test x)) xs in
      let rest = interleaved xs in
      elim (cases_Bool (test x)) as (λ _. (others : List A) × Interleaves (x ∷ xs) (filter (λ x. not (test x)) (x ∷ xs)) others × (list_all test others ≡ true)) [
        | inl is ↦ (x ∷ rest.0, inr (rest.0, refl, rw is rest.1), and_from _ _ is rest.2)
        | inr isnt ↦ (rest.0, inl (kept, ap (λ t. cond (not t) (x ∷ kept) kept) isnt, rest.1), rest.2)
      ]

  pub none-kept : (xs : List A) → list_any test (filter (λ x. not (test x)) xs) ≡ false
  none-kept [] = refl
  none-kept (x ∷ xs) =
      elim (cases_Bool (test x)) as (λ _. list_any test (filter (λ x. not (test x)) (x ∷ xs)) ≡ false) [
        | inl is ↦ rw is (none-kept xs)
        | inr isnt ↦ rw isnt (or_from _ _ isnt (none-kept xs))
      ]
