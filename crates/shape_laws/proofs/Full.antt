-- Elements of which each is there once: as many as there are in all.
use Rattle.std.proofs.Common.{◌≡◌, ◌+◌, ◌≤◌, Bool, true, false, not, ◌||◌, List, [], ◌∷◌, length, ap, sym, ◌∙◌, arith, inl, inr}
use Rattle.std.specs.Bool.{Decides}
use Rattle.std.specs.List.{filter, list_any}
use Rattle.std.proofs.lemmas.Bool.{cases_Bool, true≢false}
use Rattle.mlr_groups.specs.Grouping.{each_once}
use Rattle.mlr_groups.proofs.Once.{AreApart, any-once}

no-more : {A : Type 0} (test : A → Bool) (xs : List A) → length (filter test xs) ≤ length xs
no-more test [] = omega arith
no-more test (x ∷ xs) =
    elim (cases_Bool (test x)) as (λ _. length (filter test (x ∷ xs)) ≤ length (x ∷ xs)) [
      | inl passes ↦ rw passes (omega (arith, no-more test xs))
      | inr fails ↦ rw fails (omega (arith, no-more test xs))
    ]

module _ {A : Type 0} (eq : A → A → Bool) (decides : (x y : A) → Decides (eq x y) (x ≡ y)) where
  fewer : (x : A) (xs : List A) → list_any (eq x) xs ≡ true → length (filter (λ y. not (eq x y)) xs) + 1 ≤ length xs
  fewer x [] there = absurd (true≢false (sym there))
  fewer x (y ∷ xs) there =
      elim (cases_Bool (eq x y)) as (λ _. length (filter (λ y. not (eq x y)) (y ∷ xs)) + 1 ≤ length (y ∷ xs)) [
        | inl same ↦ rw same (omega (arith, no-more (λ y. not (eq x y)) xs))
        | inr apart ↦ rw apart (omega (arith, fewer x xs (sym (ap (λ t. t || list_any (eq x) xs) apart) ∙ there)))
      ]

  once-no-more : (xs : List A) → length (each_once eq xs) ≤ length xs
  once-no-more [] = omega arith
  once-no-more (x ∷ xs) = omega (arith, no-more (λ y. not (eq x y)) (each_once eq xs), once-no-more xs)

  pub all-apart : (xs : List A) → length (each_once eq xs) ≡ length xs → AreApart eq decides xs
  all-apart [] full = tt
  all-apart (x ∷ xs) full =
      let left = each_once eq xs in
      let fewer-left = no-more (λ y. not (eq x y)) left in
      let no-more-left = once-no-more xs in
      let all : length left ≡ length xs = omega (arith, full, fewer-left, no-more-left) in
      let new : list_any (eq x) xs ≡ false =
      elim (cases_Bool (list_any (eq x) xs)) as (λ _. list_any (eq x) xs ≡ false) [
        | inl there ↦ absurd (omega (arith, full, all, fewer x left (any-once eq decides x xs ∙ there)))
        | inr none ↦ none
      ] in
      (new, all-apart xs all)
