-- Lists that ascend by a test: a list is told by the elements of each tie, in their order.
use Rattle.std.proofs.Common.{◌≡◌, ◌⊎◌, ℕ, zero, suc, ◌<◌, ◌≤◌, Bool, true, false, not, ◌&&◌, cond, List, [], ◌∷◌, length, get_or, refl, ap, ap₂, sym, subst, ◌∙◌, arith, inl, inr, add-one}
use Rattle.std.specs.List.{filter}
use Rattle.std.specs.List.Sorted.{IsSortedBy, ties}
use Rattle.std.specs.Cmp.{IsStrictWeakOrder}
use Rattle.std.proofs.lemmas.Bool.{cases_Bool, and_from, not_from_false, true≢false}
use Rattle.std.proofs.lemmas.List.Sorted.{sorted_far}

module _ {A : Type 0} (lt : A → A → Bool) where
  -- none of these elements is less than x
  abbrev pub AllAfter : A → List A → Type 0
  AllAfter x [] = Unit {0}
  AllAfter x (y ∷ ys) = (lt y x ≡ false) × AllAfter x ys

  -- no element is less than one before it
  abbrev pub Ascends : List A → Type 0
  Ascends [] = Unit {0}
  Ascends (x ∷ xs) = AllAfter x xs × Ascends xs

  after-at : (x : A) (xs : List A) → ((k : ℕ) → k < length xs → lt (get_or xs k x) x ≡ false) → AllAfter x xs
  after-at x [] at = tt
  after-at x (y ∷ ys) at = (at 0 (omega arith), after-at x ys (λ k below. at (suc k) (omega arith)))

  ascends-at : (xs : List A) → ((i j : ℕ) (d : A) → i ≤ j → j < length xs → lt (get_or xs j d) (get_or xs i d) ≡ false) → Ascends xs
  ascends-at [] at = tt
  ascends-at (x ∷ xs) at = (
    after-at x xs (λ k below. at 0 (suc k) x (omega arith) (omega arith)),
    ascends-at xs (λ i j d order below. at (suc i) (suc j) d (omega arith) (omega arith)),
  )

  next-at : (xs : List A) → Ascends xs → (k : ℕ) (d : A) → suc k < length xs → lt (get_or xs (suc k) d) (get_or xs k d) ≡ false
  next-at [] up k d below = absurd (omega arith)
  next-at (x ∷ []) up k d below = absurd (omega arith)
  next-at (x ∷ y ∷ ys) up zero d below = up.0.0
  next-at (x ∷ y ∷ ys) up (suc k) d below = next-at (y ∷ ys) up.1 k d (omega arith)

  pub sorted-ascends : (xs : List A) → Ascends xs → IsSortedBy lt xs
  sorted-ascends xs up k d low below = ap (λ n. lt (get_or xs n d) (get_or xs k d)) (add-one k) ∙ next-at xs up k d (omega arith)

  module _ (order : IsStrictWeakOrder lt) where
    pub ascends-sorted : (xs : List A) → IsSortedBy lt xs → Ascends xs
    ascends-sorted xs sorted = ascends-at xs (sorted_far lt order xs sorted)

    not-itself : (x : A) → lt x x ≡ false
    not-itself x = elim (cases_Bool (lt x x)) as (λ _. lt x x ≡ false) [ inl less ↦ order.one_way x x less | inr isnt ↦ isnt ]

    ties-itself : (x : A) → ties lt x x ≡ true
    ties-itself x = and_from _ _ (not_from_false _ (not-itself x)) (not_from_false _ (not-itself x))

    -- what isn't less than some element that is above x doesn't tie with x
    above-unties : (x y z : A) → lt x y ≡ true → lt z y ≡ false → ties lt x z ≡ false
    above-unties x y z less after =
        elim (cases_Bool (lt x z)) as (λ _. ties lt x z ≡ false) [
          | inl is ↦ ap (λ t. not t && not (lt z x)) is
          | inr isnt ↦ absurd (true≢false (sym less ∙ order.chain x z y isnt after))
        ]

    above-no_ties : (x y : A) (zs : List A) → lt x y ≡ true → AllAfter y zs → filter (ties lt x) zs ≡ []
    above-no_ties x y [] less after = refl
    above-no_ties x y (z ∷ zs) less after =
        ap (λ t. cond t (z ∷ filter (ties lt x) zs) (filter (ties lt x) zs)) (above-unties x y z less after.0) ∙ above-no_ties x y zs less after.1

    kept-first : (x : A) (xs : List A) → filter (ties lt x) (x ∷ xs) ≡ x ∷ filter (ties lt x) xs
    kept-first x xs = ap (λ t. cond t (x ∷ filter (ties lt x) xs) (filter (ties lt x) xs)) (ties-itself x)

    cancel : (t : Bool) (x : A) (xs ys : List A) → cond t (x ∷ xs) xs ≡ cond t (x ∷ ys) ys → xs ≡ ys
    cancel true x xs ys same = cc
    cancel false x xs ys same = same

    untied : (s t : Bool) → not s && not t ≡ false → (s ≡ true) ⊎ (t ≡ true)
    untied true t h = inl refl
    untied false true h = inr refl
    untied false false h = absurd (true≢false h)

    -- two such lists are equal if the elements that tie with any given one are the same in both
    pub same-ascending : (xs ys : List A) → Ascends xs → Ascends ys → ((x : A) → filter (ties lt x) xs ≡ filter (ties lt x) ys) → xs ≡ ys
    same-ascending [] [] up up_2 same = refl
    same-ascending [] (y ∷ ys) up up_2 same = let e = same y ∙ kept-first y ys in absurd cc
    same-ascending (x ∷ xs) [] up up_2 same = let e = sym (same x) ∙ kept-first x xs in absurd cc
    same-ascending (x ∷ xs) (y ∷ ys) up up_2 same =
        elim (cases_Bool (ties lt x y)) as (λ _. x ∷ xs ≡ y ∷ ys) [
          | inl tie ↦ let e = first tie in ap₂ (λ z zs. z ∷ zs) e (same-ascending xs ys up.1 up_2.1 (rest e))
          | inr apart ↦ elim (untied (lt x y) (lt y x) apart) [
            | inl less ↦ let e = sym (kept-first x xs) ∙ same x ∙ above-no_ties x y (y ∷ ys) less (not-itself y, up_2.0) in absurd cc
            | inr less ↦ let e = sym (kept-first y ys) ∙ sym (same y) ∙ above-no_ties y x (x ∷ xs) less (not-itself x, up.0) in absurd cc
          ]
        ]
      where
        first : ties lt x y ≡ true → x ≡ y
        first tie =
            let e = sym (kept-first x xs) ∙ same x ∙ ap (λ t. cond t (y ∷ filter (ties lt x) ys) (filter (ties lt x) ys)) tie in cc

        rest : x ≡ y → (w : A) → filter (ties lt w) xs ≡ filter (ties lt w) ys
        rest e w =
            cancel (ties lt w x) x (filter (ties lt w) xs) (filter (ties lt w) ys)
            (subst (λ z. filter (ties lt w) (x ∷ xs) ≡ cond (ties lt w z) (z ∷ filter (ties lt w) ys) (filter (ties lt w) ys)) (sym e) (same w))
