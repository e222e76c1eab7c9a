-- The elements in order: their one arrangement that ascends and keeps the order of those that tie.
use Rattle.std.proofs.Common.{◌≡◌, Bool, true, false, cond, List, [], ◌∷◌, map, refl, ap, sym, ◌∙◌}
use Rattle.std.specs.List.{AllByRecursion, filter}
use Rattle.std.specs.List.Sorted.{IsPermutation, IsSorted, IsStable, ties}
use Rattle.std.specs.Cmp.{IsStrictWeakOrder, IsTotalOrder}
use Rattle.std.specs.Ordering.{is_lt}
use Rattle.std.specs.declared.cmp.Ordering.{Ordering}
use Rattle.std.proofs.lemmas.Bool.{and_parts, cond_both, not-true, true≢false}
use Rattle.std.proofs.lemmas.List.Sorted.{ranks_by, IsPermutation-cons, IsPermutation-middle, IsPermutation-refl, IsPermutation-trans}
use Rattle.mlr_sort.specs.InOrder.{IsInOrder, in_order, insert_first}
use Rattle.mlr_sort.proofs.Ascends.{AllAfter, Ascends, ascends-sorted, same-ascending, sorted-ascends}

module _ {A : Type 0} (cmp : A → A → Ordering) where
  abbrev pub less : A → A → Bool
  less x y = is_lt (cmp x y)

  insert-moves : (x : A) (ys : List A) → IsPermutation (x ∷ ys) (insert_first cmp x ys)
  insert-moves x [] = IsPermutation-refl (x ∷ [])
  insert-moves x (y ∷ ys) =
      cond_both (less y x) (y ∷ insert_first cmp x ys) (x ∷ y ∷ ys) (IsPermutation (x ∷ y ∷ ys))
      (λ _. IsPermutation-trans (x ∷ y ∷ ys) (y ∷ x ∷ ys) (y ∷ insert_first cmp x ys)
      (IsPermutation-middle (x ∷ []) y ys)
      (IsPermutation-cons y (x ∷ ys) (insert_first cmp x ys) (insert-moves x ys)))
      (λ _. IsPermutation-refl (x ∷ y ∷ ys))

  pub in_order-moves : (xs : List A) → IsPermutation xs (in_order cmp xs)
  in_order-moves [] = IsPermutation-refl []
  in_order-moves (x ∷ xs) =
      IsPermutation-trans (x ∷ xs) (x ∷ in_order cmp xs) (in_order cmp (x ∷ xs))
      (IsPermutation-cons x xs (in_order cmp xs) (in_order-moves xs))
      (insert-moves x (in_order cmp xs))

  module _ (order : IsStrictWeakOrder less) where
    after-insert : (w x : A) (ys : List A) → less x w ≡ false → AllAfter less w ys → AllAfter less w (insert_first cmp x ys)
    after-insert w x [] after all = (after, tt)
    after-insert w x (y ∷ ys) after all =
        cond_both (less y x) (y ∷ insert_first cmp x ys) (x ∷ y ∷ ys) (AllAfter less w)
        (λ _. (all.0, after-insert w x ys after all.1))
        (λ _. (after, all))

    after-lower : (x y : A) (zs : List A) → less y x ≡ false → AllAfter less y zs → AllAfter less x zs
    after-lower x y [] after all = tt
    after-lower x y (z ∷ zs) after all = (order.chain z y x all.0 after, after-lower x y zs after all.1)

    ascends-insert : (x : A) (ys : List A) → Ascends less ys → Ascends less (insert_first cmp x ys)
    ascends-insert x [] up = (tt, tt)
    ascends-insert x (y ∷ ys) up =
        cond_both (less y x) (y ∷ insert_first cmp x ys) (x ∷ y ∷ ys) (Ascends less)
        (λ is. (after-insert y x ys (order.one_way y x is) up.0, ascends-insert x ys up.1))
        (λ isnt. ((isnt, after-lower x y ys isnt up.0), up))

    pub in_order-ascends : (xs : List A) → Ascends less (in_order cmp xs)
    in_order-ascends [] = tt
    in_order-ascends (x ∷ xs) = ascends-insert x (in_order cmp xs) (in_order-ascends xs)

    -- of two elements that don't tie, one at most ties with a third
    ties-one : (w x y : A) → less y x ≡ true → ties less w y ≡ true → (t : Bool) → ties less w x ≡ t → t ≡ false
    ties-one w x y is tie false e = refl
    ties-one w x y is tie true e =
        let first = and_parts _ _ tie in
        let second = and_parts _ _ e in
        absurd (true≢false (sym is ∙ order.chain y w x (not-true _ first.1) (not-true _ second.0)))

    exchanged : (a b : Bool) (x y : A) (xs ys : List A) → (a ≡ true → b ≡ false) → ys ≡ cond b (x ∷ xs) xs
        → cond a (y ∷ ys) ys ≡ cond b (x ∷ cond a (y ∷ xs) xs) (cond a (y ∷ xs) xs)
    exchanged true true x y xs ys apart e = absurd (true≢false (apart refl))
    exchanged true false x y xs ys apart e = ap (λ zs. y ∷ zs) e
    exchanged false b x y xs ys apart e = e

    insert-stable : (w x : A) (ys : List A) → filter (ties less w) (insert_first cmp x ys) ≡ filter (ties less w) (x ∷ ys)
    insert-stable w x [] = refl
    insert-stable w x (y ∷ ys) =
        cond_both (less y x) (y ∷ insert_first cmp x ys) (x ∷ y ∷ ys) (λ zs. filter (ties less w) zs ≡ filter (ties less w) (x ∷ y ∷ ys))
        (λ is. exchanged (ties less w y) (ties less w x) x y _ _ (λ tie. ties-one w x y is tie _ refl) (insert-stable w x ys))
        (λ _. refl)

    pub in_order-stable : (xs : List A) → IsStable cmp xs (in_order cmp xs)
    in_order-stable [] w = refl
    in_order-stable (x ∷ xs) w =
        insert-stable w x (in_order cmp xs) ∙ ap (λ zs. cond (ties less w x) (x ∷ zs) zs) (in_order-stable xs w)

    pub sorted-in_order : (xs ys : List A) → IsSorted cmp ys → IsStable cmp xs ys → ys ≡ in_order cmp xs
    sorted-in_order xs ys sorted stable =
        same-ascending less order ys (in_order cmp xs) (ascends-sorted less order ys sorted) (in_order-ascends xs)
        (λ w. stable w ∙ sym (in_order-stable xs w))

  pub is-in_order : (xs : List A) → IsTotalOrder cmp → IsInOrder cmp xs (in_order cmp xs)
  is-in_order xs total =
      let order : IsStrictWeakOrder less = ranks_by total (λ x. x) in
      record {
        permutation = in_order-moves xs;
        sorted = sorted-ascends less (in_order cmp xs) (in_order-ascends order xs);
        stable = in_order-stable order xs;
      }

  pub one-in_order : (xs ys : List A) → IsTotalOrder cmp → IsInOrder cmp xs ys → ys ≡ in_order cmp xs
  one-in_order xs ys total is = sorted-in_order (ranks_by total (λ x. x)) xs ys is.sorted is.stable

-- elements in the order of what they stand for, which need be known of these elements alone
module _ {A B : Type 0} (f : A → B) (cmp : A → A → Ordering) (cmp_2 : B → B → Ordering) (P : A → Type 0) (agree : (x y : A) → P x → P y → cmp x y ≡ cmp_2 (f x) (f y)) where
  insert-all : (x : A) (ys : List A) → P x → AllByRecursion P ys → AllByRecursion P (insert_first cmp x ys)
  insert-all x [] first all = (first, tt)
  insert-all x (y ∷ ys) first all =
      cond_both (is_lt (cmp y x)) (y ∷ insert_first cmp x ys) (x ∷ y ∷ ys) (AllByRecursion P)
      (λ _. (all.0, insert-all x ys first all.1))
      (λ _. (first, all))

  in_order-all : (xs : List A) → AllByRecursion P xs → AllByRecursion P (in_order cmp xs)
  in_order-all [] all = tt
  in_order-all (x ∷ xs) all = insert-all x (in_order cmp xs) all.0 (in_order-all xs all.1)

  insert-map : (x : A) (ys : List A) → P x → AllByRecursion P ys → map f (insert_first cmp x ys) ≡ insert_first cmp_2 (f x) (map f ys)
  insert-map x [] first all = refl
  insert-map x (y ∷ ys) first all =
      chosen (is_lt (cmp y x)) (insert-map x ys first all.1)
      ∙ ap (λ o. cond (is_lt o) (f y ∷ insert_first cmp_2 (f x) (map f ys)) (f x ∷ f y ∷ map f ys)) (agree y x all.0 first)
    where
      chosen : (t : Bool) → map f (insert_first cmp x ys) ≡ insert_first cmp_2 (f x) (map f ys)
          → map f (cond t (y ∷ insert_first cmp x ys) (x ∷ y ∷ ys)) ≡ cond t (f y ∷ insert_first cmp_2 (f x) (map f ys)) (f x ∷ f y ∷ map f ys)
      chosen true rest = ap (λ zs. f y ∷ zs) rest
      chosen false rest = refl

  pub in_order-map : (xs : List A) → AllByRecursion P xs → map f (in_order cmp xs) ≡ in_order cmp_2 (map f xs)
  in_order-map [] all = refl
  in_order-map (x ∷ xs) all =
      insert-map x (in_order cmp xs) all.0 (in_order-all xs all.1) ∙ ap (insert_first cmp_2 (f x)) (in_order-map xs all.1)
