-- The first elements in order, of a list that grows at its end.
use Rattle.std.proofs.Common.{◌≡◌, ℕ, zero, suc, Bool, true, false, cond, List, [], ◌∷◌, ◌++◌, take, Some, None, slice_get, refl, ap, sym, subst, ◌∙◌, inl, inr}
use Rattle.std.specs.Cmp.{IsStrictWeakOrder}
use Rattle.std.specs.Ordering.{is_lt}
use Rattle.std.specs.declared.cmp.Ordering.{Ordering}
use Rattle.std.proofs.lemmas.Bool.{cases_Bool, cond_both, true≢false}
use Rattle.mlr_sort.specs.InOrder.{in_order, insert_first}
use Rattle.mlr_sort.proofs.Ascends.{AllAfter, Ascends}
use Rattle.mlr_sort.proofs.InOrder.{in_order-ascends}
use Rattle.verbs_top.specs.Best.{FirstAre}

module _ {A : Type 0} (P : A → Type 0) where
  first-fewer : (n : ℕ) (xs : List A) → FirstAre (suc n) P xs → FirstAre n P xs
  first-fewer zero xs are = tt
  first-fewer (suc n) [] are = are
  first-fewer (suc n) (x ∷ xs) are = (are.0, first-fewer n xs are.1)

  first-take : (n : ℕ) (xs : List A) → FirstAre n P (take n xs) → FirstAre n P xs
  first-take zero xs are = tt
  first-take (suc n) [] are = are
  first-take (suc n) (x ∷ xs) are = (are.0, first-take n xs are.1)

  take-first : (n : ℕ) (xs : List A) → FirstAre n P xs → FirstAre n P (take n xs)
  take-first zero xs are = tt
  take-first (suc n) [] are = are
  take-first (suc n) (x ∷ xs) are = (are.0, take-first n xs are.1)

module _ {A : Type 0} where
  take-fewer : (n : ℕ) (xs : List A) → take n (take (suc n) xs) ≡ take n xs
  take-fewer zero xs = refl
  take-fewer (suc n) [] = refl
  take-fewer (suc n) (x ∷ xs) = ap (λ ys. x ∷ ys) (take-fewer n xs)

  take-same : (n : ℕ) (xs : List A) → take n (take n xs) ≡ take n xs
  take-same zero xs = refl
  take-same (suc n) [] = refl
  take-same (suc n) (x ∷ xs) = ap (λ ys. x ∷ ys) (take-same n xs)

module _ {A : Type 0} (cmp : A → A → Ordering) where
  abbrev less : A → A → Bool
  less x y = is_lt (cmp x y)

  -- a list in order with one more element, after those that aren't greater
  abbrev insert_last : A → List A → List A
  insert_last x [] = x ∷ []
  insert_last x (y ∷ ys) = cond (less x y) (x ∷ y ∷ ys) (y ∷ insert_last x ys)

  -- the first elements, with one more that is placed among them
  insert-take : (n : ℕ) (x : A) (ys : List A) → take n (insert_last x ys) ≡ take n (insert_last x (take n ys))
  insert-take zero x ys = refl
  insert-take (suc n) x [] = refl
  insert-take (suc n) x (y ∷ ys) = chosen (less x y) (insert-take n x ys)
    where
      chosen : (t : Bool) → take n (insert_last x ys) ≡ take n (insert_last x (take n ys))
          → take (suc n) (cond t (x ∷ y ∷ ys) (y ∷ insert_last x ys)) ≡ take (suc n) (cond t (x ∷ y ∷ take n ys) (y ∷ insert_last x (take n ys)))
      chosen true rest = ap (λ zs. x ∷ zs) (sym (take-fewer n (y ∷ ys)))
      chosen false rest = ap (λ zs. y ∷ zs) rest

  module _ (order : IsStrictWeakOrder less) where
    -- what is less than what is less than x is less than x
    less-less : (x y z : A) → less y z ≡ true → less z x ≡ true → less y x ≡ true
    less-less x y z p q = elim (cases_Bool (less y x)) as (λ _. less y x ≡ true) [ inl is ↦ is | inr isnt ↦ absurd (true≢false (sym p ∙ order.chain y x z isnt (order.one_way z x q))) ]

    -- one element placed first and another last, in either order
    insert-both : (x y : A) (zs : List A) → insert_first cmp x (insert_last y zs) ≡ insert_last y (insert_first cmp x zs)
    insert-both x y [] = refl
    insert-both x y (z ∷ zs) = chosen (less y z) (less z x) refl refl (insert-both x y zs)
      where
        chosen : (a b : Bool) → less y z ≡ a → less z x ≡ b → insert_first cmp x (insert_last y zs) ≡ insert_last y (insert_first cmp x zs)
            → insert_first cmp x (cond a (y ∷ z ∷ zs) (z ∷ insert_last y zs)) ≡ insert_last y (cond b (z ∷ insert_first cmp x zs) (x ∷ z ∷ zs))
        chosen true true p q rest = let r = less-less x y z p q in simp (p, q, r)
        chosen true false p q rest = simp (p, q)
        chosen false true p q rest = simp (p, q) (ap (λ ys. z ∷ ys) rest)
        chosen false false p q rest = let r = order.chain y z x p q in simp (p, q, r)

    -- one more element at the end
    pub in_order-last : (xs : List A) (y : A) → in_order cmp (xs ++ y ∷ []) ≡ insert_last y (in_order cmp xs)
    in_order-last [] y = refl
    in_order-last (x ∷ xs) y = ap (insert_first cmp x) (in_order-last xs y) ∙ insert-both x y (in_order cmp xs)

    -- lists with the same first elements in order have them with one more
    pub same-more : (n : ℕ) (xs ys : List A) (x : A) → take n (in_order cmp xs) ≡ take n (in_order cmp ys)
        → take n (in_order cmp (xs ++ x ∷ [])) ≡ take n (in_order cmp (ys ++ x ∷ []))
    same-more n xs ys x same =
        ap (take n) (in_order-last xs x) ∙ insert-take n x (in_order cmp xs)
        ∙ ap (λ zs. take n (insert_last x zs)) same
        ∙ sym (ap (take n) (in_order-last ys x) ∙ insert-take n x (in_order cmp ys))

    -- a list that is in order
    ordered-same : (xs : List A) → Ascends less xs → in_order cmp xs ≡ xs
    ordered-same [] up = refl
    ordered-same (x ∷ xs) up = ap (insert_first cmp x) (ordered-same xs up.1) ∙ before xs up.0
      where
        before : (ys : List A) → AllAfter less x ys → insert_first cmp x ys ≡ x ∷ ys
        before [] after = refl
        before (y ∷ ys) after = ap (λ t. cond t (y ∷ insert_first cmp x ys) (x ∷ y ∷ ys)) after.0

    after-take : (n : ℕ) (x : A) (xs : List A) → AllAfter less x xs → AllAfter less x (take n xs)
    after-take zero x xs after = tt
    after-take (suc n) x [] after = tt
    after-take (suc n) x (y ∷ ys) after = (after.0, after-take n x ys after.1)

    ascends-take : (n : ℕ) (xs : List A) → Ascends less xs → Ascends less (take n xs)
    ascends-take zero xs up = tt
    ascends-take (suc n) [] up = tt
    ascends-take (suc n) (x ∷ xs) up = (after-take n x xs up.0, ascends-take n xs up.1)

    -- the first elements in order have the same first elements
    pub first-same : (n : ℕ) (xs : List A) → take n (in_order cmp (take n (in_order cmp xs))) ≡ take n (in_order cmp xs)
    first-same n xs =
        ap (take n) (ordered-same (take n (in_order cmp xs)) (ascends-take n (in_order cmp xs) (in_order-ascends cmp order xs)))
        ∙ take-same n (in_order cmp xs)

    module _ (w : A) where
      -- x isn't after w
      abbrev pub NotAfter : A → Type 0
      NotAfter x = less w x ≡ false

      first-insert : (n : ℕ) (x : A) (ys : List A) → FirstAre n NotAfter ys → FirstAre n NotAfter (insert_last x ys)
      first-insert zero x ys are = tt
      first-insert (suc n) x [] are = absurd are
      first-insert (suc n) x (y ∷ ys) are =
          cond_both (less x y) (x ∷ y ∷ ys) (y ∷ insert_last x ys) (FirstAre (suc n) NotAfter)
          (λ is. (order.chain w y x are.0 (order.one_way x y is), first-fewer NotAfter n (y ∷ ys) are))
          (λ isnt. (are.0, first-insert n x ys are.1))

      first-stay : (n : ℕ) (x : A) (ys : List A) → FirstAre n NotAfter ys → less x w ≡ false → take n (insert_last x ys) ≡ take n ys
      first-stay zero x ys are after = refl
      first-stay (suc n) x [] are after = absurd are
      first-stay (suc n) x (y ∷ ys) are after =
          ap (λ t. take (suc n) (cond t (x ∷ y ∷ ys) (y ∷ insert_last x ys))) (order.chain x w y after are.0)
          ∙ ap (λ zs. y ∷ zs) (first-stay n x ys are.1 after)

      -- the first elements in order aren't after w, however many more there are
      pub first-more : (n : ℕ) (xs : List A) (x : A) → FirstAre n NotAfter (in_order cmp xs) → FirstAre n NotAfter (in_order cmp (xs ++ x ∷ []))
      first-more n xs x are = subst (FirstAre n NotAfter) (sym (in_order-last xs x)) (first-insert n x (in_order cmp xs) are)

      -- then one that isn't less than w isn't among them
      pub first-passed : (n : ℕ) (xs : List A) (x : A) → FirstAre n NotAfter (in_order cmp xs) → less x w ≡ false
          → take n (in_order cmp (xs ++ x ∷ [])) ≡ take n (in_order cmp xs)
      first-passed n xs x are after = ap (take n) (in_order-last xs x) ∙ first-stay n x (in_order cmp xs) are after

    -- elements in order up to a place aren't after the one at the place
    upto : (n : ℕ) (xs : List A) (w : A) → Ascends less xs → slice_get xs n ≡ Some w → FirstAre (suc n) (NotAfter w) xs
    upto n [] w up at = absurd (let e : None ≡ Some w = at in cc)
    upto zero (x ∷ xs) w up at = let e : x ≡ w = cc in (itself e, tt)
      where
        itself : x ≡ w → less w x ≡ false
        itself e = elim (cases_Bool (less w x)) as (λ _. less w x ≡ false) [ inl is ↦ subst (λ z. less z x ≡ false) e (order.one_way x x (subst (λ z. less z x ≡ true) (sym e) is)) | inr isnt ↦ isnt ]
    upto (suc n) (x ∷ xs) w up at = (reached n xs up.0 at, upto n xs w up.1 at)
      where
        reached : (k : ℕ) (ys : List A) → AllAfter less x ys → slice_get ys k ≡ Some w → less w x ≡ false
        reached k [] after at = absurd (let e : None ≡ Some w = at in cc)
        reached zero (y ∷ ys) after at = let e : y ≡ w = cc in subst (λ z. less z x ≡ false) e after.0
        reached (suc k) (y ∷ ys) after at = reached k ys after.1 at

    -- the first elements in order aren't after the last of them
    pub first-last : (n : ℕ) (xs ys : List A) (w : A) → take (suc n) (in_order cmp ys) ≡ take (suc n) (in_order cmp xs) → slice_get (take (suc n) (in_order cmp ys)) n ≡ Some w
        → FirstAre (suc n) (NotAfter w) (in_order cmp xs)
    first-last n xs ys w same at =
        first-take (NotAfter w) (suc n) (in_order cmp xs)
        (subst (FirstAre (suc n) (NotAfter w)) same
        (upto n (take (suc n) (in_order cmp ys)) w (ascends-take (suc n) (in_order cmp ys) (in_order-ascends cmp order ys)) at))
