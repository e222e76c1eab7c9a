-- The first element in an order, with one more element at the end.
use Rattle.std.proofs.Common.{◌≡◌, Bool, true, false, cond, List, [], ◌∷◌, ◌++◌, Option, Some, None, slice_get, refl, ap, sym, ◌∙◌}
use Rattle.std.specs.Cmp.{IsStrictWeakOrder, IsTotalOrder, back_total}
use Rattle.std.specs.Ordering.{is_lt}
use Rattle.std.specs.declared.cmp.Ordering.{Ordering}
use Rattle.std.proofs.lemmas.Bool.{true≢false}
use Rattle.std.proofs.lemmas.List.Sorted.{ranks_by}
use Rattle.mlr_spec.specs.Order.{order_total}
use Rattle.mlr_spec.specs.declared.arith.Order.TheVariants.{Mixed}
use Rattle.mlr_sort.specs.InOrder.{in_order, insert_first}
use Rattle.mlr_stats.specs.Statistic.{by_value, first_by}

module _ {A : Type 0} (cmp : A → A → Ordering) where
  abbrev less : A → A → Bool
  less x y = is_lt (cmp x y)

  -- the first of an element and those after it, and of those before an element and it
  abbrev before_all : A → Option A → A
  before_all x None = x
  before_all x (Some y) = cond (less y x) y x

  abbrev pub after_all : Option A → A → Option A
  after_all None x = Some x
  after_all (Some y) x = Some (cond (less x y) x y)

  first-insert : (x : A) (ys : List A) → slice_get (insert_first cmp x ys) 0 ≡ Some (before_all x (slice_get ys 0))
  first-insert x [] = refl
  first-insert x (y ∷ ys) = chosen (less y x)
    where
      chosen : (t : Bool) → slice_get (cond t (y ∷ insert_first cmp x ys) (x ∷ y ∷ ys)) 0 ≡ Some (cond t y x)
      chosen true = refl
      chosen false = refl

  module _ (order : IsStrictWeakOrder less) where
    swaps-at : (x y z : A) (a b c : Bool) → less x z ≡ a → less z y ≡ b → less x y ≡ c → cond a (cond c x y) (cond b z y) ≡ cond b (cond a x z) (cond c x y)
    swaps-at x y z true true true ea eb ec = refl
    swaps-at x y z true true false ea eb ec = absurd (true≢false (sym ea ∙ order.chain x y z ec (order.one_way z y eb)))
    swaps-at x y z true false c ea eb ec = refl
    swaps-at x y z false true c ea eb ec = refl
    swaps-at x y z false false true ea eb ec = absurd (true≢false (sym ec ∙ order.chain x z y ea eb))
    swaps-at x y z false false false ea eb ec = refl

    swaps : (y : A) (o : Option A) (x : A) → Some (before_all y (after_all o x)) ≡ after_all (Some (before_all y o)) x
    swaps y None x = refl
    swaps y (Some z) x = ap Some (inside (less x z) ∙ swaps-at x y z (less x z) (less z y) (less x y) refl refl refl ∙ sym (outside (less z y)))
      where
        inside : (a : Bool) → cond (less (cond a x z) y) (cond a x z) y ≡ cond a (cond (less x y) x y) (cond (less z y) z y)
        inside true = refl
        inside false = refl

        outside : (b : Bool) → cond (less x (cond b z y)) x (cond b z y) ≡ cond b (cond (less x z) x z) (cond (less x y) x y)
        outside true = refl
        outside false = refl

    first-last : (xs : List A) (x : A) → first_by cmp (xs ++ x ∷ []) ≡ after_all (first_by cmp xs) x
    first-last [] x = refl
    first-last (y ∷ xs) x =
        first-insert y (in_order cmp (xs ++ x ∷ []))
        ∙ ap (λ o. Some (before_all y o)) (first-last xs x)
        ∙ swaps y (first_by cmp xs) x
        ∙ ap (λ o. after_all o x) (sym (first-insert y (in_order cmp xs)))

  pub first_by-last : IsTotalOrder cmp → (xs : List A) (x : A) → first_by cmp (xs ++ x ∷ []) ≡ after_all (first_by cmp xs) x
  first_by-last total = first-last (ranks_by total (λ x. x))

  -- what is kept after one more element, by whether it precedes the one that was kept
  pub keeps-better : (o : Option A) (x : A) (t : Bool) → (o ≡ None → t ≡ true) → ((y : A) → o ≡ Some y → t ≡ less x y) → cond t (Some x) o ≡ after_all o x
  keeps-better None x t none some = ap (λ b. cond b (Some x) None) (none refl)
  keeps-better (Some y) x t none some = ap (λ b. cond b (Some x) (Some y)) (some y refl) ∙ chosen (less x y)
    where
      chosen : (b : Bool) → cond b (Some x) (Some y) ≡ Some (cond b x y)
      chosen true = refl
      chosen false = refl

pub by_value-total : (greatest : Bool) → IsTotalOrder (by_value greatest)
by_value-total true = back_total (order_total Mixed)
by_value-total false = order_total Mixed
