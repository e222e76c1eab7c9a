-- The last of a list, and what holds of a list with one element more.
use Rattle.std.proofs.Common.{◌≡◌, true, ◌||◌, List, [], ◌∷◌, ◌++◌, refl, ap, sym, ◌∙◌}
use Rattle.std.proofs.Math.Bool.{or-true}
use Rattle.writers.specs.Before.{any_filled, last_or}
use Rattle.writers.specs.Joined.{are_any}
use Rattle.writers.specs.Runs.{Record, all_but_last, filled}

module _ {A : Type 0} where
  pub last-append : (d x : A) (xs : List A) → last_or d (xs ++ x ∷ []) ≡ x
  last-append d x [] = refl
  last-append d x (y ∷ ys) = last-append y x ys

  pub but_last-append : (x : A) (xs : List A) → all_but_last (xs ++ x ∷ []) ≡ xs
  but_last-append x [] = refl
  but_last-append x (y ∷ []) = refl
  but_last-append x (y ∷ next ∷ ys) = ap (λ t. y ∷ t) (but_last-append x (next ∷ ys))

  -- a list is those before its last, and its last
  pub but_last-last : (x : A) (xs : List A) → all_but_last (x ∷ xs) ++ last_or x xs ∷ [] ≡ x ∷ xs
  but_last-last x [] = refl
  but_last-last x (next ∷ xs) = ap (λ t. x ∷ t) (but_last-last next xs)

  pub any-append : (x : A) (xs : List A) → are_any (xs ++ x ∷ []) ≡ true
  any-append x [] = refl
  any-append x (y ∷ ys) = refl

-- whether one of the lists holds something
module _ {A : Type 0} where
  filled-append : (xs : List (List A)) (x : List A) → are_any (filled (xs ++ x ∷ [])) ≡ (are_any (filled xs) || are_any x)
  filled-append [] [] = refl
  filled-append [] (y ∷ x) = refl
  filled-append ([] ∷ xs) x = filled-append xs x
  filled-append ((y ∷ ys) ∷ xs) x = refl

  pub filled-last : (xs : List (List A)) → are_any (filled xs) ≡ (are_any (filled (all_but_last xs)) || are_any (last_or [] xs))
  filled-last [] = refl
  filled-last (x ∷ xs) =
      ap (λ t. are_any (filled t)) (sym (but_last-last x xs)) ∙ filled-append (all_but_last (x ∷ xs)) (last_or x xs)

-- whether one of the records has fields
pub any_filled-is : (rs : List Record) → any_filled rs ≡ are_any (filled rs)
any_filled-is [] = refl
any_filled-is ([] ∷ rs) = any_filled-is rs
any_filled-is ((field ∷ r) ∷ rs) = refl

pub any_filled-append : (rs : List Record) (r : Record) → any_filled (rs ++ r ∷ []) ≡ (any_filled rs || are_any r)
any_filled-append rs r = any_filled-is (rs ++ r ∷ []) ∙ filled-append rs r ∙ ap (λ any. any || are_any r) (sym (any_filled-is rs))

pub any_filled-last : (rs : List Record) → are_any (last_or [] rs) ≡ true → any_filled rs ≡ true
any_filled-last rs some =
    any_filled-is rs ∙ filled-last rs ∙ ap (λ any. are_any (filled (all_but_last rs)) || any) some ∙ or-true (are_any (filled (all_but_last rs)))
