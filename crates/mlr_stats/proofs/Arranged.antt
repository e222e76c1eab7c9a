-- Elements in the order of their images.
use Rattle.std.proofs.Common.{◌≡◌, Bool, true, false, cond, List, [], ◌∷◌, map, refl, ap, ◌∙◌}
use Rattle.std.specs.Ordering.{is_lt, on}
use Rattle.std.specs.declared.cmp.Ordering.{Ordering}
use Rattle.mlr_sort.specs.InOrder.{in_order, insert_first}

module _ {A B : Type 0} (f : A → B) (cmp : B → B → Ordering) where
  map-insert : (x : A) (xs : List A) → map f (insert_first (on f cmp) x xs) ≡ insert_first cmp (f x) (map f xs)
  map-insert x [] = refl
  map-insert x (y ∷ ys) = chosen (is_lt (cmp (f y) (f x))) (map-insert x ys)
    where
      chosen : (t : Bool) → map f (insert_first (on f cmp) x ys) ≡ insert_first cmp (f x) (map f ys)
          → map f (cond t (y ∷ insert_first (on f cmp) x ys) (x ∷ y ∷ ys)) ≡ cond t (f y ∷ insert_first cmp (f x) (map f ys)) (f x ∷ f y ∷ map f ys)
      chosen true more = ap (λ zs. f y ∷ zs) more
      chosen false more = refl

  pub map-in_order : (xs : List A) → map f (in_order (on f cmp) xs) ≡ in_order cmp (map f xs)
  map-in_order [] = refl
  map-in_order (x ∷ xs) = map-insert x (in_order (on f cmp) xs) ∙ ap (insert_first cmp (f x)) (map-in_order xs)
