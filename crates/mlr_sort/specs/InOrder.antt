-- A list in an order, where elements that tie keep their places to each other.
use Rattle.std.specs.Prelude.{if◌then◌else◌, List, [], ◌∷◌}
use Rattle.std.specs.List.Sorted.{IsPermutation, IsSorted, IsStable}
use Rattle.std.specs.Ordering.{is_lt}
use Rattle.std.specs.declared.cmp.Ordering.{Ordering}

-- a list in order with one more element, before those that aren't less
abbrev pub insert_first : {A : Type 0} → (A → A → Ordering) → A → List A → List A
insert_first cmp x [] = x ∷ []
insert_first cmp x (y ∷ ys) = if is_lt (cmp y x) then y ∷ insert_first cmp x ys else x ∷ y ∷ ys

-- the elements in order; of those that tie, the earlier comes first
abbrev pub in_order : {A : Type 0} → (A → A → Ordering) → List A → List A
in_order cmp [] = []
in_order cmp (x ∷ xs) = insert_first cmp x (in_order cmp xs)

-- the elements of xs, in order, where those that tie are in the order that they have in xs
pub record IsInOrder {A : Type 0} (cmp : A → A → Ordering) (xs ys : List A) : Type 0 where
  pub permutation : IsPermutation xs ys
  pub sorted : IsSorted cmp ys
  pub stable : IsStable cmp xs ys
