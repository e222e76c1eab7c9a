-- The first item of a list.
use Rattle.std.proofs.Common.{◌≡◌, List, [], ◌∷◌, Some, None, refl, ap}
use Rattle.std.specs.List.{slice_get}

pub first-is : {A : Type 0} (xs : List A) (x : A) → Some x ≡ slice_get xs 0 → (rest : List A) × (xs ≡ x ∷ rest)
first-is [] x is = absurd (let e = is in cc)
first-is (y ∷ ys) x is = (ys, let e : Some x ≡ Some y = is in let f : y ≡ x = cc in ap (λ z. z ∷ ys) f)

pub none-is : {A : Type 0} (xs : List A) → None ≡ slice_get xs 0 → xs ≡ []
none-is [] is = refl
none-is (y ∷ ys) is = absurd (let e = is in cc)

pub same-first : {A : Type 0} {x y : A} {xs ys : List A} → x ∷ xs ≡ y ∷ ys → x ≡ y
same-first is = cc
