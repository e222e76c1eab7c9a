-- The last element of a list.
use Rattle.std.proofs.Common.{◌≡◌, List, [], ◌∷◌, ◌++◌, Some, refl, ap}
use Rattle.std.specs.Option.{unwrap_or}
use Rattle.verbs_state.specs.Last.{last}

pub last-push : {A : Type 0} (xs : List A) (x : A) → last (xs ++ x ∷ []) ≡ Some x
last-push [] x = refl
last-push (y ∷ xs) x = ap (λ end. Some (unwrap_or end y)) (last-push xs x)
