-- The pairs of a map, as a list and as a chain.
use Rattle.std.proofs.Common.{◌≡◌, ℕ, List, [], ◌∷◌, refl, ap}
use Rattle.mlr_spec.specs.Tree.{Tree, pairs_in, fields_of}

pub pairs-in-fields : (pairs : List (List ℕ × Tree)) → pairs_in (fields_of pairs) ≡ pairs
pairs-in-fields [] = refl
pairs-in-fields (pair ∷ pairs) = ap (λ more. pair ∷ more) (pairs-in-fields pairs)
