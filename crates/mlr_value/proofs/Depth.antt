-- An item and a value of a pair are no deeper than the array and the map: for the measures of recursions over values.
-- A measure for a walk is `2 * depth (tree_of v)` at a value, and `2 * pairs_depth m + 1` or `2 * items_depth a + 1` at a
-- map or an array; with one more function between a map and its values, three in the place of two.
use Rattle.std.proofs.Common.{◌≡◌, ℕ, zero, suc, ◌≤◌, List, [], ◌∷◌, Some, None, slice_get, ap, arith}
use Rattle.mlr_spec.specs.Tree.{Tree}
use Rattle.mlr_value.specs.Depth.{depth, items_depth, pairs_depth}

pub depth-item : (items : List Tree) (i : ℕ) (item : Tree) → slice_get items i ≡ Some item → depth item ≤ items_depth items
depth-item [] i item at = absurd (let e : None ≡ Some item = at in cc)
depth-item (x ∷ items) zero item at =
    let same : x ≡ item = cc in
    omega (arith, ap depth same)
depth-item (x ∷ items) (suc i) item at = omega (arith, depth-item items i item at)

pub depth-pair : (pairs : List (List ℕ × Tree)) (i : ℕ) (pair : List ℕ × Tree) → slice_get pairs i ≡ Some pair → depth pair.1 ≤ pairs_depth pairs
depth-pair [] i pair at = absurd (let e : None ≡ Some pair = at in cc)
depth-pair (x ∷ pairs) zero pair at =
    let same : x ≡ pair = cc in
    omega (arith, ap (λ p. depth p.1) same)
depth-pair (x ∷ pairs) (suc i) pair at = omega (arith, depth-pair pairs i pair at)
