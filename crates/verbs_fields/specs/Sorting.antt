-- The fields of a record in byte order of their names.
use Rattle.std.specs.Prelude.{ℕ, Bool, if◌then◌else◌, List, [], ◌∷◌}
use Rattle.std.specs.Ordering.{is_lt, nat_cmp}
use Rattle.std.specs.Cmp.Lexicographic.{slice_cmp}
use Rattle.mlr_spec.specs.Tree.{Tree}

-- whether a text precedes another in byte order
abbrev pub is_before : List ℕ → List ℕ → Bool
is_before text other = is_lt (slice_cmp nat_cmp text other)

-- the sorted pairs with one more, after those whose names precede its own
abbrev pub insert_by_name : List ℕ × Tree → List (List ℕ × Tree) → List (List ℕ × Tree)
insert_by_name pair [] = pair ∷ []
insert_by_name pair (other ∷ pairs) =
    if is_before other.0 pair.0 then other ∷ insert_by_name pair pairs else pair ∷ other ∷ pairs

abbrev pub by_name : List (List ℕ × Tree) → List (List ℕ × Tree)
by_name [] = []
by_name (pair ∷ pairs) = insert_by_name pair (by_name pairs)
