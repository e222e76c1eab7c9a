-- How records compare, and what that says of sorted ones.
use Rattle.std.proofs.Common.{◌≡◌, ℕ, zero, suc, ◌+◌, Bool, true, false, not, cond, List, [], ◌∷◌, ◌++◌, drop, get_or, refl, ap, sym, ◌∙◌, add-one}
use Rattle.std.specs.List.{filter}
use Rattle.std.specs.List.Sorted.{IsPermutation}
use Rattle.std.specs.Cmp.{IsTotalOrder, on_total, then_total}
use Rattle.std.specs.Option.{unwrap_or}
use Rattle.std.specs.Bool.{◌==◌}
use Rattle.std.specs.Ordering.{ordering_index, ordering_then}
use Rattle.std.specs.declared.cmp.Ordering.{Ordering}
use Rattle.std.specs.declared.cmp.Ordering.TheVariants.{Less, Equal, Greater}
use Rattle.std.proofs.lemmas.Bool.{true≢false}
use Rattle.std.proofs.lemmas.List.Sorted.{IsPermutation-append, IsPermutation-cons, IsPermutation-middle, IsPermutation-refl, IsPermutation-sym, IsPermutation-trans}
use Rattle.mlr_spec.specs.Order.{order_of, order_total}
use Rattle.mlr_spec.specs.Pairs.{value_at}
use Rattle.mlr_spec.specs.Tree.{Tree, absent}
use Rattle.mlr_spec.specs.declared.arith.Order.{Order}
use Rattle.mlr_sort.specs.InOrder.{in_order}
use Rattle.mlr_sort.proofs.InOrder.{in_order-moves, is-in_order}
use Rattle.verbs_base.specs.Records.{Fields, Row}
use Rattle.verbs_sort.specs.Kept.{HasValues, compare_values, first_of, rest_of, values_in}
use Rattle.verbs_sort.specs.Law.{IsSortedBy}
use Rattle.verbs_sort.specs.Sort.{compare_by, has_keys, sorted_rows}

abbrev Keys : Type 0
Keys = List (Order × List ℕ)

-- any two records compare, and any two lists of values
pub records-total : (keys : Keys) → IsTotalOrder (compare_by keys)
records-total [] = record { antisymm = λ x y. refl; trans = λ x y z h g. h; congr = λ x y z h. refl }
records-total (key ∷ keys) =
    then_total (on_total (λ fields. unwrap_or (value_at key.1 fields) absent) (order_total key.0)) (records-total keys)

pub values-total : (keys : Keys) → IsTotalOrder (compare_values keys)
values-total [] = record { antisymm = λ x y. refl; trans = λ x y z h g. h; congr = λ x y z h. refl }
values-total (key ∷ keys) = then_total (on_total first_of (order_total key.0)) (on_total rest_of (values-total keys))

-- records compare as their values do
pub values-compare : (keys : Keys) (fields other : Fields) → compare_values keys (values_in keys fields) (values_in keys other) ≡ compare_by keys fields other
values-compare [] fields other = refl
values-compare (key ∷ keys) fields other = ap (ordering_then _) (values-compare keys fields other)

-- the values from a place on
first-drop : (i : ℕ) (xs : List Tree) → first_of (drop i xs) ≡ get_or xs i absent
first-drop zero [] = refl
first-drop (suc i) [] = refl
first-drop zero (x ∷ xs) = refl
first-drop (suc i) (x ∷ xs) = first-drop i xs

rest-drop : (i : ℕ) (xs : List Tree) → rest_of (drop i xs) ≡ drop (suc i) xs
rest-drop zero [] = refl
rest-drop (suc i) [] = refl
rest-drop zero (x ∷ xs) = refl
rest-drop (suc i) (x ∷ xs) = rest-drop i xs

module _ {A : Type 0} (test : A → Bool) where
  -- what passes a test, and then what doesn't
  parted-moves : (xs : List A) → IsPermutation xs (filter test xs ++ filter (λ x. not (test x)) xs)
  parted-moves [] = IsPermutation-refl []
  parted-moves (x ∷ xs) = placed (test x) (parted-moves xs)
    where
      placed : (t : Bool) → IsPermutation xs (filter test xs ++ filter (λ x. not (test x)) xs)
          → IsPermutation (x ∷ xs) (cond t (x ∷ filter test xs) (filter test xs) ++ cond (not t) (x ∷ filter (λ x. not (test x)) xs) (filter (λ x. not (test x)) xs))
      placed true rest = IsPermutation-cons x _ _ rest
      placed false rest =
          IsPermutation-trans _ _ _ (IsPermutation-cons x _ _ rest) (IsPermutation-sym _ _ (IsPermutation-middle (filter test xs) x (filter (λ x. not (test x)) xs)))

pub sorted-rows : (keys : Keys) (rows : List Row) → IsSortedBy keys rows (sorted_rows keys rows)
sorted-rows keys rows =
    let cmp = λ (row other : Row). compare_by keys row.0 other.0 in
    let having = filter (λ (row : Row). has_keys keys row.0) rows in
    let lacking = filter (λ (row : Row). not (has_keys keys row.0)) rows in
    record {
      moved = IsPermutation-trans rows (having ++ lacking) (in_order cmp having ++ lacking) (parted-moves (λ (row : Row). has_keys keys row.0) rows) (IsPermutation-append having (in_order cmp having) lacking lacking (in_order-moves cmp having) (IsPermutation-refl lacking));
      first = in_order cmp having;
      parts = refl;
      ordered = is-in_order cmp having (on_total (λ (row : Row). row.0) (records-total keys));
    }

-- the comparison from a place on is that at the place, and then that from the next
pub compare-from : (keys : Keys) (key : Order × List ℕ) (more : Keys) (xs ys : List Tree) (i : ℕ) → keys ≡ key ∷ more
    → compare_values keys (drop i xs) (drop i ys)
    ≡ ordering_then (order_of key.0 (get_or xs i absent) (get_or ys i absent)) (compare_values more (drop (i + 1) xs) (drop (i + 1) ys))
compare-from keys key more xs ys i is =
    ap (λ ks. compare_values ks (drop i xs) (drop i ys)) is
    ∙ (λ j. ordering_then (order_of key.0 (first-drop i xs j) (first-drop i ys j)) (compare_values more (following xs j) (following ys j)))
  where
    following : (zs : List Tree) → rest_of (drop i zs) ≡ drop (i + 1) zs
    following zs = rest-drop i zs ∙ ap (λ n. drop n zs) (sym (add-one i))

-- an order that tells two values apart is that of all, and one that doesn't leaves it to what follows
pub told-apart : (o rest : Ordering) → not (ordering_index o == 1) ≡ true → o ≡ ordering_then o rest
told-apart Less rest apart = refl
told-apart Equal rest apart = absurd (true≢false (sym apart))
told-apart Greater rest apart = refl

pub tied : (o rest : Ordering) → not (ordering_index o == 1) ≡ false → rest ≡ ordering_then o rest
tied Less rest equal = absurd (true≢false equal)
tied Equal rest equal = refl
tied Greater rest equal = absurd (true≢false equal)

-- values compare as lists do that begin and go on as theirs
as-lists : (keys : Keys) (xs ys us vs : List Tree) → first_of xs ≡ first_of us → rest_of xs ≡ rest_of us → first_of ys ≡ first_of vs → rest_of ys ≡ rest_of vs
    → compare_values keys xs ys ≡ compare_values keys us vs
as-lists [] xs ys us vs a b c d = refl
as-lists (key ∷ keys) xs ys us vs a b c d = λ i. ordering_then (order_of key.0 (a i) (c i)) (compare_values keys (b i) (d i))

-- the same of values that are those of these fields
pub as-values : (keys : Keys) (fields other : Fields) (xs ys : List Tree) → HasValues keys fields xs → HasValues keys other ys
    → compare_values keys xs ys ≡ compare_by keys fields other
as-values [] fields other xs ys first second = refl
as-values (key ∷ keys) fields other xs ys first second =
    (λ i. ordering_then (order_of key.0 (first.first i) (second.first i)) (as-lists keys (rest_of xs) (rest_of ys) (values_in keys fields) (values_in keys other) first.second first.more second.second second.more i))
    ∙ ap (ordering_then _) (values-compare keys fields other)
