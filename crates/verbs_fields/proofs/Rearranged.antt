-- Fields that are moved are the same fields.
use Rattle.std.proofs.Common.{◌≡◌, ℕ, true, cond, List, [], ◌∷◌, ◌++◌, Some, None, refl, ap, ap₂, sym, subst, ◌∙◌, inl, inr}
use Rattle.std.specs.List.{cons_option}
use Rattle.std.specs.List.Sorted.{IsPermutation}
use Rattle.std.specs.Option.{option_map}
use Rattle.std.specs.Str.{bytes_eq}
use Rattle.std.proofs.lemmas.Bool.{cases_Bool, cond_both}
use Rattle.std.proofs.lemmas.List.Sorted.{IsPermutation-refl, IsPermutation-trans, IsPermutation-cons, IsPermutation-append_comm, IsPermutation-append_left}
use Rattle.std.proofs.lemmas.Slice.Eq.{bytes_eq-Decides}
use Rattle.mlr_spec.specs.Tree.{Tree}
use Rattle.mlr_spec.specs.Pairs.{value_at, remove_at, keys_of, are_distinct}
use Rattle.mlr_spec.proofs.Pairs.{are_distinct-remove}
use Rattle.mlr_spec.proofs.Splitting.{cases_Option}
use Rattle.verbs_base.specs.Choosing.{named, picked, dropped}
use Rattle.verbs_base.proofs.Picking.{picked-more, dropped-more, dropped-none}
use Rattle.verbs_fields.specs.declared.reorder.Reorder.{Reorder}
use Rattle.verbs_fields.specs.Reorder.{reorder}
use Rattle.verbs_fields.specs.Sorting.{is_before, insert_by_name, by_name}

abbrev Pair : Type 0
Pair = List ℕ × Tree

exchanged : (p q : Pair) (pairs : List Pair) → IsPermutation (p ∷ q ∷ pairs) (q ∷ p ∷ pairs)
exchanged p q pairs = IsPermutation-append_left pairs (p ∷ q ∷ []) (q ∷ p ∷ []) (IsPermutation-append_comm (p ∷ []) (q ∷ []))

-- a pair that is inserted is one more pair
inserted-moved : (pair : Pair) (pairs : List Pair) → IsPermutation (pair ∷ pairs) (insert_by_name pair pairs)
inserted-moved pair [] = IsPermutation-refl (pair ∷ [])
inserted-moved pair (other ∷ pairs) =
    cond_both (is_before other.0 pair.0) (other ∷ insert_by_name pair pairs) (pair ∷ other ∷ pairs) (IsPermutation (pair ∷ other ∷ pairs))
    (λ _. IsPermutation-trans (pair ∷ other ∷ pairs) (other ∷ pair ∷ pairs) (other ∷ insert_by_name pair pairs) (exchanged pair other pairs)
    (IsPermutation-cons other (pair ∷ pairs) (insert_by_name pair pairs) (inserted-moved pair pairs)))
    (λ _. IsPermutation-refl (pair ∷ other ∷ pairs))

pub by_name-moved : (pairs : List Pair) → IsPermutation pairs (by_name pairs)
by_name-moved [] = IsPermutation-refl []
by_name-moved (pair ∷ pairs) =
    IsPermutation-trans (pair ∷ pairs) (pair ∷ by_name pairs) (insert_by_name pair (by_name pairs))
    (IsPermutation-cons pair pairs (by_name pairs) (by_name-moved pairs)) (inserted-moved pair (by_name pairs))

-- removing a name that is missing changes nothing
removed-missing : (name : List ℕ) (pairs : List Pair) → value_at name pairs ≡ None → remove_at name pairs ≡ pairs
removed-missing name [] missing = refl
removed-missing name (p ∷ pairs) missing =
    elim (cases_Bool (bytes_eq p.0 name)) as (λ _. remove_at name (p ∷ pairs) ≡ p ∷ pairs) [
      | inl here ↦ absurd (let e : Some p.1 ≡ None = sym (ap (λ t. cond t (Some p.1) (value_at name pairs)) here) ∙ missing in cc)
      | inr other ↦
          ap (λ t. cond t pairs (p ∷ remove_at name pairs)) other
          ∙ ap (λ x. p ∷ x) (removed-missing name pairs (sym (ap (λ t. cond t (Some p.1) (value_at name pairs)) other) ∙ missing))
    ]

-- a field that is found, and the others
found-moved : (name : List ℕ) (value : Tree) (pairs : List Pair) → value_at name pairs ≡ Some value → IsPermutation pairs ((name, value) ∷ remove_at name pairs)
found-moved name value [] found = absurd (let e : None ≡ Some value = found in cc)
found-moved name value (p ∷ pairs) found =
    elim (cases_Bool (bytes_eq p.0 name)) as (λ _. IsPermutation (p ∷ pairs) ((name, value) ∷ remove_at name (p ∷ pairs))) [
      | inl here ↦
          let is : Some p.1 ≡ Some value = sym (ap (λ t. cond t (Some p.1) (value_at name pairs)) here) ∙ found in
          let same : p.1 ≡ value = cc in
          subst (IsPermutation (p ∷ pairs)) (ap₂ (λ n v. (n, v) ∷ pairs) ((bytes_eq-Decides p.0 name).0 here) same ∙ ap (λ t. (name, value) ∷ cond t pairs (p ∷ remove_at name pairs)) (sym here))
          (IsPermutation-refl (p ∷ pairs))
      | inr other ↦
          let rest = remove_at name pairs in
          let later : value_at name pairs ≡ Some value = sym (ap (λ t. cond t (Some p.1) (value_at name pairs)) other) ∙ found in
          subst (IsPermutation (p ∷ pairs)) (ap (λ t. (name, value) ∷ cond t pairs (p ∷ rest)) (sym other))
          (IsPermutation-trans (p ∷ pairs) (p ∷ (name, value) ∷ rest) ((name, value) ∷ p ∷ rest)
          (IsPermutation-cons p pairs ((name, value) ∷ rest) (found-moved name value pairs later))
          (exchanged p (name, value) rest))
    ]

-- the named fields and the others are all fields
pub named-first-moved : (names : List (List ℕ)) (pairs : List Pair) → are_distinct (keys_of pairs) ≡ true → IsPermutation pairs (picked names pairs ++ dropped names pairs)
named-first-moved [] pairs distinct = subst (IsPermutation pairs) (sym (dropped-none pairs)) (IsPermutation-refl pairs)
named-first-moved (name ∷ names) pairs distinct =
    let rest = remove_at name pairs in
    let following : IsPermutation rest (picked names rest ++ dropped names rest) = named-first-moved names rest (are_distinct-remove name pairs distinct) in
    let whole : picked (name ∷ names) pairs ++ dropped (name ∷ names) pairs ≡ cons_option (named pairs name) (picked names rest) ++ dropped names rest =
    ap₂ (λ x y. x ++ y) (picked-more name pairs distinct names) (dropped-more name names pairs distinct) in
    subst (IsPermutation pairs) (sym whole) (
    elim (cases_Option (value_at name pairs)) as (λ _. IsPermutation pairs (cons_option (named pairs name) (picked names rest) ++ dropped names rest)) [
      | inl none ↦
          subst (IsPermutation pairs) (ap (λ found. cons_option (option_map (λ value. (name, value)) found) (picked names rest) ++ dropped names rest) (sym none))
          (subst (λ x. IsPermutation x (picked names rest ++ dropped names rest)) (removed-missing name pairs none) following)
      | inr found ↦
          subst (IsPermutation pairs) (ap (λ found. cons_option (option_map (λ value. (name, value)) found) (picked names rest) ++ dropped names rest) (sym found.1))
          (IsPermutation-trans pairs ((name, found.0) ∷ rest) ((name, found.0) ∷ (picked names rest ++ dropped names rest)) (found-moved name found.0 pairs found.1)
          (IsPermutation-cons (name, found.0) rest (picked names rest ++ dropped names rest) following))
    ])

pub reorder-moved : (verb : Reorder) (pairs : List Pair) → are_distinct (keys_of pairs) ≡ true → IsPermutation pairs (reorder verb pairs)
reorder-moved verb pairs distinct =
    let first = picked verb.names pairs in
    let others = dropped verb.names pairs in
    let moved = named-first-moved verb.names pairs distinct in
    cond_both verb.last (others ++ first) (first ++ others) (IsPermutation pairs)
    (λ _. IsPermutation-trans pairs (first ++ others) (others ++ first) moved (IsPermutation-append_comm first others)) (λ _. moved)
