-- `regularize` gives each record with the same fields.
use Rattle.std.proofs.Common.{◌≡◌, ℕ, Bool, true, false, cond, ◌||◌, List, [], ◌∷◌, ◌++◌, Option, Some, None, refl, ap, ap₂, sym, ◌∙◌, subst, inl, inr}
use Rattle.std.specs.List.{cons_option, find}
use Rattle.std.specs.List.Sorted.{IsPermutation}
use Rattle.std.specs.Str.{bytes_eq}
use Rattle.std.proofs.lemmas.Bool.{cases_Bool, or_from}
use Rattle.std.proofs.lemmas.List.Sorted.{IsPermutation-cons, IsPermutation-middle, IsPermutation-refl, IsPermutation-trans}
use Rattle.std.proofs.lemmas.Slice.Eq.{bytes_eq-Decides}
use Rattle.mlr_spec.specs.Tree.{Tree}
use Rattle.mlr_spec.specs.Pairs.{are_distinct, keys_of, remove_at, value_at}
use Rattle.mlr_spec.proofs.Pairs.{any_key-removed, are_distinct-remove}
use Rattle.mlr_spec.proofs.Splitting.{cases_Option}
use Rattle.mlr_event.specs.Reading.{is_among}
use Rattle.mlr_event.proofs.Distinct.{bytes_eq-swap}
use Rattle.mlr_event.proofs.Putting.{value_at-free}
use Rattle.mlr_groups.proofs.KeyTexts.{texts_eq-Decides}
use Rattle.verbs_base.specs.Choosing.{named, picked}
use Rattle.verbs_base.specs.Records.{Fields, given_after}
use Rattle.verbs_base.proofs.Picking.{picked-more, value_at-other}
use Rattle.verbs_fields.specs.Sorting.{by_name, insert_by_name, is_before}
use Rattle.verbs_state.specs.Rearranged.{AreRearranged}
use Rattle.verbs_state.specs.Regularize.{has_keys_of, regular, regularize}

-- what is found passes the test
found-passes : {A : Type 0} (test : A → Bool) (xs : List A) (x : A) → find test xs ≡ Some x → test x ≡ true
found-passes test [] x is = absurd (let e : None ≡ Some x = is in cc)
found-passes test (y ∷ xs) x is = elim (cases_Bool (test y)) as (λ _. test x ≡ true) [
  | inl here ↦
      let same : Some y ≡ Some x = sym (ap (λ t. cond t (Some y) (find test xs)) here) ∙ is in
      let it : y ≡ x = cc in
      subst (λ a. test a ≡ true) it here
  | inr not_here ↦ found-passes test xs x (sym (ap (λ t. cond t (Some y) (find test xs)) not_here) ∙ is)
]

-- the pairs with one of them first
pair-first : (name : List ℕ) (value : Tree) (pairs : Fields) → value_at name pairs ≡ Some value → IsPermutation pairs ((name, value) ∷ remove_at name pairs)
pair-first name value [] is = absurd (let e : None ≡ Some value = is in cc)
pair-first name value (p ∷ pairs) is = elim (cases_Bool (bytes_eq p.0 name)) as (λ _. IsPermutation (p ∷ pairs) ((name, value) ∷ remove_at name (p ∷ pairs))) [
  | inl here ↦
      let found : Some p.1 ≡ Some value = sym (ap (λ t. cond t (Some p.1) (value_at name pairs)) here) ∙ is in
      let it : p.1 ≡ value = cc in
      let same : p ≡ (name, value) = ap₂ (λ n v. (n, v)) ((bytes_eq-Decides p.0 name).0 here) it in
      rw here (subst (λ q. IsPermutation (p ∷ pairs) (q ∷ pairs)) same (IsPermutation-refl (p ∷ pairs)))
  | inr other ↦
      let later = pair-first name value pairs (sym (ap (λ t. cond t (Some p.1) (value_at name pairs)) other) ∙ is) in
      let left = remove_at name pairs in
      rw other (
      IsPermutation-trans (p ∷ pairs) (p ∷ (name, value) ∷ left) ((name, value) ∷ p ∷ left)
      (IsPermutation-cons p pairs ((name, value) ∷ left) later) (IsPermutation-middle (p ∷ []) (name, value) left)
      )
]

absent-stays : (name : List ℕ) (pairs : Fields) → value_at name pairs ≡ None → remove_at name pairs ≡ pairs
absent-stays name [] none = refl
absent-stays name (p ∷ pairs) none = elim (cases_Bool (bytes_eq p.0 name)) as (λ _. remove_at name (p ∷ pairs) ≡ p ∷ pairs) [
  | inl here ↦ absurd (let e : Some p.1 ≡ None = sym (ap (λ t. cond t (Some p.1) (value_at name pairs)) here) ∙ none in cc)
  | inr other ↦ rw other (ap (λ more. p ∷ more) (absent-stays name pairs (sym (ap (λ t. cond t (Some p.1) (value_at name pairs)) other) ∙ none)))
]

-- names without which a record has no field
abbrev Cover : List (List ℕ) → Fields → Type 0
Cover names pairs = (key : List ℕ) → is_among names key ≡ false → value_at key pairs ≡ None

cover-left : (name : List ℕ) (names : List (List ℕ)) (pairs : Fields) → are_distinct (keys_of pairs) ≡ true → Cover (name ∷ names) pairs → Cover names (remove_at name pairs)
cover-left name names pairs distinct covers key none = elim (cases_Bool (bytes_eq name key)) as (λ _. value_at key (remove_at name pairs) ≡ None) [
  | inl same ↦ subst (λ k. value_at k (remove_at name pairs) ≡ None) ((bytes_eq-Decides name key).0 same) (value_at-free name (remove_at name pairs) (any_key-removed name pairs distinct))
  | inr apart ↦ value_at-other name key pairs apart ∙ covers key (or_from _ _ (bytes_eq-swap key name ∙ apart) none)
]

picked-permutation : (names : List (List ℕ)) (pairs : Fields) → are_distinct (keys_of pairs) ≡ true → Cover names pairs → IsPermutation pairs (picked names pairs)
picked-permutation [] [] distinct covers = IsPermutation-refl []
picked-permutation [] (p ∷ pairs) distinct covers =
    absurd (let e : Some p.1 ≡ None = sym (ap (λ t. cond t (Some p.1) (value_at p.0 pairs)) ((bytes_eq-Decides p.0 p.0).1 refl)) ∙ covers p.0 refl in cc)
picked-permutation (name ∷ names) pairs distinct covers =
    let left = remove_at name pairs in
    let later : IsPermutation left (picked names left) = picked-permutation names left (are_distinct-remove name pairs distinct) (cover-left name names pairs distinct covers) in
    subst (IsPermutation pairs) (sym (picked-more name pairs distinct names))
    (elim (cases_Option (value_at name pairs)) as (λ _. IsPermutation pairs (cons_option (named pairs name) (picked names (remove_at name pairs)))) [
      | inl none ↦ rw none (subst (λ xs. IsPermutation xs (picked names left)) (absent-stays name pairs none) later)
      | inr found ↦
          rw found.1 (
          IsPermutation-trans pairs ((name, found.0) ∷ left) ((name, found.0) ∷ picked names left) (pair-first name found.0 pairs found.1)
          (IsPermutation-cons (name, found.0) left (picked names left) later)
          )
    ])

module _ (name : List ℕ) where
  swapped : (a b c : Bool) → (a || (b || c)) ≡ (b || (a || c))
  swapped true true c = refl
  swapped true false c = refl
  swapped false b c = refl

  among-inserted : (pair : List ℕ × Tree) (pairs : Fields) → is_among (keys_of (insert_by_name pair pairs)) name ≡ (bytes_eq name pair.0 || is_among (keys_of pairs) name)
  among-inserted pair [] = refl
  among-inserted pair (other ∷ pairs) =
      let so_far = among-inserted pair pairs in
      elim (cases_Bool (is_before other.0 pair.0)) as (λ _. is_among (keys_of (insert_by_name pair (other ∷ pairs))) name ≡ (bytes_eq name pair.0 || is_among (keys_of (other ∷ pairs)) name)) [
        | inl before ↦ rw before (ap (λ t. bytes_eq name other.0 || t) so_far ∙ swapped (bytes_eq name other.0) (bytes_eq name pair.0) (is_among (keys_of pairs) name))
        | inr after ↦ rw after refl
      ]

  among-by_name : (pairs : Fields) → is_among (keys_of (by_name pairs)) name ≡ is_among (keys_of pairs) name
  among-by_name [] = refl
  among-by_name (pair ∷ pairs) = among-inserted pair (by_name pairs) ∙ ap (λ t. bytes_eq name pair.0 || t) (among-by_name pairs)

-- a record with the same names has no other names
same-cover : (first fields : Fields) → has_keys_of fields first ≡ true → Cover (keys_of first) fields
same-cover first fields is name none =
    let same = (texts_eq-Decides (keys_of (by_name fields)) (keys_of (by_name first))).0 is in
    value_at-free name fields (sym (among-by_name name fields) ∙ ap (λ names. is_among names name) same ∙ among-by_name name first ∙ none)

-- a record in the order of the record that was found, if any
abbrev ordered : Option Fields → Fields → Fields
ordered found fields = elim found [ Some first ↦ picked (keys_of first) fields | None ↦ fields ]

regular-permutation : (before : List Fields) (fields : Fields) → are_distinct (keys_of fields) ≡ true → IsPermutation fields (regular before fields)
regular-permutation before fields distinct = elim (cases_Option (find (has_keys_of fields) before)) as (λ _. IsPermutation fields (regular before fields)) [
  | inl none ↦ subst (λ found. IsPermutation fields (ordered found fields)) (sym none) (IsPermutation-refl fields)
  | inr found ↦
      subst (λ first. IsPermutation fields (ordered first fields)) (sym found.1)
      (picked-permutation (keys_of found.0) fields distinct (same-cover found.0 fields (found-passes (has_keys_of fields) before found.0 found.1)))
]

pub given-rearranged : (before given : List Fields) → AreRearranged given (given_after regularize before given)
given-rearranged before [] = tt
given-rearranged before (fields ∷ given) = (regular-permutation before fields, given-rearranged (before ++ fields ∷ []) given)
