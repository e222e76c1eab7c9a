-- Values of named fields, changed by one name after another.
use Rattle.std.proofs.Common.{◌≡◌, ℕ, zero, suc, Bool, true, false, not, ◌||◌, cond, List, [], ◌∷◌, set, get_or, take, Some, None, slice_get, refl, ap, ap₂, sym, ◌∙◌}
use Rattle.std.specs.List.{list_any}
use Rattle.std.specs.Str.{bytes_eq}
use Rattle.std.proofs.lemmas.Bool.{or_parts, and_parts, not-true}
use Rattle.std.proofs.lemmas.Slice.Eq.{bytes_eq-Decides}
use Rattle.mlr_event.proofs.Distinct.{bytes_eq-swap}
use Rattle.mlr_event.specs.Reading.{is_among}
use Rattle.mlr_spec.specs.Pairs.{are_distinct, keys_of}
use Rattle.mlr_spec.specs.Tree.{Tree}
use Rattle.verbs_base.specs.Changing.{changed, has_name, with_image}

module _ (change : Tree → Tree) where
  pub changed-none : (pairs : List (List ℕ × Tree)) → changed (is_among []) change pairs ≡ pairs
  changed-none [] = refl
  changed-none (pair ∷ pairs) = ap (λ more. pair ∷ more) (changed-none pairs)

  -- a field that is changed by one name and then by others is changed once
  module _ (once : (value : Tree) → change (change value) ≡ change value) (name : List ℕ) (names : List (List ℕ)) where
    again : (first others : Bool) (value : Tree)
        → cond others (change (cond first (change value) value)) (cond first (change value) value) ≡ cond (first || others) (change value) value
    again true true value = once value
    again true false value = refl
    again false others value = refl

    pub changed-names : (pairs : List (List ℕ × Tree)) → changed (is_among names) change (changed (has_name name) change pairs) ≡ changed (is_among (name ∷ names)) change pairs
    changed-names [] = refl
    changed-names (pair ∷ pairs) =
        ap₂ (λ value more. (pair.0, value) ∷ more) (again (bytes_eq pair.0 name) (is_among names pair.0) pair.1) (changed-names pairs)

  -- no field has the name
  pub changed-absent : (key : List ℕ) (pairs : List (List ℕ × Tree)) → list_any (bytes_eq key) (keys_of pairs) ≡ false → changed (has_name key) change pairs ≡ pairs
  changed-absent key [] none = refl
  changed-absent key (pair ∷ pairs) none =
      let parts = or_parts (bytes_eq key pair.0) (list_any (bytes_eq key) (keys_of pairs)) none in
      ap₂ (λ t more. (pair.0, cond t (change pair.1) pair.1) ∷ more) (bytes_eq-swap pair.0 key ∙ parts.0) (changed-absent key pairs parts.1)

  fails-at : (test : List ℕ → Bool) (pairs : List (List ℕ × Tree)) (i : ℕ) (pair : List ℕ × Tree) → slice_get pairs i ≡ Some pair → list_any test (keys_of pairs) ≡ false → test pair.0 ≡ false
  fails-at test [] i pair at none = absurd (let e : None ≡ Some pair = at in cc)
  fails-at test (p ∷ pairs) zero pair at none = let same : p ≡ pair = cc in ap (λ x. test x.0) (sym same) ∙ (or_parts (test p.0) (list_any test (keys_of pairs)) none).0
  fails-at test (p ∷ pairs) (suc i) pair at none = fails-at test pairs i pair at (or_parts (test p.0) (list_any test (keys_of pairs)) none).1

  -- the field at this place has the name, and no other one has it
  pub changed-at : (key : List ℕ) (pairs : List (List ℕ × Tree)) (i : ℕ) (pair d : List ℕ × Tree) → slice_get pairs i ≡ Some pair → bytes_eq pair.0 key ≡ true → are_distinct (keys_of pairs) ≡ true
      → set pairs i (with_image change (get_or pairs i d)) ≡ changed (has_name key) change pairs
  changed-at key [] i pair d at here distinct = absurd (let e : None ≡ Some pair = at in cc)
  changed-at key (p ∷ pairs) zero pair d at here distinct =
      let same : p ≡ pair = cc in
      let match : bytes_eq p.0 key ≡ true = ap (λ x. bytes_eq x.0 key) same ∙ here in
      let is : p.0 ≡ key = (bytes_eq-Decides p.0 key).0 match in
      let parts = and_parts (not (list_any (bytes_eq p.0) (keys_of pairs))) (are_distinct (keys_of pairs)) distinct in
      let none : list_any (bytes_eq key) (keys_of pairs) ≡ false = ap (λ k. list_any (bytes_eq k) (keys_of pairs)) (sym is) ∙ not-true _ parts.0 in
      ap₂ (λ t more. (p.0, cond t (change p.1) p.1) ∷ more) (sym match) (sym (changed-absent key pairs none))
  changed-at key (p ∷ pairs) (suc i) pair d at here distinct =
      let parts = and_parts (not (list_any (bytes_eq p.0) (keys_of pairs))) (are_distinct (keys_of pairs)) distinct in
      let is : pair.0 ≡ key = (bytes_eq-Decides pair.0 key).0 here in
      let differs : bytes_eq p.0 key ≡ false = ap (bytes_eq p.0) (sym is) ∙ fails-at (bytes_eq p.0) pairs i pair at (not-true _ parts.0) in
      ap₂ (λ t more. (p.0, cond t (change p.1) p.1) ∷ more) (sym differs) (changed-at key pairs i pair d at here parts.1)

-- one more field hasn't the name
pub absent-more : (key : List ℕ) (pairs : List (List ℕ × Tree)) (i : ℕ) (pair : List ℕ × Tree) → slice_get pairs i ≡ Some pair → bytes_eq pair.0 key ≡ false
    → list_any (bytes_eq key) (keys_of (take i pairs)) ≡ false → list_any (bytes_eq key) (keys_of (take (suc i) pairs)) ≡ false
absent-more key [] i pair at differs none = absurd (let e : None ≡ Some pair = at in cc)
absent-more key (p ∷ pairs) zero pair at differs none =
    let same : p ≡ pair = cc in
    ap (λ t. t || false) (bytes_eq-swap key p.0 ∙ ap (λ x. bytes_eq x.0 key) same ∙ differs)
absent-more key (p ∷ pairs) (suc i) pair at differs none =
    let parts = or_parts (bytes_eq key p.0) (list_any (bytes_eq key) (keys_of (take i pairs))) none in
    ap₂ (λ t u. t || u) parts.0 (absent-more key pairs i pair at differs parts.1)
