-- Fields that pass a test, and that filtering keeps names distinct.
use Rattle.std.proofs.Common.{◌≡◌, ℕ, Bool, true, false, not, List, [], ◌∷◌, refl, ap, ◌∙◌, inl, inr}
use Rattle.std.specs.List.{list_any, filter}
use Rattle.std.specs.Str.{bytes_eq}
use Rattle.std.proofs.lemmas.Bool.{cases_Bool, and_parts, and_from, or_parts, or_from, not-true, not_from_false, cond_both}
use Rattle.mlr_spec.specs.Tree.{Tree}
use Rattle.mlr_spec.specs.Pairs.{keys_of, are_distinct}
use Rattle.mlr_record.specs.declared.record.Field.{Field}
use Rattle.mlr_record.specs.Fields.{pairs_of, pair_of}

pub any_key-filter : {V : Type 0} (other : List ℕ → Bool) (test : List ℕ × V → Bool) (pairs : List (List ℕ × V)) → list_any other (keys_of pairs) ≡ false → list_any other (keys_of (filter test pairs)) ≡ false
any_key-filter other test [] none = none
any_key-filter other test (p ∷ pairs) none =
    let parts = or_parts (other p.0) (list_any other (keys_of pairs)) none in
    let rest = any_key-filter other test pairs parts.1 in
    cond_both (test p) (p ∷ filter test pairs) (filter test pairs) (λ x. list_any other (keys_of x) ≡ false)
    (λ _. or_from _ _ parts.0 rest) (λ _. rest)

pub are_distinct-filter : {V : Type 0} (test : List ℕ × V → Bool) (pairs : List (List ℕ × V)) → are_distinct (keys_of pairs) ≡ true → are_distinct (keys_of (filter test pairs)) ≡ true
are_distinct-filter test [] distinct = distinct
are_distinct-filter test (p ∷ pairs) distinct =
    let parts = and_parts (not (list_any (bytes_eq p.0) (keys_of pairs))) (are_distinct (keys_of pairs)) distinct in
    let rest = are_distinct-filter test pairs parts.1 in
    cond_both (test p) (p ∷ filter test pairs) (filter test pairs) (λ x. are_distinct (keys_of x) ≡ true)
    (λ _. and_from _ _ (not_from_false _ (any_key-filter (bytes_eq p.0) test pairs (not-true _ parts.0))) rest)
    (λ _. rest)

pub pairs_of-filter : (test : List ℕ × Tree → Bool) (fields : List Field) → pairs_of (filter (λ field. test (pair_of field)) fields) ≡ filter test (pairs_of fields)
pairs_of-filter test [] = refl
pairs_of-filter test (f ∷ fields) =
    elim (cases_Bool (test (pair_of f))) as (λ _. pairs_of (filter (λ field. test (pair_of field)) (f ∷ fields)) ≡ filter test (pairs_of (f ∷ fields))) [
      | inl y ↦ rw y (ap (λ x. pair_of f ∷ x) (pairs_of-filter test fields))
      | inr n ↦ rw n (pairs_of-filter test fields)
    ]

-- the fields of a record that pass a test
pub passed : (test : List ℕ × Tree → Bool) (pairs : List (List ℕ × Tree)) (fields left : List Field) → pairs_of fields ≡ pairs → left ≡ filter (λ field. test (pair_of field)) fields → pairs_of left ≡ filter test pairs
passed test pairs fields left are kept = ap pairs_of kept ∙ pairs_of-filter test fields ∙ ap (filter test) are

pub passed-distinct : (test : List ℕ × Tree → Bool) (pairs : List (List ℕ × Tree)) (fields left : List Field) → pairs_of fields ≡ pairs → left ≡ filter (λ field. test (pair_of field)) fields
    → are_distinct (keys_of pairs) ≡ true → are_distinct (keys_of (pairs_of left)) ≡ true
passed-distinct test pairs fields left are kept distinct =
    ap (λ x. are_distinct (keys_of x)) (passed test pairs fields left are kept) ∙ are_distinct-filter test pairs distinct
