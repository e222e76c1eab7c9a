-- The keys before a pair.
use Rattle.std.proofs.Common.{◌≡◌, ℕ, zero, suc, Bool, true, false, not, List, [], ◌∷◌, take, Some, None, slice_get, refl, ap, sym, ◌∙◌}
use Rattle.std.specs.List.{list_any}
use Rattle.std.specs.Str.{bytes_eq}
use Rattle.std.proofs.lemmas.Bool.{or_parts, and_parts, not-true}
use Rattle.mlr_spec.specs.Pairs.{value_at, keys_of, are_distinct}

module _ {V : Type 0} where
  -- a key passes no test that none of the keys does
  no_key-at : (test : List ℕ → Bool) (pairs : List (List ℕ × V)) (i : ℕ) (pair : List ℕ × V) → slice_get pairs i ≡ Some pair → list_any test (keys_of pairs) ≡ false → test pair.0 ≡ false
  no_key-at test [] i pair at none = absurd (let e : None ≡ Some pair = at in cc)
  no_key-at test (p ∷ pairs) zero pair at none =
      let same : p ≡ pair = cc in
      ap (λ x. test x.0) (sym same) ∙ (or_parts (test p.0) (list_any test (keys_of pairs)) none).0
  no_key-at test (p ∷ pairs) (suc i) pair at none = no_key-at test pairs i pair at (or_parts (test p.0) (list_any test (keys_of pairs)) none).1

  -- before the pair of a key the key isn't found
  pub value_at-before : (pairs : List (List ℕ × V)) (i : ℕ) (pair : List ℕ × V) → slice_get pairs i ≡ Some pair → are_distinct (keys_of pairs) ≡ true → value_at pair.0 (take i pairs) ≡ None
  value_at-before [] i pair at distinct = absurd (let e : None ≡ Some pair = at in cc)
  value_at-before (p ∷ pairs) zero pair at distinct = refl
  value_at-before (p ∷ pairs) (suc i) pair at distinct =
      let parts = and_parts (not (list_any (bytes_eq p.0) (keys_of pairs))) (are_distinct (keys_of pairs)) distinct in
      rw (no_key-at (bytes_eq p.0) pairs i pair at (not-true _ parts.0)) (value_at-before pairs i pair at parts.1)
