-- What is found, set and removed at the place of a key.
use Rattle.std.proofs.Common.{◌≡◌, ℕ, zero, suc, ◌<◌, Bool, true, false, List, [], ◌∷◌, ◌++◌, length, map, get_or, set, remove, Option, Some, None, refl, ap, sym, subst, ◌∙◌, arith, cond, inl, inr, slice_get}
use Rattle.std.specs.List.{list_any}
use Rattle.std.specs.Str.{bytes_eq}
use Rattle.std.specs.Cmp.Lexicographic.{nat_list_eq_equiv}
use Rattle.std.proofs.lemmas.Bool.{or_parts, or_from, cases_Bool, cond_both}
use Rattle.mlr_spec.specs.Pairs.{value_at, put_at, remove_at, keys_of, are_distinct}
use Rattle.mlr_spec.proofs.Pairs.{are_distinct-push}
use Rattle.mlr_value.specs.declared.value.Value.{Value}
use Rattle.mlr_value.specs.declared.map_value.Pair.{Pair}
use Rattle.mlr_value.specs.Value.{tree_of}
use Rattle.mlr_keys.specs.Keys.{IsFirst, IsPlaceAmong}
use Rattle.mlr_value.specs.Collections.{pair_of, pairs_of, has_key, IsPlaceOf}

module _ {A : Type 0} (test : A → Bool) where
  pub first-below : (xs : List A) (i : ℕ) → IsFirst test xs i → i < length xs
  first-below [] i h = absurd h
  first-below (x ∷ xs) zero h = omega arith
  first-below (x ∷ xs) (suc i) h = let rest = first-below xs i h.1 in omega arith

module _ {V : Type 0} (key : List ℕ) where
  -- a key without a value is none of the keys
  pub any-absent : (pairs : List (List ℕ × V)) → value_at key pairs ≡ None → list_any (bytes_eq key) (keys_of pairs) ≡ false
  any-absent [] h = refl
  any-absent (p ∷ pairs) h =
      let rest = λ (t : Bool). cond t (Some p.1) (value_at key pairs) in
      elim (cases_Bool (bytes_eq p.0 key)) as (λ _. list_any (bytes_eq key) (keys_of (p ∷ pairs)) ≡ false) [
        | inl y ↦ absurd (let found : Some p.1 ≡ None = sym (ap rest y) ∙ h in cc)
        | inr n ↦ or_from _ _ (nat_list_eq_equiv.symm key p.0 ∙ n) (any-absent pairs (sym (ap rest n) ∙ h))
      ]

module _ (key : List ℕ) where
  pub value_at-absent : (pairs : List Pair) → list_any (has_key key) pairs ≡ false → value_at key (pairs_of pairs) ≡ None
  value_at-absent [] h = refl
  value_at-absent (p ∷ pairs) h =
      let parts = or_parts (has_key key p) (list_any (has_key key) pairs) h in
      rw parts.0 (value_at-absent pairs parts.1)

  pub value_at-first : (pairs : List Pair) (i : ℕ) (d : Pair) → IsFirst (has_key key) pairs i → value_at key (pairs_of pairs) ≡ Some (tree_of (get_or pairs i d).value)
  value_at-first [] i d h = absurd h
  value_at-first (p ∷ pairs) zero d h = rw h refl
  value_at-first (p ∷ pairs) (suc i) d h = rw h.0 (value_at-first pairs i d h.1)

  put_at-first : (value : Value) (pairs : List Pair) (i : ℕ) (d : Pair) → IsFirst (has_key key) pairs i
      → put_at key (tree_of value) (pairs_of pairs) ≡ pairs_of (set pairs i (record { key = (get_or pairs i d).key; value = value }))
  put_at-first value [] i d h = absurd h
  put_at-first value (p ∷ pairs) zero d h = rw h refl
  put_at-first value (p ∷ pairs) (suc i) d h = rw h.0 (ap (λ x. pair_of p ∷ x) (put_at-first value pairs i d h.1))

  -- a value that was written at the place of its key
  pub pairs_of-set : (value : Value) (pairs : List Pair) (i : ℕ) (old : Pair) → old ≡ get_or pairs i old → IsFirst (has_key key) pairs i
      → pairs_of (set pairs i (record { key = old.key; value = value })) ≡ put_at key (tree_of value) (pairs_of pairs)
  pairs_of-set value pairs i old is h =
      ap (λ p. pairs_of (set pairs i (record { key = p.key; value = value }))) is ∙ sym (put_at-first value pairs i old h)

  pub remove_at-absent : (pairs : List Pair) → list_any (has_key key) pairs ≡ false → remove_at key (pairs_of pairs) ≡ pairs_of pairs
  remove_at-absent [] h = refl
  remove_at-absent (p ∷ pairs) h =
      let parts = or_parts (has_key key p) (list_any (has_key key) pairs) h in
      rw parts.0 (ap (λ x. pair_of p ∷ x) (remove_at-absent pairs parts.1))

  pub remove_at-first : (pairs : List Pair) (i : ℕ) → IsFirst (has_key key) pairs i → remove_at key (pairs_of pairs) ≡ pairs_of (remove pairs i)
  remove_at-first [] i h = absurd h
  remove_at-first (p ∷ pairs) zero h = rw h refl
  remove_at-first (p ∷ pairs) (suc i) h = rw h.0 (ap (λ x. pair_of p ∷ x) (remove_at-first pairs i h.1))

  absent-pairs : (pairs : List Pair) → list_any (bytes_eq key) (keys_of (pairs_of pairs)) ≡ false → list_any (has_key key) pairs ≡ false
  absent-pairs [] h = refl
  absent-pairs (p ∷ pairs) h =
      let parts = or_parts (bytes_eq key p.key) (list_any (bytes_eq key) (keys_of (pairs_of pairs))) h in
      or_from _ _ (nat_list_eq_equiv.symm p.key key ∙ parts.0) (absent-pairs pairs parts.1)

  first-pairs : (pairs : List Pair) (i : ℕ) → IsFirst (λ text. bytes_eq text key) (keys_of (pairs_of pairs)) i → IsFirst (has_key key) pairs i
  first-pairs [] i h = h
  first-pairs (p ∷ pairs) zero h = h
  first-pairs (p ∷ pairs) (suc i) h = (h.0, first-pairs pairs i h.1)

  -- the place among the keys is the place of the pair
  pub place-of-pair : (pairs : List Pair) (place : Option ℕ) → IsPlaceAmong key (keys_of (pairs_of pairs)) place → IsPlaceOf key pairs place
  place-of-pair pairs None h = absent-pairs pairs h
  place-of-pair pairs (Some i) h = first-pairs pairs i h

pub slice_get-pair : (pairs : List Pair) (i : ℕ) (pair : Pair) → i < length pairs → pair ≡ get_or pairs i pair → slice_get (pairs_of pairs) i ≡ Some (pair_of pair)
slice_get-pair [] i pair below is = absurd (omega arith)
slice_get-pair (p ∷ pairs) zero pair below is = ap (λ x. Some (pair_of x)) (sym is)
slice_get-pair (p ∷ pairs) (suc i) pair below is = slice_get-pair pairs i pair (omega arith) is

-- a value that was written leaves the keys
pub keys-set : (pairs : List Pair) (i : ℕ) (old : Pair) (value : Value) → old ≡ get_or pairs i old → keys_of (pairs_of (set pairs i (record { key = old.key; value = value }))) ≡ keys_of (pairs_of pairs)
keys-set [] i old value is = refl
keys-set (p ∷ pairs) zero old value is = ap (λ x. x.key ∷ keys_of (pairs_of pairs)) is
keys-set (p ∷ pairs) (suc i) old value is = ap (λ x. p.key ∷ x) (keys-set pairs i old value is)

-- the keys stay distinct where a new one may have been appended
pub distinct-pushed : {V : Type 0} (ok : Bool) (key : List ℕ) (value : V) (pairs new : List (List ℕ × V)) → value_at key pairs ≡ None → are_distinct (keys_of pairs) ≡ true
    → new ≡ cond ok (pairs ++ (key, value) ∷ []) pairs → are_distinct (keys_of new) ≡ true
distinct-pushed ok key value pairs new absent distinct is =
    subst (λ x. are_distinct (keys_of x) ≡ true) (sym is)
    (cond_both ok (pairs ++ (key, value) ∷ []) pairs (λ x. are_distinct (keys_of x) ≡ true) (λ _. are_distinct-push key value pairs absent distinct) (λ _. distinct))

-- the keys of the pairs, as an index knows them
pub keys-are : (pairs : List Pair) → map (λ pair. pair.key) pairs ≡ keys_of (pairs_of pairs)
keys-are [] = refl
keys-are (p ∷ pairs) = ap (λ keys. p.key ∷ keys) (keys-are pairs)
