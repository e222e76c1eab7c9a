-- What is found and set at the place of a name in a list of named things, seen as pairs.
use Rattle.std.proofs.Common.{◌≡◌, ℕ, zero, suc, ◌<◌, Bool, true, false, List, [], ◌∷◌, ◌++◌, map, length, take, get_or, set, Some, None, refl, ap, arith, inl, inr}
use Rattle.std.specs.List.{list_any}
use Rattle.std.specs.Str.{bytes_eq}
use Rattle.std.proofs.lemmas.Bool.{or_parts, cases_Bool}
use Rattle.std.proofs.lemmas.Slice.Eq.{bytes_eq-Decides}
use Rattle.mlr_spec.specs.Pairs.{value_at, put_at}

-- of two values that are set at a key the later one stays
pub put_at-twice : {V : Type 0} (key : List ℕ) (first later : V) (pairs : List (List ℕ × V)) → put_at key later (put_at key first pairs) ≡ put_at key later pairs
put_at-twice {V} key first later [] = rw ((bytes_eq-Decides key key).1 refl) refl
put_at-twice {V} key first later (p ∷ pairs) =
    elim (cases_Bool (bytes_eq p.0 key)) as (λ _. put_at key later (put_at key first (p ∷ pairs)) ≡ put_at key later (p ∷ pairs)) [
      | inl same ↦ rw (same, same) refl
      | inr other ↦ rw (other, other) (ap (λ x. p ∷ x) (put_at-twice key first later pairs))
    ]

module _ {A V : Type 0} (name_of : A → List ℕ) (value_of : A → V) where
  abbrev pub paired : List A → List (List ℕ × V)
  paired xs = map (λ x. (name_of x, value_of x)) xs

  abbrev pub is_named : List ℕ → A → Bool
  is_named key x = bytes_eq (name_of x) key

  pub named-absent : (key : List ℕ) (xs : List A) → list_any (is_named key) xs ≡ false → value_at key (paired xs) ≡ None
  named-absent key [] h = refl
  named-absent key (x ∷ xs) h =
      let parts = or_parts (is_named key x) (list_any (is_named key) xs) h in
      rw parts.0 (named-absent key xs parts.1)

  pub put-absent : (key : List ℕ) (value : V) (xs : List A) → list_any (is_named key) xs ≡ false → put_at key value (paired xs) ≡ paired xs ++ (key, value) ∷ []
  put-absent key value [] h = refl
  put-absent key value (x ∷ xs) h =
      let parts = or_parts (is_named key x) (list_any (is_named key) xs) h in
      rw parts.0 (ap (λ y. (name_of x, value_of x) ∷ y) (put-absent key value xs parts.1))

  pub named-at : (key : List ℕ) (xs : List A) (i : ℕ) (d : A) → i < length xs → list_any (is_named key) (take i xs) ≡ false → is_named key (get_or xs i d) ≡ true
      → value_at key (paired xs) ≡ Some (value_of (get_or xs i d))
  named-at key [] i d below before here = absurd (omega arith)
  named-at key (x ∷ xs) zero d below before here = rw here refl
  named-at key (x ∷ xs) (suc i) d below before here =
      let parts = or_parts (is_named key x) (list_any (is_named key) (take i xs)) before in
      rw parts.0 (named-at key xs i d (omega arith) parts.1 here)

  pub put-in_place : (key : List ℕ) (xs : List A) (i : ℕ) (d y : A) → i < length xs → list_any (is_named key) (take i xs) ≡ false → is_named key (get_or xs i d) ≡ true → name_of y ≡ name_of (get_or xs i d)
      → paired (set xs i y) ≡ put_at key (value_of y) (paired xs)
  put-in_place key [] i d y below before here same = absurd (omega arith)
  put-in_place key (x ∷ xs) zero d y below before here same = rw here (ap (λ name. (name, value_of y) ∷ paired xs) same)
  put-in_place key (x ∷ xs) (suc i) d y below before here same =
      let parts = or_parts (is_named key x) (list_any (is_named key) (take i xs)) before in
      rw parts.0 (ap (λ z. (name_of x, value_of x) ∷ z) (put-in_place key xs i d y (omega arith) parts.1 here same))
