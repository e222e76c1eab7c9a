-- Keys stay distinct where a pair is set, removed or renamed.
use Rattle.std.proofs.Common.{◌≡◌, ℕ, Bool, true, false, cond, not, ◌||◌, List, [], ◌∷◌, ◌++◌, Some, None, refl, ap, sym, subst, inl, inr, ◌∙◌}
use Rattle.std.specs.List.{list_any}
use Rattle.std.specs.Str.{bytes_eq}
use Rattle.std.specs.Option.{is_none}
use Rattle.std.proofs.lemmas.Bool.{or_parts, or_from, and_parts, and_from, and_right, cond_both, cases_Bool, not-true, not_from_false}
use Rattle.std.proofs.lemmas.List.Folds.{list_any-append}
use Rattle.std.proofs.lemmas.Slice.Eq.{bytes_eq-Decides}
use Rattle.std.specs.Cmp.Lexicographic.{nat_list_eq_equiv}
use Rattle.mlr_spec.specs.Pairs.{value_at, put_at, remove_at, with_name, rename_at, keys_of, are_distinct}

-- a key that is in a list, added at its start, is in it twice
pub are_distinct-twice : (key : List ℕ) (keys more : List (List ℕ)) → list_any (λ k. bytes_eq k key) keys ≡ true → are_distinct (keys ++ key ∷ more) ≡ false
are_distinct-twice key [] more h = absurd (let e : false ≡ true = h in cc)
are_distinct-twice key (k ∷ keys) more h =
    elim (cases_Bool (bytes_eq k key)) as (λ _. are_distinct ((k ∷ keys) ++ key ∷ more) ≡ false) [
      | inl y ↦
          let here : list_any (bytes_eq k) (key ∷ more) ≡ true = rw y refl in
          let there : list_any (bytes_eq k) (keys ++ key ∷ more) ≡ true = list_any-append (bytes_eq k) keys (key ∷ more) ∙ rw here (or-true (list_any (bytes_eq k) keys)) in
          rw there refl
      | inr n ↦
          let later : list_any (λ k. bytes_eq k key) keys ≡ true = ap (λ t. t || list_any (λ k. bytes_eq k key) keys) (sym n) ∙ h in
          and_right _ _ (are_distinct-twice key keys more later)
    ]
  where
    or-true : (b : Bool) → (b || true) ≡ true
    or-true true = refl
    or-true false = refl

module _ {V : Type 0} where
  any_key-put : (test : List ℕ → Bool) (key : List ℕ) (value : V) (pairs : List (List ℕ × V)) → test key ≡ false → list_any test (keys_of pairs) ≡ false → list_any test (keys_of (put_at key value pairs)) ≡ false
  any_key-put test key value [] at_key absent = rw at_key refl
  any_key-put test key value (p ∷ pairs) at_key absent =
      let parts = or_parts (test p.0) (list_any test (keys_of pairs)) absent in
      cond_both (bytes_eq p.0 key) ((p.0, value) ∷ pairs) (p ∷ put_at key value pairs) (λ x. list_any test (keys_of x) ≡ false)
      (λ _. absent) (λ _. rw parts.0 (any_key-put test key value pairs at_key parts.1))

  pub are_distinct-put : (key : List ℕ) (value : V) (pairs : List (List ℕ × V)) → are_distinct (keys_of pairs) ≡ true → are_distinct (keys_of (put_at key value pairs)) ≡ true
  are_distinct-put key value [] h = refl
  are_distinct-put key value (p ∷ pairs) h =
      let parts = and_parts (not (list_any (bytes_eq p.0) (keys_of pairs))) (are_distinct (keys_of pairs)) h in
      cond_both (bytes_eq p.0 key) ((p.0, value) ∷ pairs) (p ∷ put_at key value pairs) (λ x. are_distinct (keys_of x) ≡ true)
      (λ _. h)
      (λ other. and_from _ _ (not_from_false _ (any_key-put (bytes_eq p.0) key value pairs other (not-true _ parts.0))) (are_distinct-put key value pairs parts.1))

  -- a key that isn't there goes last
  pub put_at-none : (key : List ℕ) (value : V) (pairs : List (List ℕ × V)) → value_at key pairs ≡ None → put_at key value pairs ≡ pairs ++ (key, value) ∷ []
  put_at-none key value [] h = refl
  put_at-none key value (p ∷ pairs) h =
      elim (cases_Bool (bytes_eq p.0 key)) as (λ _. put_at key value (p ∷ pairs) ≡ p ∷ (pairs ++ (key, value) ∷ [])) [
        | inl y ↦ absurd (let found : Some p.1 ≡ None = sym (ap (λ t. cond t (Some p.1) (value_at key pairs)) y) ∙ h in cc)
        | inr n ↦
            let rest = sym (ap (λ t. cond t (Some p.1) (value_at key pairs)) n) ∙ h in
            rw n (ap (λ x. p ∷ x) (put_at-none key value pairs rest))
      ]

  pub are_distinct-push : (key : List ℕ) (value : V) (pairs : List (List ℕ × V)) → value_at key pairs ≡ None → are_distinct (keys_of pairs) ≡ true → are_distinct (keys_of (pairs ++ (key, value) ∷ [])) ≡ true
  are_distinct-push key value pairs absent distinct =
      subst (λ x. are_distinct (keys_of x) ≡ true) (put_at-none key value pairs absent) (are_distinct-put key value pairs distinct)

  -- a key that is found is among the keys
  pub any_key-found : (key : List ℕ) (pairs : List (List ℕ × V)) → is_none (value_at key pairs) ≡ false → list_any (λ k. bytes_eq k key) (keys_of pairs) ≡ true
  any_key-found key [] h = absurd (let e : true ≡ false = h in cc)
  any_key-found key (p ∷ pairs) h =
      elim (cases_Bool (bytes_eq p.0 key)) as (λ _. list_any (λ k. bytes_eq k key) (keys_of (p ∷ pairs)) ≡ true) [
        | inl y ↦ rw y refl
        | inr n ↦
            let rest = sym (ap (λ t. is_none (cond t (Some p.1) (value_at key pairs))) n) ∙ h in
            rw n (any_key-found key pairs rest)
      ]

  -- a pair that is taken out brings no key in
  any_key-remove : (test : List ℕ → Bool) (key : List ℕ) (pairs : List (List ℕ × V)) → list_any test (keys_of pairs) ≡ false → list_any test (keys_of (remove_at key pairs)) ≡ false
  any_key-remove test key [] absent = absent
  any_key-remove test key (p ∷ pairs) absent =
      let parts = or_parts (test p.0) (list_any test (keys_of pairs)) absent in
      cond_both (bytes_eq p.0 key) pairs (p ∷ remove_at key pairs) (λ x. list_any test (keys_of x) ≡ false)
      (λ _. parts.1) (λ _. rw parts.0 (any_key-remove test key pairs parts.1))

  pub are_distinct-remove : (key : List ℕ) (pairs : List (List ℕ × V)) → are_distinct (keys_of pairs) ≡ true → are_distinct (keys_of (remove_at key pairs)) ≡ true
  are_distinct-remove key [] h = h
  are_distinct-remove key (p ∷ pairs) h =
      let parts = and_parts (not (list_any (bytes_eq p.0) (keys_of pairs))) (are_distinct (keys_of pairs)) h in
      cond_both (bytes_eq p.0 key) pairs (p ∷ remove_at key pairs) (λ x. are_distinct (keys_of x) ≡ true)
      (λ _. parts.1)
      (λ _. and_from _ _ (not_from_false _ (any_key-remove (bytes_eq p.0) key pairs (not-true _ parts.0))) (are_distinct-remove key pairs parts.1))

  -- a key that was taken out is there no more
  pub any_key-removed : (key : List ℕ) (pairs : List (List ℕ × V)) → are_distinct (keys_of pairs) ≡ true → list_any (bytes_eq key) (keys_of (remove_at key pairs)) ≡ false
  any_key-removed key [] h = refl
  any_key-removed key (p ∷ pairs) h =
      let parts = and_parts (not (list_any (bytes_eq p.0) (keys_of pairs))) (are_distinct (keys_of pairs)) h in
      cond_both (bytes_eq p.0 key) pairs (p ∷ remove_at key pairs) (λ x. list_any (bytes_eq key) (keys_of x) ≡ false)
      (λ same. subst (λ k. list_any (bytes_eq k) (keys_of pairs) ≡ false) ((bytes_eq-Decides p.0 key).0 same) (not-true _ parts.0))
      (λ other. or_from _ _ (nat_list_eq_equiv.symm key p.0 ∙ other) (any_key-removed key pairs parts.1))

  -- a key that is set first is removed elsewhere
  pub are_distinct-first : (key : List ℕ) (value : V) (pairs : List (List ℕ × V)) → are_distinct (keys_of pairs) ≡ true → are_distinct (keys_of ((key, value) ∷ remove_at key pairs)) ≡ true
  are_distinct-first key value pairs h = and_from _ _ (not_from_false _ (any_key-removed key pairs h)) (are_distinct-remove key pairs h)

  any_key-name : (test : List ℕ → Bool) (old new : List ℕ) (pairs : List (List ℕ × V)) → test new ≡ false → list_any test (keys_of pairs) ≡ false → list_any test (keys_of (with_name old new pairs)) ≡ false
  any_key-name test old new [] at_new absent = absent
  any_key-name test old new (p ∷ pairs) at_new absent =
      let parts = or_parts (test p.0) (list_any test (keys_of pairs)) absent in
      cond_both (bytes_eq p.0 old) ((new, p.1) ∷ pairs) (p ∷ with_name old new pairs) (λ x. list_any test (keys_of x) ≡ false)
      (λ _. or_from _ _ at_new parts.1) (λ _. or_from _ _ parts.0 (any_key-name test old new pairs at_new parts.1))

  -- a name that no pair has
  pub are_distinct-name : (old new : List ℕ) (pairs : List (List ℕ × V)) → list_any (bytes_eq new) (keys_of pairs) ≡ false → are_distinct (keys_of pairs) ≡ true → are_distinct (keys_of (with_name old new pairs)) ≡ true
  are_distinct-name old new [] absent h = h
  are_distinct-name old new (p ∷ pairs) absent h =
      let parts = and_parts (not (list_any (bytes_eq p.0) (keys_of pairs))) (are_distinct (keys_of pairs)) h in
      let apart = or_parts (bytes_eq new p.0) (list_any (bytes_eq new) (keys_of pairs)) absent in
      cond_both (bytes_eq p.0 old) ((new, p.1) ∷ pairs) (p ∷ with_name old new pairs) (λ x. are_distinct (keys_of x) ≡ true)
      (λ _. and_from _ _ (not_from_false _ apart.1) parts.1)
      (λ _. and_from _ _
      (not_from_false _ (any_key-name (bytes_eq p.0) old new pairs (nat_list_eq_equiv.symm p.0 new ∙ apart.0) (not-true _ parts.0)))
      (are_distinct-name old new pairs apart.1 parts.1))

  pub are_distinct-rename : (old new : List ℕ) (pairs : List (List ℕ × V)) → are_distinct (keys_of pairs) ≡ true → are_distinct (keys_of (rename_at old new pairs)) ≡ true
  are_distinct-rename old new pairs h =
      cond_both (bytes_eq old new || is_none (value_at old pairs)) pairs (with_name old new (remove_at new pairs)) (λ x. are_distinct (keys_of x) ≡ true)
      (λ _. h)
      (λ _. are_distinct-name old new (remove_at new pairs) (any_key-removed new pairs h) (are_distinct-remove new pairs h))
