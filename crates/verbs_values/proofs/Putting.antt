-- Pairs that are set one after another, and then set again after others.
use Rattle.std.proofs.Common.{◌≡◌, ℕ, Bool, true, false, cond, not, ◌||◌, List, [], ◌∷◌, refl, ap, sym, ◌∙◌, inl, inr}
use Rattle.std.specs.List.{list_any}
use Rattle.std.specs.Str.{bytes_eq}
use Rattle.std.proofs.lemmas.Bool.{and_parts, or_parts, cases_Bool, not-true, true≢false}
use Rattle.std.proofs.lemmas.Slice.Eq.{bytes_eq-Decides}
use Rattle.std.specs.Cmp.Lexicographic.{nat_list_eq_equiv}
use Rattle.mlr_spec.specs.Pairs.{put_at, put_each, keys_of, are_distinct}
use Rattle.mlr_spec.proofs.Pairs.{are_distinct-put}

apart : (key other name : List ℕ) → bytes_eq name key ≡ true → bytes_eq other key ≡ false → bytes_eq name other ≡ false
apart key other name same differs =
    ap (λ n. bytes_eq n other) ((bytes_eq-Decides name key).0 same) ∙ nat_list_eq_equiv.symm key other ∙ differs

module _ {V : Type 0} where
  abbrev has : List ℕ → List (List ℕ × V) → Bool
  has key pairs = list_any (λ pair. bytes_eq pair.0 key) pairs

  has-following : (key : List ℕ) (p : List ℕ × V) (before after : List (List ℕ × V)) → (has key before ≡ true → has key after ≡ true) → has key (p ∷ before) ≡ true → has key (p ∷ after) ≡ true
  has-following key p before after kept h =
      elim (cases_Bool (bytes_eq p.0 key)) as (λ _. has key (p ∷ after) ≡ true) [
        | inl here ↦ ap (λ t. t || has key after) here
        | inr later ↦ ap (λ t. t || has key after) later ∙ kept (sym (ap (λ t. t || has key before) later) ∙ h)
      ]

  has-put : (key other : List ℕ) (value : V) (pairs : List (List ℕ × V)) → has key pairs ≡ true → has key (put_at other value pairs) ≡ true
  has-put key other value [] h = absurd (true≢false (sym h))
  has-put key other value (p ∷ pairs) h =
      elim (cases_Bool (bytes_eq p.0 other)) as (λ _. has key (put_at other value (p ∷ pairs)) ≡ true) [
        | inl same ↦ ap (λ t. has key (cond t ((p.0, value) ∷ pairs) (p ∷ put_at other value pairs))) same ∙ h
        | inr differs ↦ ap (λ t. has key (cond t ((p.0, value) ∷ pairs) (p ∷ put_at other value pairs))) differs ∙ has-following key p pairs (put_at other value pairs) (has-put key other value pairs) h
      ]

  -- a key that was set is there
  has-itself : (key : List ℕ) (value : V) (pairs : List (List ℕ × V)) → has key (put_at key value pairs) ≡ true
  has-itself key value [] = ap (λ t. t || false) (equal key)
    where
      equal : (k : List ℕ) → bytes_eq k k ≡ true
      equal k = nat_list_eq_equiv.refl k
  has-itself key value (p ∷ pairs) =
      elim (cases_Bool (bytes_eq p.0 key)) as (λ _. has key (put_at key value (p ∷ pairs)) ≡ true) [
        | inl same ↦ ap (λ t. has key (cond t ((p.0, value) ∷ pairs) (p ∷ put_at key value pairs))) same ∙ ap (λ t. t || has key pairs) same
        | inr differs ↦ ap (λ t. has key (cond t ((p.0, value) ∷ pairs) (p ∷ put_at key value pairs))) differs ∙ ap (λ t. t || has key (put_at key value pairs)) differs ∙ has-itself key value pairs
      ]

  -- the later value of a key replaces the earlier
  put-twice : (key : List ℕ) (value later : V) (pairs : List (List ℕ × V)) → put_at key later (put_at key value pairs) ≡ put_at key later pairs
  put-twice key value later [] = rw (nat_list_eq_equiv.refl key) refl
  put-twice key value later (p ∷ pairs) =
      elim (cases_Bool (bytes_eq p.0 key)) as (λ _. put_at key later (put_at key value (p ∷ pairs)) ≡ put_at key later (p ∷ pairs)) [
        | inl same ↦ rw (same, same) refl
        | inr differs ↦ rw (differs, differs) (ap (λ x. p ∷ x) (put-twice key value later pairs))
      ]

  -- a key that is there and another one may be set in either order
  put-either : (key other : List ℕ) (value beside : V) (pairs : List (List ℕ × V)) → has key pairs ≡ true → bytes_eq other key ≡ false
      → put_at key value (put_at other beside pairs) ≡ put_at other beside (put_at key value pairs)
  put-either key other value beside [] h differs = absurd (true≢false (sym h))
  put-either key other value beside (p ∷ pairs) h differs =
      elim (cases_Bool (bytes_eq p.0 key)) as (λ _. put_at key value (put_at other beside (p ∷ pairs)) ≡ put_at other beside (put_at key value (p ∷ pairs))) [
        | inl here ↦ let away = apart key other p.0 here differs in rw (away, here, away) refl
        | inr not_here ↦ elim (cases_Bool (bytes_eq p.0 other)) as (λ _. put_at key value (put_at other beside (p ∷ pairs)) ≡ put_at other beside (put_at key value (p ∷ pairs))) [
          | inl there ↦ rw (there, not_here, there) refl
          | inr not_there ↦ rw (not_there, not_here, not_there) (ap (λ x. p ∷ x) (put-either key other value beside pairs (sym (ap (λ t. t || has key pairs) not_here) ∙ h) differs))
        ]
      ]

  -- a key that is there already may be set before other keys
  put-before : (key : List ℕ) (value : V) (into pairs : List (List ℕ × V)) → has key into ≡ true → list_any (bytes_eq key) (keys_of pairs) ≡ false
      → put_each (put_at key value into) pairs ≡ put_at key value (put_each into pairs)
  put-before key value into [] h absent = refl
  put-before key value into (p ∷ pairs) h absent =
      let parts = or_parts (bytes_eq key p.0) (list_any (bytes_eq key) (keys_of pairs)) absent in
      ap (λ x. put_each x pairs) (sym (put-either key p.0 value p.1 into h (nat_list_eq_equiv.symm p.0 key ∙ parts.0)))
      ∙ put-before key value (put_at p.0 p.1 into) pairs (has-put key p.0 p.1 into h) parts.1

  -- a pair set among pairs with distinct keys may be set after them instead
  put_each-put : (key : List ℕ) (value : V) (into pairs : List (List ℕ × V)) → are_distinct (keys_of pairs) ≡ true
      → put_each into (put_at key value pairs) ≡ put_at key value (put_each into pairs)
  put_each-put key value into [] distinct = refl
  put_each-put key value into (p ∷ pairs) distinct =
      let parts = and_parts (not (list_any (bytes_eq p.0) (keys_of pairs))) (are_distinct (keys_of pairs)) distinct in
      elim (cases_Bool (bytes_eq p.0 key)) as (λ _. put_each into (put_at key value (p ∷ pairs)) ≡ put_at key value (put_each into (p ∷ pairs))) [
        | inl same ↦
            let is = (bytes_eq-Decides p.0 key).0 same in
            ap (λ t. put_each into (cond t ((p.0, value) ∷ pairs) (p ∷ put_at key value pairs))) same
            ∙ ap (λ x. put_each x pairs) (sym (put-twice p.0 p.1 value into))
            ∙ put-before p.0 value (put_at p.0 p.1 into) pairs (has-itself p.0 p.1 into) (not-true _ parts.0)
            ∙ ap (λ k. put_at k value (put_each (put_at p.0 p.1 into) pairs)) is
        | inr differs ↦
            ap (λ t. put_each into (cond t ((p.0, value) ∷ pairs) (p ∷ put_at key value pairs))) differs
            ∙ put_each-put key value (put_at p.0 p.1 into) pairs parts.1
      ]

  -- pairs may be set in a list with distinct keys and then in another list, or at once
  put_each-put_each : (into before pairs : List (List ℕ × V)) → are_distinct (keys_of before) ≡ true
      → put_each into (put_each before pairs) ≡ put_each (put_each into before) pairs
  put_each-put_each into before [] distinct = refl
  put_each-put_each into before (p ∷ pairs) distinct =
      put_each-put_each into (put_at p.0 p.1 before) pairs (are_distinct-put p.0 p.1 before distinct)
      ∙ ap (λ x. put_each x pairs) (put_each-put p.0 p.1 into before distinct)

  pub put_each-again : (into pairs : List (List ℕ × V)) → put_each into (put_each [] pairs) ≡ put_each into pairs
  put_each-again into pairs = put_each-put_each into [] pairs refl
