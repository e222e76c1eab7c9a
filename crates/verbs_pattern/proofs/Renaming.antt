-- Fields are renamed in place, one after another.
use Rattle.std.proofs.Common.{◌≡◌, ℕ, zero, suc, ◌+◌, ◌<◌, ◌≤◌, Bool, true, false, not, cond, ◌||◌, List, [], ◌∷◌, ◌++◌, length, take, drop, get_or, Some, None, refl, sym, ap, ap₂, ◌∙◌, subst, arith, add-one, inl, inr}
use Rattle.std.specs.List.{list_any, position_or_len}
use Rattle.std.specs.Option.{is_none}
use Rattle.std.specs.Str.{bytes_eq}
use Rattle.std.specs.Prelude.{nat_lt}
use Rattle.std.proofs.lemmas.Bool.{and_parts, cases_Bool, cond-false, cond-true, cond_both, ltb-false, not-true, or_from, or_left, or_parts, or_right}
use Rattle.std.proofs.lemmas.List.{drop_more, length-drop, length-take-le, take_more}
use Rattle.std.proofs.lemmas.List.Folds.{list_any-append}
use Rattle.std.proofs.lemmas.Option.{same_Some}
use Rattle.std.proofs.lemmas.Slice.Eq.{bytes_eq-Decides}
use Rattle.mlr_spec.specs.Pairs.{value_at, remove_at, place_at, with_name, rename_at, keys_of, are_distinct}
use Rattle.mlr_spec.specs.Tree.{Tree}
use Rattle.mlr_event.proofs.Distinct.{bytes_eq-swap}
use Rattle.mlr_event.specs.Reading.{is_among}
use Rattle.verbs_pattern.specs.Renaming.{renamed_from}
use Rattle.verbs_pattern.specs.RenamingSteps.{GoesOn}

abbrev Pair : Type 0
Pair = List ℕ × Tree

same_name : (a : List ℕ) → bytes_eq a a ≡ true
same_name a = (bytes_eq-Decides a a).1 refl

-- removing a key that isn't there changes nothing
pub removed-absent : (key : List ℕ) (pairs : List Pair) → list_any (bytes_eq key) (keys_of pairs) ≡ false → remove_at key pairs ≡ pairs
removed-absent key [] absent = refl
removed-absent key (p ∷ pairs) absent =
    let parts = or_parts (bytes_eq key p.0) (list_any (bytes_eq key) (keys_of pairs)) absent in
    cond-false (bytes_eq p.0 key) pairs (p ∷ remove_at key pairs) (bytes_eq-swap p.0 key ∙ parts.0)
    ∙ ap (λ l. p ∷ l) (removed-absent key pairs parts.1)

removed-length : (key : List ℕ) (pairs : List Pair) → length (remove_at key pairs) ≤ length pairs
removed-length key [] = omega arith
removed-length key (p ∷ pairs) =
    cond_both (bytes_eq p.0 key) pairs (p ∷ remove_at key pairs) (λ l. length l ≤ length (p ∷ pairs))
    (λ _. omega arith) (λ _. omega (arith, removed-length key pairs))

still-absent : (test : List ℕ → Bool) (key : List ℕ) (pairs : List Pair) → list_any test (keys_of pairs) ≡ false → list_any test (keys_of (remove_at key pairs)) ≡ false
still-absent test key [] absent = refl
still-absent test key (p ∷ pairs) absent =
    let parts = or_parts (test p.0) (list_any test (keys_of pairs)) absent in
    cond_both (bytes_eq p.0 key) pairs (p ∷ remove_at key pairs) (λ l. list_any test (keys_of l) ≡ false)
    (λ _. parts.1) (λ _. or_from _ _ parts.0 (still-absent test key pairs parts.1))

-- with distinct keys, a key isn't among those before it or those after it
absent-following : (key : List ℕ) (prefix : List Pair) (p : Pair) (back : List Pair) → list_any (bytes_eq key) (keys_of (prefix ++ p ∷ back)) ≡ false →
    list_any (bytes_eq key) (keys_of back) ≡ false
absent-following key [] p back absent = (or_parts (bytes_eq key p.0) (list_any (bytes_eq key) (keys_of back)) absent).1
absent-following key (q ∷ prefix) p back absent =
    absent-following key prefix p back (or_parts (bytes_eq key q.0) (list_any (bytes_eq key) (keys_of (prefix ++ p ∷ back))) absent).1

other-there : (key : List ℕ) (prefix : List Pair) (p : Pair) (back : List Pair) → list_any (bytes_eq key) (keys_of (prefix ++ p ∷ back)) ≡ false → bytes_eq key p.0 ≡ false
other-there key [] p back absent = (or_parts (bytes_eq key p.0) (list_any (bytes_eq key) (keys_of back)) absent).0
other-there key (q ∷ prefix) p back absent =
    other-there key prefix p back (or_parts (bytes_eq key q.0) (list_any (bytes_eq key) (keys_of (prefix ++ p ∷ back))) absent).1

absent-before : (prefix : List Pair) (p : Pair) (back : List Pair) → are_distinct (keys_of (prefix ++ p ∷ back)) ≡ true →
    list_any (λ key. bytes_eq key p.0) (keys_of prefix) ≡ false
absent-before [] p back distinct = refl
absent-before (q ∷ prefix) p back distinct =
    let parts = and_parts (not (list_any (bytes_eq q.0) (keys_of (prefix ++ p ∷ back)))) (are_distinct (keys_of (prefix ++ p ∷ back))) distinct in
    or_from _ _ (other-there q.0 prefix p back (not-true _ parts.0)) (absent-before prefix p back parts.1)

distinct-following : (prefix : List Pair) (p : Pair) (back : List Pair) → are_distinct (keys_of (prefix ++ p ∷ back)) ≡ true → are_distinct (keys_of back) ≡ true
distinct-following [] p back distinct = (and_parts (not (list_any (bytes_eq p.0) (keys_of back))) (are_distinct (keys_of back)) distinct).1
distinct-following (q ∷ prefix) p back distinct =
    distinct-following prefix p back
    (and_parts (not (list_any (bytes_eq q.0) (keys_of (prefix ++ p ∷ back)))) (are_distinct (keys_of (prefix ++ p ∷ back))) distinct).1

-- renaming a field removes fields before it and after it
removed-around : (key : List ℕ) (prefix : List Pair) (p : Pair) (back : List Pair) → are_distinct (keys_of (prefix ++ p ∷ back)) ≡ true →
    bytes_eq p.0 key ≡ false → remove_at key (prefix ++ p ∷ back) ≡ remove_at key prefix ++ p ∷ remove_at key back
removed-around key [] p back distinct other = cond-false (bytes_eq p.0 key) back (p ∷ remove_at key back) other
removed-around key (q ∷ prefix) p back distinct other =
    let parts = and_parts (not (list_any (bytes_eq q.0) (keys_of (prefix ++ p ∷ back)))) (are_distinct (keys_of (prefix ++ p ∷ back))) distinct in
    elim (cases_Bool (bytes_eq q.0 key)) as (λ _. remove_at key ((q ∷ prefix) ++ p ∷ back) ≡ remove_at key (q ∷ prefix) ++ p ∷ remove_at key back) [
      | inl here ↦
          let is : q.0 ≡ key = (bytes_eq-Decides q.0 key).0 here in
          let following = absent-following key prefix p back (subst (λ k. list_any (bytes_eq k) (keys_of (prefix ++ p ∷ back)) ≡ false) is (not-true _ parts.0)) in
          cond-true (bytes_eq q.0 key) (prefix ++ p ∷ back) (q ∷ remove_at key (prefix ++ p ∷ back)) here
          ∙ ap (λ l. prefix ++ p ∷ l) (sym (removed-absent key back following))
          ∙ sym (ap (λ l. l ++ p ∷ remove_at key back) (cond-true (bytes_eq q.0 key) prefix (q ∷ remove_at key prefix) here))
      | inr off ↦
          cond-false (bytes_eq q.0 key) (prefix ++ p ∷ back) (q ∷ remove_at key (prefix ++ p ∷ back)) off
          ∙ ap (λ l. q ∷ l) (removed-around key prefix p back parts.1 other)
          ∙ sym (ap (λ l. l ++ p ∷ remove_at key back) (cond-false (bytes_eq q.0 key) prefix (q ∷ remove_at key prefix) off))
    ]

named-there : (new : List ℕ) (prefix : List Pair) (p : Pair) (back : List Pair) → list_any (λ key. bytes_eq key p.0) (keys_of prefix) ≡ false →
    with_name p.0 new (prefix ++ p ∷ back) ≡ prefix ++ (new, p.1) ∷ back
named-there new [] p back absent = cond-true (bytes_eq p.0 p.0) ((new, p.1) ∷ back) (p ∷ with_name p.0 new back) (same_name p.0)
named-there new (q ∷ prefix) p back absent =
    let parts = or_parts (bytes_eq q.0 p.0) (list_any (λ key. bytes_eq key p.0) (keys_of prefix)) absent in
    cond-false (bytes_eq q.0 p.0) ((new, q.1) ∷ (prefix ++ p ∷ back)) (q ∷ with_name p.0 new (prefix ++ p ∷ back)) parts.0
    ∙ ap (λ l. q ∷ l) (named-there new prefix p back parts.1)

is-there : (prefix : List Pair) (p : Pair) (back : List Pair) → is_none (value_at p.0 (prefix ++ p ∷ back)) ≡ false
is-there [] p back = ap is_none (cond-true (bytes_eq p.0 p.0) (Some p.1) (value_at p.0 back) (same_name p.0))
is-there (q ∷ prefix) p back =
    cond_both (bytes_eq q.0 p.0) (Some q.1) (value_at p.0 (prefix ++ p ∷ back)) (λ o. is_none o ≡ false) (λ _. refl) (λ _. is-there prefix p back)

renamed-around : (new : List ℕ) (prefix : List Pair) (p : Pair) (back : List Pair) → are_distinct (keys_of (prefix ++ p ∷ back)) ≡ true →
    bytes_eq p.0 new ≡ false → rename_at p.0 new (prefix ++ p ∷ back) ≡ remove_at new prefix ++ (new, p.1) ∷ remove_at new back
renamed-around new prefix p back distinct other =
    cond-false (bytes_eq p.0 new || is_none (value_at p.0 (prefix ++ p ∷ back))) (prefix ++ p ∷ back) (with_name p.0 new (remove_at new (prefix ++ p ∷ back)))
    (or_from _ _ other (is-there prefix p back))
    ∙ ap (with_name p.0 new) (removed-around new prefix p back distinct other)
    ∙ named-there new (remove_at new prefix) p (remove_at new back) (still-absent (λ key. bytes_eq key p.0) new prefix (absent-before prefix p back distinct))

-- taking and dropping a list up to one of its elements
take-around : {A : Type 0} (prefix : List A) (x : A) (back : List A) → take (suc (length prefix)) (prefix ++ x ∷ back) ≡ prefix ++ x ∷ []
take-around [] x back = refl
take-around (y ∷ prefix) x back = ap (λ l. y ∷ l) (take-around prefix x back)

drop-around : {A : Type 0} (prefix : List A) (x : A) (back : List A) → drop (suc (length prefix)) (prefix ++ x ∷ back) ≡ back
drop-around [] x back = refl
drop-around (y ∷ prefix) x back = drop-around prefix x back

around : {A : Type 0} (xs : List A) (i : ℕ) (d : A) → i < length xs → xs ≡ take i xs ++ get_or xs i d ∷ drop (i + 1) xs
around xs i d below = sym (halves xs i) ∙ ap (λ l. take i xs ++ l) (drop_more xs i d below)
  where
    halves : {A : Type 0} (xs : List A) (n : ℕ) → take n xs ++ drop n xs ≡ xs
    halves [] zero = refl
    halves [] (suc n) = refl
    halves (x ∷ xs) zero = refl
    halves (x ∷ xs) (suc n) = ap (λ l. x ∷ l) (halves xs n)

pub renamed-at : (place next : ℕ) (old new : List ℕ) (before after : List Pair) (pair : Pair) → place < length before →
    are_distinct (keys_of before) ≡ true → old ≡ (get_or before place pair).0 → bytes_eq new (get_or before place pair).0 ≡ false →
    after ≡ rename_at old new before → next ≡ length (remove_at new (take place before)) + 1 →
    (take next after ≡ remove_at new (take place before) ++ (new, (get_or before place pair).1) ∷ [])
    × (drop next after ≡ remove_at new (drop (place + 1) before))
renamed-at place next old new before after pair below distinct is other renamed next_is =
    let p : Pair = get_or before place pair in
    let prefix = remove_at new (take place before) in
    let back = remove_at new (drop (place + 1) before) in
    let whole = around before place pair below in
    let end : next ≡ suc (length prefix) = next_is ∙ add-one (length prefix) in
    let made : after ≡ prefix ++ (new, p.1) ∷ back = renamed
    ∙ ap₂ (λ o l. rename_at o new l) is whole
    ∙ renamed-around new (take place before) p (drop (place + 1) before) (subst (λ l. are_distinct (keys_of l) ≡ true) whole distinct) (bytes_eq-swap p.0 new ∙ other) in
    (ap₂ take end made ∙ take-around prefix (new, p.1) back, ap₂ drop end made ∙ drop-around prefix (new, p.1) back)

-- the fields before a place after another field with the new name is removed
module _ (key : List ℕ) where
  abbrev has_key : Pair → Bool
  has_key pair = bytes_eq pair.0 key

  far : (pairs : List Pair) (n : ℕ) → n ≤ length pairs → n ≤ position_or_len has_key pairs → length (remove_at key (take n pairs)) ≡ n
  far [] zero fits later = refl
  far [] (suc n) fits later = absurd (omega (arith, fits))
  far (p ∷ pairs) zero fits later = refl
  far (p ∷ pairs) (suc n) fits later = elim (cases_Bool (bytes_eq p.0 key)) as (λ _. length (remove_at key (p ∷ take n pairs)) ≡ suc n) [
    | inl here ↦
        let none : position_or_len has_key (p ∷ pairs) ≡ 0 = rw here refl in
        absurd (omega (arith, later, none))
    | inr off ↦
        let more : position_or_len has_key (p ∷ pairs) ≡ 1 + position_or_len has_key pairs = rw off refl in
        ap length (cond-false (bytes_eq p.0 key) (take n pairs) (p ∷ remove_at key (take n pairs)) off)
        ∙ ap (λ k. suc k) (far pairs n (omega (arith, fits)) (omega (arith, later, more)))
  ]

  near : (pairs : List Pair) (n : ℕ) → n ≤ length pairs → position_or_len has_key pairs < n → suc (length (remove_at key (take n pairs))) ≡ n
  near [] n fits before = absurd (omega (arith, fits, before))
  near (p ∷ pairs) zero fits before = absurd (omega (arith, before))
  near (p ∷ pairs) (suc n) fits before = elim (cases_Bool (bytes_eq p.0 key)) as (λ _. suc (length (remove_at key (p ∷ take n pairs))) ≡ suc n) [
    | inl here ↦
        ap (λ l. suc (length l)) (cond-true (bytes_eq p.0 key) (take n pairs) (p ∷ remove_at key (take n pairs)) here)
        ∙ ap (λ k. suc k) (length-take-le n pairs (omega (arith, fits)))
    | inr off ↦
        let more : position_or_len has_key (p ∷ pairs) ≡ 1 + position_or_len has_key pairs = rw off refl in
        ap (λ l. suc (length l)) (cond-false (bytes_eq p.0 key) (take n pairs) (p ∷ remove_at key (take n pairs)) off)
        ∙ ap (λ k. suc k) (near pairs n (omega (arith, fits)) (omega (arith, before, more)))
  ]

  found-at : (pairs : List Pair) (k : ℕ) → place_at key pairs ≡ Some k → position_or_len has_key pairs ≡ k
  found-at pairs k found = elim (cases_Bool (nat_lt (position_or_len has_key pairs) (length pairs))) [
    | inl within ↦ same_Some (position_or_len has_key pairs) k (sym (cond-true _ (Some (position_or_len has_key pairs)) None within) ∙ found)
    | inr past ↦ absurd (let e : None ≡ Some k = sym (cond-false _ (Some (position_or_len has_key pairs)) None past) ∙ found in cc)
  ]

  found-nowhere : (pairs : List Pair) → place_at key pairs ≡ None → length pairs ≤ position_or_len has_key pairs
  found-nowhere pairs none = elim (cases_Bool (nat_lt (position_or_len has_key pairs) (length pairs))) [
    | inl within ↦ absurd (let e : Some (position_or_len has_key pairs) ≡ None = sym (cond-true _ (Some (position_or_len has_key pairs)) None within) ∙ none in cc)
    | inr past ↦ ltb-false (position_or_len has_key pairs) (length pairs) past
  ]

  pub following-near : (pairs : List Pair) (place k : ℕ) → place < length pairs → place_at key pairs ≡ Some k → k < place → place ≡ length (remove_at key (take place pairs)) + 1
  following-near pairs place k below found before =
      sym (add-one (length (remove_at key (take place pairs))) ∙ near pairs place (omega (arith, below)) (omega (arith, found-at pairs k found, before)))

  pub following-far : (pairs : List Pair) (place k : ℕ) → place < length pairs → place_at key pairs ≡ Some k → place ≤ k → place + 1 ≡ length (remove_at key (take place pairs)) + 1
  following-far pairs place k below found later =
      sym (ap (λ n. n + 1) (far pairs place (omega (arith, below)) (omega (arith, found-at pairs k found, later))))

  pub following-none : (pairs : List Pair) (place : ℕ) → place < length pairs → place_at key pairs ≡ None → place + 1 ≡ length (remove_at key (take place pairs)) + 1
  following-none pairs place below none =
      sym (ap (λ n. n + 1) (far pairs place (omega (arith, below)) (omega (arith, found-nowhere pairs none, below))))

module _ (rename : List ℕ → List ℕ) where
  or_none : (b : Bool) → (b || false) ≡ b
  or_none true = refl
  or_none false = refl

  choose : {A : Type 0} (s t u : Bool) (a a' b b' d d' : A) → s ≡ t → a ≡ a' → b ≡ b' → d ≡ d' → cond s a (cond u b d) ≡ cond t a' (cond u b' d')
  choose s t u a a' b b' d d' e f g h = λ i. cond (e i) (f i) (cond u (g i) (h i))

  -- a name that was made has the effect that its field is removed
  gone : (done : List Pair) (made : List (List ℕ)) (new : List ℕ) (todo : List Pair) → are_distinct (keys_of todo) ≡ true →
      renamed_from rename done (made ++ new ∷ []) todo ≡ renamed_from rename done made (remove_at new todo)
  gone done made new [] distinct = refl
  gone done made new (p ∷ todo) distinct =
      let parts = and_parts (not (list_any (bytes_eq p.0) (keys_of todo))) (are_distinct (keys_of todo)) distinct in
      let among : is_among (made ++ new ∷ []) p.0 ≡ (is_among made p.0 || (bytes_eq p.0 new || false)) = list_any-append (bytes_eq p.0) made (new ∷ []) in
      let skip = gone done made new todo parts.1 in
      let keep = gone (done ++ p ∷ []) made new todo parts.1 in
      let change = gone (remove_at (rename p.0) done ++ (rename p.0, p.1) ∷ []) (rename p.0 ∷ made) new todo parts.1 in
      elim (cases_Bool (bytes_eq p.0 new)) as (λ _. renamed_from rename done (made ++ new ∷ []) (p ∷ todo) ≡ renamed_from rename done made (remove_at new (p ∷ todo))) [
        | inl here ↦
            let is : p.0 ≡ new = (bytes_eq-Decides p.0 new).0 here in
            let alone = removed-absent new todo (subst (λ k. list_any (bytes_eq k) (keys_of todo) ≡ false) is (not-true _ parts.0)) in
            cond-true (is_among (made ++ new ∷ []) p.0) _ _ (among ∙ or_right (is_among made p.0) _ (or_left _ false here))
            ∙ skip
            ∙ ap (renamed_from rename done made) alone
            ∙ sym (ap (renamed_from rename done made) (cond-true (bytes_eq p.0 new) todo (p ∷ remove_at new todo) here))
        | inr off ↦
            choose (is_among (made ++ new ∷ []) p.0) (is_among made p.0) (bytes_eq (rename p.0) p.0) _ _ _ _ _ _
            (among ∙ ap (λ t. is_among made p.0 || (t || false)) off ∙ or_none (is_among made p.0)) skip keep change
            ∙ sym (ap (renamed_from rename done made) (cond-false (bytes_eq p.0 new) todo (p ∷ remove_at new todo) off))
      ]

  -- a step that renames a field
  pub step-renames : (place next : ℕ) (new : List ℕ) (before after : List Pair) (pair : Pair) → place < length before →
      are_distinct (keys_of before) ≡ true → new ≡ rename (get_or before place pair).0 → bytes_eq new (get_or before place pair).0 ≡ false →
      take next after ≡ remove_at new (take place before) ++ (new, (get_or before place pair).1) ∷ [] →
      drop next after ≡ remove_at new (drop (place + 1) before) → GoesOn rename place before next after
  step-renames place next new before after pair below distinct is other done left =
      let p : Pair = get_or before place pair in
      let prefix = take place before in
      let back = drop (place + 1) before in
      let there = drop_more before place pair below in
      let following = distinct-following prefix p back (subst (λ l. are_distinct (keys_of l) ≡ true) (around before place pair below) distinct) in
      let moved : List ℕ → List Pair = λ name. remove_at name prefix ++ (name, p.1) ∷ [] in (
        ap₂ (λ d t. renamed_from rename d [] t) done left
            ∙ sym (gone (moved new) [] new back following)
            ∙ ap (λ name. renamed_from rename (moved name) (name ∷ []) back) is
            ∙ sym (cond-false (bytes_eq (rename p.0) p.0) (renamed_from rename (prefix ++ p ∷ []) [] back) (renamed_from rename (moved (rename p.0)) (rename p.0 ∷ []) back)
            (subst (λ name. bytes_eq name p.0 ≡ false) is other))
            ∙ ap (renamed_from rename prefix []) (sym there),
        omega (arith, below, length-drop next after, ap length left, removed-length new back, length-drop (place + 1) before),
      )

  -- a step that keeps the name of a field
  pub step-keeps : (place : ℕ) (before : List Pair) (pair : Pair) → place < length before → bytes_eq (rename (get_or before place pair).0) (get_or before place pair).0 ≡ true →
      GoesOn rename place before (place + 1) before
  step-keeps place before pair below same =
      let p : Pair = get_or before place pair in
      let prefix = take place before in
      let back = drop (place + 1) before in (
        ap (λ d. renamed_from rename d [] back) (take_more before place pair below)
            ∙ sym (cond-true (bytes_eq (rename p.0) p.0) (renamed_from rename (prefix ++ p ∷ []) [] back)
            (renamed_from rename (remove_at (rename p.0) prefix ++ (rename p.0, p.1) ∷ []) (rename p.0 ∷ []) back) same)
            ∙ ap (renamed_from rename prefix []) (sym (drop_more before place pair below)),
        omega (arith, below),
      )
