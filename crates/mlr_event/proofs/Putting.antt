-- Records built field by field, and the names that they have then.
use Rattle.std.proofs.Common.{◌≡◌, ℕ, Bool, true, false, cond, ◌||◌, List, [], ◌∷◌, ◌++◌, Some, None, refl, ap, ap₂, arith, length, ltb, sym, ◌∙◌, append_assoc, inl, inr}
use Rattle.std.specs.List.{list_any, position_or_len, zip}
use Rattle.std.specs.Option.{is_some}
use Rattle.std.specs.Str.{bytes_eq}
use Rattle.std.proofs.lemmas.Bool.{cases_Bool, true≢false, or_parts}
use Rattle.std.proofs.lemmas.Bool.Decides.{nat_tests}
use Rattle.std.proofs.lemmas.List.{append-nil, map-append, length-map}
use Rattle.mlr_spec.specs.Tree.{Tree}
use Rattle.mlr_spec.specs.Pairs.{value_at, place_at, keys_of, are_distinct}
use Rattle.mlr_spec.proofs.Pairs.{are_distinct-twice}
use Rattle.mlr_event.specs.Reading.{is_among, free_name, distinct_after, record_of}
use Rattle.mlr_event.specs.Rows.{with_field, with_fields}
use Rattle.mlr_event.proofs.Distinct.{bytes_eq-swap}

pub length-keys : (pairs : List (List ℕ × Tree)) → length (keys_of pairs) ≡ length pairs
length-keys pairs = simp length-map

pub value_at-free : (key : List ℕ) (pairs : List (List ℕ × Tree)) → is_among (keys_of pairs) key ≡ false → value_at key pairs ≡ None
value_at-free key [] free = refl
value_at-free key (pair ∷ pairs) free =
    let parts = or_parts (bytes_eq key pair.0) (is_among (keys_of pairs) key) free in
    rw (bytes_eq-swap pair.0 key ∙ parts.0) (value_at-free key pairs parts.1)

is_some-cond : (t : Bool) (place : ℕ) → is_some (cond t (Some place) None) ≡ t
is_some-cond true place = refl
is_some-cond false place = refl

place-among : (key : List ℕ) (pairs : List (List ℕ × Tree)) → ltb (position_or_len (λ pair. bytes_eq pair.0 key) pairs) (length pairs) ≡ is_among (keys_of pairs) key
place-among key [] = refl
place-among key (pair ∷ pairs) =
    elim (cases_Bool (bytes_eq pair.0 key)) as (λ _. ltb (position_or_len (λ pair. bytes_eq pair.0 key) (pair ∷ pairs)) (length (pair ∷ pairs)) ≡ is_among (keys_of (pair ∷ pairs)) key) [
      | inl here ↦ rw here (grind (arith, nat_tests) ∙ sym (ap (λ t. t || is_among (keys_of pairs) key) (bytes_eq-swap key pair.0 ∙ here)))
      | inr other ↦ rw other (grind (arith, nat_tests) ∙ place-among key pairs ∙ sym (ap (λ t. t || is_among (keys_of pairs) key) (bytes_eq-swap key pair.0 ∙ other)))
    ]

pub place_at-among : (key : List ℕ) (pairs : List (List ℕ × Tree)) → is_some (place_at key pairs) ≡ is_among (keys_of pairs) key
place_at-among key pairs =
    is_some-cond (ltb (position_or_len (λ pair. bytes_eq pair.0 key) pairs) (length pairs)) (position_or_len (λ pair. bytes_eq pair.0 key) pairs) ∙ place-among key pairs

any-swap : (name : List ℕ) (names : List (List ℕ)) → list_any (λ k. bytes_eq k name) names ≡ is_among names name
any-swap name [] = refl
any-swap name (n ∷ names) = ap₂ (λ a b. a || b) (bytes_eq-swap n name) (any-swap name names)

-- among distinct names, one isn't there before its place
pub free-of-distinct : (before : List (List ℕ)) (name : List ℕ) (more : List (List ℕ)) → are_distinct (before ++ name ∷ more) ≡ true → is_among before name ≡ false
free-of-distinct before name more distinct =
    elim (cases_Bool (is_among before name)) as (λ _. is_among before name ≡ false) [
      | inl there ↦ absurd (true≢false (sym distinct ∙ are_distinct-twice name before more (any-swap name before ∙ there)))
      | inr free ↦ free
    ]

pub with_fields-none : (dedupe : Bool) (pairs : List (List ℕ × Tree)) → with_fields dedupe pairs [] [] ≡ pairs
with_fields-none true pairs = append-nil pairs
with_fields-none false pairs = refl

pub with_fields-more : (dedupe : Bool) (pairs : List (List ℕ × Tree)) (name : List ℕ) (names : List (List ℕ)) (value : Tree) (values : List Tree)
    → with_fields dedupe (with_field dedupe name value pairs) names values ≡ with_fields dedupe pairs (name ∷ names) (value ∷ values)
with_fields-more false pairs name names value values = refl
with_fields-more true pairs name names value values =
    let free = free_name (keys_of pairs) name in
    append_assoc pairs ((free, value) ∷ []) (zip (distinct_after (keys_of (pairs ++ (free, value) ∷ [])) names) values)
    ∙ ap (λ keys. pairs ++ (free, value) ∷ zip (distinct_after keys names) values) (map-append (λ pair. pair.0) pairs ((free, value) ∷ []))

pub record_of-is : (dedupe : Bool) (names : List (List ℕ)) (values : List Tree) → record_of dedupe names values ≡ with_fields dedupe [] names values
record_of-is true names values = refl
record_of-is false names values = refl
