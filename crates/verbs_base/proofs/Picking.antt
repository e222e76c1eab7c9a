-- Fields that are picked by names, one name after another.
use Rattle.std.proofs.Common.{◌≡◌, ℕ, Bool, true, false, not, cond, List, [], ◌∷◌, ◌++◌, Some, None, length, take, refl, ap, ap₂, sym, subst, ◌∙◌, inl, inr}
use Rattle.std.specs.List.{list_any, filter, filter_map, cons_option}
use Rattle.std.specs.Option.{option_map, is_some}
use Rattle.std.specs.Str.{bytes_eq}
use Rattle.std.proofs.lemmas.Bool.{cases_Bool, and_parts, and_from, or_parts, or_from, or_left, or_right, not-true, not_from_false, cond_both, true≢false}
use Rattle.std.proofs.lemmas.List.{map-append, take-map}
use Rattle.std.proofs.Math.Seq.{take-append_seam}
use Rattle.std.proofs.lemmas.List.Folds.{list_any-append}
use Rattle.std.proofs.lemmas.Slice.Eq.{bytes_eq-Decides}
use Rattle.mlr_spec.specs.Tree.{Tree}
use Rattle.mlr_spec.specs.Pairs.{value_at, remove_at, keys_of, are_distinct}
use Rattle.mlr_spec.proofs.Pairs.{any_key-removed}
use Rattle.mlr_spec.proofs.Splitting.{cases_Option}
use Rattle.mlr_record.specs.Fields.{pair_of, pairs_of}
use Rattle.mlr_record.specs.declared.record.Field.{Field}
use Rattle.mlr_event.specs.Reading.{is_among}
use Rattle.mlr_event.proofs.Putting.{value_at-free}
use Rattle.mlr_event.proofs.Distinct.{bytes_eq-swap}
use Rattle.verbs_base.specs.Choosing.{once, named, picked, dropped}
use Rattle.verbs_base.proofs.Filters.{are_distinct-filter}

-- removing a pair leaves the values of the other keys
pub value_at-other : (name other : List ℕ) (pairs : List (List ℕ × Tree)) → bytes_eq name other ≡ false → value_at other (remove_at name pairs) ≡ value_at other pairs
value_at-other name other [] apart = refl
value_at-other name other (p ∷ pairs) apart =
    elim (cases_Bool (bytes_eq p.0 name)) as (λ _. value_at other (remove_at name (p ∷ pairs)) ≡ value_at other (p ∷ pairs)) [
      | inl here ↦
          let no : bytes_eq p.0 other ≡ false = subst (λ k. bytes_eq k other ≡ false) (sym ((bytes_eq-Decides p.0 name).0 here)) apart in
          rw here (sym (ap (λ t. cond t (Some p.1) (value_at other pairs)) no))
      | inr later ↦ rw later (ap (λ v. cond (bytes_eq p.0 other) (Some p.1) v) (value_at-other name other pairs apart))
    ]

value_at-removed : (name : List ℕ) (pairs : List (List ℕ × Tree)) → are_distinct (keys_of pairs) ≡ true → value_at name (remove_at name pairs) ≡ None
value_at-removed name pairs distinct = value_at-free name (remove_at name pairs) (any_key-removed name pairs distinct)

module _ (name : List ℕ) (pairs : List (List ℕ × Tree)) (distinct : are_distinct (keys_of pairs) ≡ true) where
  found-others : (names : List (List ℕ)) → filter_map (named pairs) (filter (λ other. not (bytes_eq name other)) names) ≡ filter_map (named (remove_at name pairs)) names
  found-others [] = refl
  found-others (n ∷ names) =
      elim (cases_Bool (bytes_eq name n)) as (λ _. filter_map (named pairs) (filter (λ other. not (bytes_eq name other)) (n ∷ names)) ≡ filter_map (named (remove_at name pairs)) (n ∷ names)) [
        | inl same ↦
            let gone : value_at n (remove_at name pairs) ≡ None = subst (λ k. value_at k (remove_at name pairs) ≡ None) ((bytes_eq-Decides name n).0 same) (value_at-removed name pairs distinct) in
            rw same (found-others names ∙ sym (ap (λ v. cons_option (option_map (λ value. (n, value)) v) (filter_map (named (remove_at name pairs)) names)) gone))
        | inr apart ↦
            rw apart (ap₂ (λ v fields. cons_option (option_map (λ value. (n, value)) v) fields) (sym (value_at-other name n pairs apart)) (found-others names))
      ]

  pub picked-more : (names : List (List ℕ)) → picked (name ∷ names) pairs ≡ cons_option (named pairs name) (picked names (remove_at name pairs))
  picked-more names = ap (cons_option (named pairs name)) (found-others (once names))

dropped-absent : (name : List ℕ) (names : List (List ℕ)) (pairs : List (List ℕ × Tree)) → is_among (keys_of pairs) name ≡ false → dropped (name ∷ names) pairs ≡ dropped names pairs
dropped-absent name names [] absent = refl
dropped-absent name names (p ∷ pairs) absent =
    let parts = or_parts (bytes_eq name p.0) (is_among (keys_of pairs) name) absent in
    let no : bytes_eq p.0 name ≡ false = bytes_eq-swap p.0 name ∙ parts.0 in
    rw no (ap (λ left. cond (not (is_among names p.0)) (p ∷ left) left) (dropped-absent name names pairs parts.1))

pub dropped-more : (name : List ℕ) (names : List (List ℕ)) (pairs : List (List ℕ × Tree)) → are_distinct (keys_of pairs) ≡ true → dropped (name ∷ names) pairs ≡ dropped names (remove_at name pairs)
dropped-more name names [] distinct = refl
dropped-more name names (p ∷ pairs) distinct =
    let parts = and_parts (not (list_any (bytes_eq p.0) (keys_of pairs))) (are_distinct (keys_of pairs)) distinct in
    elim (cases_Bool (bytes_eq p.0 name)) as (λ _. dropped (name ∷ names) (p ∷ pairs) ≡ dropped names (remove_at name (p ∷ pairs))) [
      | inl here ↦
          rw here (dropped-absent name names pairs (subst (λ k. is_among (keys_of pairs) k ≡ false) ((bytes_eq-Decides p.0 name).0 here) (not-true _ parts.0)))
      | inr other ↦ rw other (ap (λ left. cond (not (is_among names p.0)) (p ∷ left) left) (dropped-more name names pairs parts.1))
    ]

pub dropped-none : (pairs : List (List ℕ × Tree)) → dropped [] pairs ≡ pairs
dropped-none [] = refl
dropped-none (p ∷ pairs) = ap (λ left. p ∷ left) (dropped-none pairs)

any-filter : (test keep : List ℕ → Bool) (names : List (List ℕ)) → list_any test names ≡ false → list_any test (filter keep names) ≡ false
any-filter test keep [] none = none
any-filter test keep (n ∷ names) none =
    let parts = or_parts (test n) (list_any test names) none in
    let rest = any-filter test keep names parts.1 in
    cond_both (keep n) (n ∷ filter keep names) (filter keep names) (λ x. list_any test x ≡ false) (λ _. or_from _ _ parts.0 rest) (λ _. rest)

names-filter : (keep : List ℕ → Bool) (names : List (List ℕ)) → are_distinct names ≡ true → are_distinct (filter keep names) ≡ true
names-filter keep [] distinct = distinct
names-filter keep (n ∷ names) distinct =
    let parts = and_parts (not (list_any (bytes_eq n) names)) (are_distinct names) distinct in
    let rest = names-filter keep names parts.1 in
    cond_both (keep n) (n ∷ filter keep names) (filter keep names) (λ x. are_distinct x ≡ true)
    (λ _. and_from _ _ (not_from_false _ (any-filter (bytes_eq n) keep names (not-true _ parts.0))) rest) (λ _. rest)

none-left : (test : List ℕ → Bool) (names : List (List ℕ)) → list_any test (filter (λ n. not (test n)) names) ≡ false
none-left test [] = refl
none-left test (n ∷ names) =
    cond_both (not (test n)) (n ∷ filter (λ n. not (test n)) names) (filter (λ n. not (test n)) names) (λ x. list_any test x ≡ false)
    (λ stays. or_from _ _ (not-true _ stays) (none-left test names)) (λ _. none-left test names)

pub are_distinct-once : (names : List (List ℕ)) → are_distinct (once names) ≡ true
are_distinct-once [] = refl
are_distinct-once (name ∷ names) =
    and_from _ _ (not_from_false _ (none-left (bytes_eq name) (once names))) (names-filter (λ other. not (bytes_eq name other)) (once names) (are_distinct-once names))

any-once : (test : List ℕ → Bool) (names : List (List ℕ)) → list_any test names ≡ false → list_any test (once names) ≡ false
any-once test [] none = none
any-once test (name ∷ names) none =
    let parts = or_parts (test name) (list_any test names) none in
    or_from _ _ parts.0 (any-filter test (λ other. not (bytes_eq name other)) (once names) (any-once test names parts.1))

-- the names of the fields that are found are distinct
keys-found : (pairs : List (List ℕ × Tree)) (names : List (List ℕ)) → keys_of (filter_map (named pairs) names) ≡ filter (λ name. is_some (value_at name pairs)) names
keys-found pairs [] = refl
keys-found pairs (n ∷ names) =
    elim (cases_Option (value_at n pairs)) as (λ _. keys_of (filter_map (named pairs) (n ∷ names)) ≡ filter (λ name. is_some (value_at name pairs)) (n ∷ names)) [
      | inl none ↦ rw none (keys-found pairs names)
      | inr found ↦ rw found.1 (ap (λ x. n ∷ x) (keys-found pairs names))
    ]

module _ (names : List (List ℕ)) (pairs : List (List ℕ × Tree)) where
  pub are_distinct-picked : are_distinct (keys_of (picked names pairs)) ≡ true
  are_distinct-picked = ap are_distinct (keys-found pairs (once names)) ∙ names-filter _ (once names) (are_distinct-once names)

  -- a field that isn't named isn't picked
  picked-others : (key : List ℕ) → is_among names key ≡ false → is_among (keys_of (picked names pairs)) key ≡ false
  picked-others key other =
      ap (list_any (bytes_eq key)) (keys-found pairs (once names)) ∙ any-filter (bytes_eq key) _ (once names) (any-once (bytes_eq key) names other)

-- a field that is named is dropped
pub dropped-named : (names : List (List ℕ)) (pairs : List (List ℕ × Tree)) (key : List ℕ) → is_among names key ≡ true → is_among (keys_of (dropped names pairs)) key ≡ false
dropped-named names [] key among = refl
dropped-named names (p ∷ pairs) key among =
    let rest = dropped-named names pairs key among in
    cond_both (not (is_among names p.0)) (p ∷ dropped names pairs) (dropped names pairs) (λ x. is_among (keys_of x) key ≡ false)
    (λ stays. or_from _ _ (differs (not-true _ stays)) rest) (λ _. rest)
  where
    differs : is_among names p.0 ≡ false → bytes_eq key p.0 ≡ false
    differs other =
        elim (cases_Bool (bytes_eq key p.0)) as (λ _. bytes_eq key p.0 ≡ false) [
          | inl same ↦ absurd (true≢false (sym (subst (λ k. is_among names k ≡ true) ((bytes_eq-Decides key p.0).0 same) among) ∙ other))
          | inr apart ↦ apart
        ]

pub are_distinct-append : (xs ys : List (List ℕ)) → are_distinct xs ≡ true → are_distinct ys ≡ true → ((key : List ℕ) → is_among xs key ≡ true → is_among ys key ≡ false) → are_distinct (xs ++ ys) ≡ true
are_distinct-append [] ys first second apart = second
are_distinct-append (x ∷ xs) ys first second apart =
    let parts = and_parts (not (list_any (bytes_eq x) xs)) (are_distinct xs) first in
    and_from _ _
    (not_from_false _ (list_any-append (bytes_eq x) xs ys ∙ or_from _ _ (not-true _ parts.0) (apart x (or_left _ _ ((bytes_eq-Decides x x).1 refl)))))
    (are_distinct-append xs ys parts.1 second (λ key among. apart key (or_right _ _ among)))

module _ (names : List (List ℕ)) (pairs : List (List ℕ × Tree)) (distinct : are_distinct (keys_of pairs) ≡ true) where
  left-distinct : are_distinct (keys_of (dropped names pairs)) ≡ true
  left-distinct = are_distinct-filter (λ pair. not (is_among names pair.0)) pairs distinct

  pub are_distinct-first : are_distinct (keys_of (picked names pairs ++ dropped names pairs)) ≡ true
  are_distinct-first =
      ap are_distinct (map-append (λ (pair : List ℕ × Tree). pair.0) (picked names pairs) (dropped names pairs))
      ∙ are_distinct-append (keys_of (picked names pairs)) (keys_of (dropped names pairs)) (are_distinct-picked names pairs) left-distinct (λ key among.
      elim (cases_Bool (is_among names key)) as (λ _. is_among (keys_of (dropped names pairs)) key ≡ false) [
        | inl is ↦ dropped-named names pairs key is
        | inr isnt ↦ absurd (true≢false (sym among ∙ picked-others names pairs key isnt))
      ])

  pub are_distinct-last : are_distinct (keys_of (dropped names pairs ++ picked names pairs)) ≡ true
  are_distinct-last =
      ap are_distinct (map-append (λ (pair : List ℕ × Tree). pair.0) (dropped names pairs) (picked names pairs))
      ∙ are_distinct-append (keys_of (dropped names pairs)) (keys_of (picked names pairs)) left-distinct (are_distinct-picked names pairs) (λ key among.
      elim (cases_Bool (is_among names key)) as (λ _. is_among (keys_of (picked names pairs)) key ≡ false) [
        | inl is ↦ absurd (true≢false (sym among ∙ dropped-named names pairs key is))
        | inr isnt ↦ picked-others names pairs key isnt
      ])

-- the first so many of the fields that were moved to the start are the picked ones
pub picked-first : (names : List (List ℕ)) (pairs : List (List ℕ × Tree)) (fields : List Field) (count : ℕ) → pairs_of fields ≡ picked names pairs ++ dropped names pairs → count ≡ length (picked names pairs)
    → pairs_of (take count fields) ≡ picked names pairs
picked-first names pairs fields count all is =
    sym (take-map pair_of count fields) ∙ ap (take count) all ∙ ap (λ n. take n (picked names pairs ++ dropped names pairs)) is ∙ take-append_seam (picked names pairs) (dropped names pairs)
