-- Names made distinct: one of the suffixes is free, since there are more of them than names.
use Rattle.std.proofs.Common.{◌≡◌, ℕ, zero, suc, ◌+◌, ◌^◌, ◌<◌, ◌≤◌, Bool, true, false, cond, not, ◌||◌, List, [], ◌∷◌, ◌++◌, length, Option, Some, None, refl, ap, ap₂, sym, ◌∙◌, append_assoc, arith, inl, inr, add-one}
use Rattle.std.specs.List.{list_any, find, range_with_len}
use Rattle.std.specs.Fmt.{decimal}
use Rattle.std.specs.Str.{bytes_eq}
use Rattle.std.proofs.lemmas.Bool.{cases_Bool, true≢false, and_parts, and_from, or_parts, not-true, not-false, cases_lt}
use Rattle.std.proofs.lemmas.List.{append-nil, append_cancel_left, length-append}
use Rattle.std.proofs.lemmas.List.Folds.{list_any-append}
use Rattle.std.proofs.lemmas.Bool.Decides.{same_from_decides}
use Rattle.std.proofs.lemmas.Fmt.{decimal_injective}
use Rattle.std.proofs.lemmas.Slice.Eq.{bytes_eq-Decides}
use Rattle.mlr_spec.proofs.Splitting.{cases_Option}
use Rattle.mlr_spec.specs.Pairs.{are_distinct}
use Rattle.mlr_event.specs.Reading.{suffixed, is_among, first_free, free_name, distinct_after, distinct_names}

pub bytes_eq-swap : (a b : List ℕ) → bytes_eq a b ≡ bytes_eq b a
bytes_eq-swap a b =
    let d = bytes_eq-Decides b a in
    same_from_decides (bytes_eq a b) (bytes_eq b a) (bytes_eq-Decides a b) (λ e. sym (d.0 e), λ e. d.1 (sym e))

bytes_eq-self : (a : List ℕ) → bytes_eq a a ≡ true
bytes_eq-self a = (bytes_eq-Decides a a).1 refl

-- two texts of which one is equal to a third and the other isn't
bytes_eq-apart : (a b c : List ℕ) → bytes_eq a b ≡ true → bytes_eq a c ≡ false → bytes_eq b c ≡ false
bytes_eq-apart a b c same apart = ap (λ t. bytes_eq t c) (sym ((bytes_eq-Decides a b).0 same)) ∙ apart

-- the names without the first that is this one
without_one : List ℕ → List (List ℕ) → List (List ℕ)
without_one name [] = []
without_one name (n ∷ names) = cond (bytes_eq name n) names (n ∷ without_one name names)

length-without_one : (name : List ℕ) (names : List (List ℕ)) → is_among names name ≡ true → length (without_one name names) + 1 ≡ length names
unfolding without_one
length-without_one name [] among = absurd (true≢false (sym among))
length-without_one name (n ∷ names) among =
    elim (cases_Bool (bytes_eq name n)) as (λ _. length (without_one name (n ∷ names)) + 1 ≡ length (n ∷ names)) [
      | inl here ↦ rw here (add-one (length names))
      | inr other ↦ rw other (omega (arith, length-without_one name names (sym (ap (λ t. t || is_among names name) other) ∙ among)))
    ]

among-without_one : (name other : List ℕ) (names : List (List ℕ)) → bytes_eq name other ≡ false → is_among names other ≡ true → is_among (without_one name names) other ≡ true
unfolding without_one
among-without_one name other [] apart among = among
among-without_one name other (n ∷ names) apart among =
    elim (cases_Bool (bytes_eq name n)) as (λ _. is_among (without_one name (n ∷ names)) other ≡ true) [
      | inl here ↦
          let no : bytes_eq other n ≡ false = bytes_eq-swap other n ∙ bytes_eq-apart name n other here apart in
          rw here (sym (ap (λ t. t || is_among names other) no) ∙ among)
      | inr there ↦
          elim (cases_Bool (bytes_eq other n)) as (λ _. is_among (without_one name (n ∷ names)) other ≡ true) [
            | inl is ↦ rw there (ap (λ t. t || is_among (without_one name names) other) is)
            | inr isnt ↦
                rw there (ap (λ t. t || is_among (without_one name names) other) isnt
                ∙ among-without_one name other names apart (sym (ap (λ t. t || is_among names other) isnt) ∙ among))
          ]
    ]

-- different numbers make different names
suffixed-apart : (name : List ℕ) (j k : ℕ) → j < k → k < 2 ^ 64 → bytes_eq (suffixed name j) (suffixed name k) ≡ false
suffixed-apart name j k less small =
    elim (cases_Bool (bytes_eq (suffixed name j) (suffixed name k))) as (λ _. bytes_eq (suffixed name j) (suffixed name k) ≡ false) [
      | inl same ↦
          let texts : name ++ 95 ∷ decimal j ≡ name ++ 95 ∷ decimal k = (bytes_eq-Decides (suffixed name j) (suffixed name k)).0 same in
          let ends : 95 ∷ decimal j ≡ 95 ∷ decimal k = append_cancel_left name (95 ∷ decimal j) (95 ∷ decimal k) texts in
          let numbers : decimal j ≡ decimal k = cc in
          absurd (omega (arith, decimal_injective j k (omega arith) small numbers))
      | inr apart ↦ apart
    ]

-- where all of these candidates are there, there are as many names
all-there : (name : List ℕ) (from n : ℕ) (names : List (List ℕ)) → from + n ≤ 2 ^ 64 → ((k : ℕ) → from ≤ k → k < from + n → is_among names (suffixed name k) ≡ true) → n ≤ length names
all-there name from zero names small there = omega arith
all-there name from (suc n) names small there =
    let first = suffixed name from in
    let less = all-there name (from + 1) n (without_one first names) (omega arith)
    (λ k low high. among-without_one first (suffixed name k) names (suffixed-apart name from k (omega arith) (omega arith)) (there k (omega arith) (omega arith))) in
    omega (arith, less, length-without_one first names (there from (omega arith) (omega arith)))

find-some : (test : ℕ → Bool) (ks : List ℕ) (k : ℕ) → find test ks ≡ Some k → test k ≡ true
find-some test [] k found = absurd (let e : None ≡ Some k = found in cc)
find-some test (j ∷ ks) k found =
    elim (cases_Bool (test j)) as (λ _. test k ≡ true) [
      | inl passes ↦ let e : Some j ≡ Some k = sym (ap (λ t. cond t (Some j) (find test ks)) passes) ∙ found in let same : j ≡ k = cc in ap test (sym same) ∙ passes
      | inr fails ↦ find-some test ks k (sym (ap (λ t. cond t (Some j) (find test ks)) fails) ∙ found)
    ]

find-none : (test : ℕ → Bool) (from n : ℕ) → find test (range_with_len from n) ≡ None → (k : ℕ) → from ≤ k → k < from + n → test k ≡ false
find-none test from zero none k low high = absurd (omega arith)
find-none test from (suc n) none k low high =
    elim (cases_Bool (test from)) as (λ _. test k ≡ false) [
      | inl passes ↦ absurd (let e : Some from ≡ None = sym (ap (λ t. cond t (Some from) (find test (range_with_len (from + 1) n))) passes) ∙ none in cc)
      | inr fails ↦
          elim (cases_lt from k) as (λ _. test k ≡ false) [
            | inl less ↦ find-none test (from + 1) n (sym (ap (λ t. cond t (Some from) (find test (range_with_len (from + 1) n))) fails) ∙ none) k (omega arith) (omega arith)
            | inr more ↦ let same : k ≡ from = omega arith in ap test same ∙ fails
          ]
    ]

find-first : (test : ℕ → Bool) (from n k : ℕ) → from ≤ k → k < from + n → ((j : ℕ) → from ≤ j → j < k → test j ≡ false) → test k ≡ true → find test (range_with_len from n) ≡ Some k
find-first test from zero k low high before here = absurd (omega arith)
find-first test from (suc n) k low high before here =
    elim (cases_lt from k) as (λ _. find test (range_with_len from (suc n)) ≡ Some k) [
      | inl less ↦ rw (before from (omega arith) less) (find-first test (from + 1) n k (omega arith) (omega arith) (λ j above below. before j (omega arith) below) here)
      | inr more ↦ let same : from ≡ k = omega arith in rw (ap test same ∙ here) (ap Some same)
    ]

find-nowhere : (test : ℕ → Bool) (from n : ℕ) → ((j : ℕ) → from ≤ j → j < from + n → test j ≡ false) → find test (range_with_len from n) ≡ None
find-nowhere test from zero nowhere = refl
find-nowhere test from (suc n) nowhere =
    rw (nowhere from (omega arith) (omega arith)) (find-nowhere test (from + 1) n (λ j above below. nowhere j (omega arith) (omega arith)))

-- the name with the suffix that was found
abbrev chosen : List ℕ → Option ℕ → List ℕ
chosen name found = elim found [ Some k ↦ suffixed name k | None ↦ name ]

-- A free name isn't there.
pub free_name-free : (names : List (List ℕ)) (name : List ℕ) → length names < 2 ^ 63 → is_among names (free_name names name) ≡ false
free_name-free names name few =
    elim (cases_Bool (is_among names name)) as (λ _. is_among names (free_name names name) ≡ false) [
      | inr free ↦ rw free free
      | inl taken ↦
          elim (cases_Option (first_free names name)) as (λ _. is_among names (free_name names name) ≡ false) [
            | inl none ↦
                let test = λ (k : ℕ). not (is_among names (suffixed name k)) in
                let all = all-there name 2 (length names + 1) names (omega arith)
                (λ k low high. not-false (is_among names (suffixed name k)) (find-none test 2 (length names + 1) none k low high)) in
                absurd (omega arith)
            | inr some ↦
                ap (is_among names) (ap (λ t. cond t (chosen name (first_free names name)) name) taken ∙ ap (chosen name) some.1)
                ∙ not-true (is_among names (suffixed name some.0)) (find-some (λ k. not (is_among names (suffixed name k))) (range_with_len 2 (length names + 1)) some.0 some.1)
          ]
    ]

module _ (names : List (List ℕ)) (name : List ℕ) where
  pub free_name-untaken : is_among names name ≡ false → free_name names name ≡ name
  free_name-untaken free = ap (λ t. cond t (chosen name (first_free names name)) name) free

  pub free_name-found : (k : ℕ) → is_among names name ≡ true → 2 ≤ k → k < length names + 3 → ((j : ℕ) → 2 ≤ j → j < k → is_among names (suffixed name j) ≡ true) → is_among names (suffixed name k) ≡ false
      → free_name names name ≡ suffixed name k
  free_name-found k taken low high before free =
      ap (λ t. cond t (chosen name (first_free names name)) name) taken
      ∙ ap (chosen name) (find-first (λ k. not (is_among names (suffixed name k))) 2 (length names + 1) k low (omega arith) (λ j above below. ap not (before j above below)) (ap not free))

  pub free_name-nowhere : is_among names name ≡ true → ((j : ℕ) → 2 ≤ j → j < length names + 3 → is_among names (suffixed name j) ≡ true) → free_name names name ≡ name
  free_name-nowhere taken all =
      ap (λ t. cond t (chosen name (first_free names name)) name) taken
      ∙ ap (chosen name) (find-nowhere (λ k. not (is_among names (suffixed name k))) 2 (length names + 1) (λ j above below. ap not (all j above (omega arith))))

distinct-last : (names : List (List ℕ)) (name : List ℕ) → are_distinct names ≡ true → is_among names name ≡ false → are_distinct (names ++ name ∷ []) ≡ true
distinct-last [] name distinct free = refl
distinct-last (n ∷ names) name distinct free =
    let parts = and_parts (not (list_any (bytes_eq n) names)) (are_distinct names) distinct in
    let apart = or_parts (bytes_eq name n) (is_among names name) free in
    and_from (not (list_any (bytes_eq n) (names ++ name ∷ []))) (are_distinct (names ++ name ∷ []))
    (ap not (list_any-append (bytes_eq n) names (name ∷ []) ∙ ap₂ (λ a b. a || (b || false)) (not-true (list_any (bytes_eq n) names) parts.0) (bytes_eq-swap n name ∙ apart.0)))
    (distinct-last names name parts.1 apart.1)

distinct-following : (before names : List (List ℕ)) → length before + length names < 2 ^ 63 → are_distinct before ≡ true → are_distinct (before ++ distinct_after before names) ≡ true
distinct-following before [] few distinct = ap are_distinct (append-nil before) ∙ distinct
distinct-following before (name ∷ names) few distinct =
    let free = free_name before name in
    let prefix = before ++ free ∷ [] in
    ap are_distinct (sym (append_assoc before (free ∷ []) (distinct_after prefix names)))
    ∙ distinct-following prefix names (omega (arith, length-append before (free ∷ []))) (distinct-last before free distinct (free_name-free before name (omega arith)))

-- Names that were made distinct are.
pub are_distinct-names : (names : List (List ℕ)) → length names < 2 ^ 63 → are_distinct (distinct_names names) ≡ true
are_distinct-names names few = distinct-following [] names (omega arith) refl

-- as many distinct names as names
pub length-distinct : (before names : List (List ℕ)) → length (distinct_after before names) ≡ length names
length-distinct before [] = refl
length-distinct before (name ∷ names) = ap suc (length-distinct (before ++ free_name before name ∷ []) names)
