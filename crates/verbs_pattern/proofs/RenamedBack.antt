-- Renaming one field and renaming it back.
use Rattle.std.proofs.Common.{◌≡◌, ℕ, true, false, not, ◌||◌, List, [], ◌∷◌, Some, refl, sym, ap, ◌∙◌, subst, inl, inr}
use Rattle.std.specs.Option.{is_none}
use Rattle.std.specs.Str.{bytes_eq}
use Rattle.std.proofs.lemmas.Bool.{and_parts, cases_Bool, cond-false, cond-true, not-true, or_from, or_left, or_parts, or_right, true≢false}
use Rattle.std.proofs.lemmas.Slice.Eq.{bytes_eq-Decides}
use Rattle.mlr_event.proofs.Distinct.{bytes_eq-swap}
use Rattle.mlr_event.specs.Reading.{is_among}
use Rattle.mlr_spec.specs.Pairs.{value_at, remove_at, with_name, rename_at, keys_of, are_distinct}
use Rattle.mlr_spec.specs.Tree.{Tree}
use Rattle.verbs_pattern.proofs.Renaming.{removed-absent}

abbrev Pair : Type 0
Pair = List ℕ × Tree

-- a name that no field has has no value
no-value : (b : List ℕ) (pairs : List Pair) → is_among (keys_of pairs) b ≡ false → is_none (value_at b pairs) ≡ true
no-value b [] absent = refl
no-value b (p ∷ pairs) absent =
    let parts = or_parts (bytes_eq b p.0) (is_among (keys_of pairs) b) absent in
    ap is_none (cond-false (bytes_eq p.0 b) (Some p.1) (value_at b pairs) (bytes_eq-swap p.0 b ∙ parts.0)) ∙ no-value b pairs parts.1

module _ (a b : List ℕ) (other : bytes_eq a b ≡ false) where
  -- the new name has a value, the old name has none, and the way back is open
  has-new : (pairs : List Pair) → is_none (value_at a pairs) ≡ false → is_none (value_at b (with_name a b pairs)) ≡ false
  has-new [] there = absurd (true≢false there)
  has-new (p ∷ pairs) there = elim (cases_Bool (bytes_eq p.0 a)) as (λ _. is_none (value_at b (with_name a b (p ∷ pairs))) ≡ false) [
    | inl here ↦
        ap (λ l. is_none (value_at b l)) (cond-true (bytes_eq p.0 a) ((b, p.1) ∷ pairs) (p ∷ with_name a b pairs) here)
        ∙ ap is_none (cond-true (bytes_eq b b) (Some p.1) (value_at b pairs) ((bytes_eq-Decides b b).1 refl))
    | inr off ↦
        let more = has-new pairs (sym (ap is_none (cond-false (bytes_eq p.0 a) (Some p.1) (value_at a pairs) off)) ∙ there) in
        ap (λ l. is_none (value_at b l)) (cond-false (bytes_eq p.0 a) ((b, p.1) ∷ pairs) (p ∷ with_name a b pairs) off)
        ∙ (elim (cases_Bool (bytes_eq p.0 b)) as (λ _. is_none (value_at b (p ∷ with_name a b pairs)) ≡ false) [
          | inl same ↦ ap is_none (cond-true (bytes_eq p.0 b) (Some p.1) (value_at b (with_name a b pairs)) same)
          | inr else ↦ ap is_none (cond-false (bytes_eq p.0 b) (Some p.1) (value_at b (with_name a b pairs)) else) ∙ more
        ])
  ]

  old-gone : (pairs : List Pair) → are_distinct (keys_of pairs) ≡ true → is_none (value_at a pairs) ≡ false → is_among (keys_of (with_name a b pairs)) a ≡ false
  old-gone [] distinct there = refl
  old-gone (p ∷ pairs) distinct there =
      let parts = and_parts (not (is_among (keys_of pairs) p.0)) (are_distinct (keys_of pairs)) distinct in
      elim (cases_Bool (bytes_eq p.0 a)) as (λ _. is_among (keys_of (with_name a b (p ∷ pairs))) a ≡ false) [
        | inl here ↦
            ap (λ l. is_among (keys_of l) a) (cond-true (bytes_eq p.0 a) ((b, p.1) ∷ pairs) (p ∷ with_name a b pairs) here)
            ∙ or_from (bytes_eq a b) _ other (subst (λ k. is_among (keys_of pairs) k ≡ false) ((bytes_eq-Decides p.0 a).0 here) (not-true _ parts.0))
        | inr off ↦
            ap (λ l. is_among (keys_of l) a) (cond-false (bytes_eq p.0 a) ((b, p.1) ∷ pairs) (p ∷ with_name a b pairs) off)
            ∙ or_from (bytes_eq a p.0) _ (bytes_eq-swap a p.0 ∙ off)
            (old-gone pairs parts.1 (sym (ap is_none (cond-false (bytes_eq p.0 a) (Some p.1) (value_at a pairs) off)) ∙ there))
      ]

  named-back : (pairs : List Pair) → is_among (keys_of pairs) b ≡ false → is_none (value_at a pairs) ≡ false → with_name b a (with_name a b pairs) ≡ pairs
  named-back [] absent there = refl
  named-back (p ∷ pairs) absent there =
      let parts = or_parts (bytes_eq b p.0) (is_among (keys_of pairs) b) absent in
      elim (cases_Bool (bytes_eq p.0 a)) as (λ _. with_name b a (with_name a b (p ∷ pairs)) ≡ p ∷ pairs) [
        | inl here ↦
            let is : p.0 ≡ a = (bytes_eq-Decides p.0 a).0 here in
            ap (with_name b a) (cond-true (bytes_eq p.0 a) ((b, p.1) ∷ pairs) (p ∷ with_name a b pairs) here)
            ∙ cond-true (bytes_eq b b) ((a, p.1) ∷ pairs) ((b, p.1) ∷ with_name b a pairs) ((bytes_eq-Decides b b).1 refl)
            ∙ ap (λ name. (name, p.1) ∷ pairs) (sym is)
        | inr off ↦
            ap (with_name b a) (cond-false (bytes_eq p.0 a) ((b, p.1) ∷ pairs) (p ∷ with_name a b pairs) off)
            ∙ cond-false (bytes_eq p.0 b) ((a, p.1) ∷ with_name a b pairs) (p ∷ with_name b a (with_name a b pairs)) (bytes_eq-swap p.0 b ∙ parts.0)
            ∙ ap (λ l. p ∷ l) (named-back pairs parts.1 (sym (ap is_none (cond-false (bytes_eq p.0 a) (Some p.1) (value_at a pairs) off)) ∙ there))
      ]

  moved : (pairs : List Pair) → are_distinct (keys_of pairs) ≡ true → is_among (keys_of pairs) b ≡ false → is_none (value_at a pairs) ≡ false → rename_at b a (rename_at a b pairs) ≡ pairs
  moved pairs distinct absent there =
      let once : rename_at a b pairs ≡ with_name a b pairs
      = cond-false (bytes_eq a b || is_none (value_at a pairs)) pairs (with_name a b (remove_at b pairs)) (or_from _ _ other there)
      ∙ ap (with_name a b) (removed-absent b pairs absent) in
      let now = with_name a b pairs in
      ap (rename_at b a) once
      ∙ cond-false (bytes_eq b a || is_none (value_at b now)) now (with_name b a (remove_at a now)) (or_from _ _ (bytes_eq-swap b a ∙ other) (has-new pairs there))
      ∙ ap (with_name b a) (removed-absent a now (old-gone pairs distinct there))
      ∙ named-back pairs absent there

pub renamed-back : (a b : List ℕ) (pairs : List Pair) → are_distinct (keys_of pairs) ≡ true → is_among (keys_of pairs) b ≡ false → rename_at b a (rename_at a b pairs) ≡ pairs
renamed-back a b pairs distinct absent = elim (cases_Bool (bytes_eq a b)) as (λ _. rename_at b a (rename_at a b pairs) ≡ pairs) [
  | inl same ↦
      ap (rename_at b a) (cond-true (bytes_eq a b || is_none (value_at a pairs)) pairs (with_name a b (remove_at b pairs)) (or_left _ _ same))
      ∙ cond-true (bytes_eq b a || is_none (value_at b pairs)) pairs (with_name b a (remove_at a pairs)) (or_left _ _ (bytes_eq-swap b a ∙ same))
  | inr other ↦
      elim (cases_Bool (is_none (value_at a pairs))) as (λ _. rename_at b a (rename_at a b pairs) ≡ pairs) [
        | inl none ↦
            ap (rename_at b a) (cond-true (bytes_eq a b || is_none (value_at a pairs)) pairs (with_name a b (remove_at b pairs)) (or_right _ _ none))
            ∙ cond-true (bytes_eq b a || is_none (value_at b pairs)) pairs (with_name b a (remove_at a pairs)) (or_right _ _ (no-value b pairs absent))
        | inr there ↦ moved a b other pairs distinct absent there
      ]
]
