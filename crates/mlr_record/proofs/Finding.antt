-- What a search for a separator says of its first place.
use Rattle.std.proofs.Common.{◌≡◌, ℕ, zero, suc, ◌+◌, ◌-◌, ◌<◌, ◌≤◌, Bool, true, cond, List, [], ◌∷◌, length, take, drop, get_or, Option, Some, None, IfSome, refl, ap, sym, subst, ◌∙◌, arith, inl, inr, add-one, add-zero, length-drop, get_or-drop, ltb}
use Rattle.std.specs.Option.{option_map}
use Rattle.std.proofs.Math.Seq.{take-length}
use Rattle.std.proofs.lemmas.Bool.{cases_Bool, eqb-true, eq-eqb, ltb-false, ltb-true}
use Rattle.std.proofs.lemmas.Slice.Eq.{bytes_eq-Decides}
use Rattle.memchr.specs.Find.{OccursAt, FindsNeedle, IsFirstByte, Nowhere, Passes, is_byte}
use Rattle.memchr.proofs.lemmas.MatchLemmas.{OccursAt-part, OccursAt-from_part}
use Rattle.mlr_spec.proofs.Splitting.{begins_with-fits, place_in-fits}
use Rattle.mlr_spec.specs.Split.{begins_with, place_in}

module _ (separator : List ℕ) where
  begins_with-occurs : (text : List ℕ) → length separator ≤ length text → begins_with separator text ≡ true → OccursAt text separator 0
  begins_with-occurs text fits h = OccursAt-from_part text separator 0 (omega arith) ((bytes_eq-Decides (take (length separator) text) separator).0 h)

  occurs-begins_with : (text : List ℕ) → OccursAt text separator 0 → begins_with separator text ≡ true
  occurs-begins_with text h = (bytes_eq-Decides (take (length separator) text) separator).1 (OccursAt-part text separator 0 h)

  occurs-later : (b : ℕ) (text : List ℕ) (k : ℕ) → OccursAt text separator k → OccursAt (b ∷ text) separator (suc k)
  occurs-later b text k h =
      OccursAt-from_part (b ∷ text) separator (suc k) (let fits = h.fits in omega arith) (OccursAt-part text separator k h)

  occurs-earlier : (b : ℕ) (text : List ℕ) (k : ℕ) → OccursAt (b ∷ text) separator (suc k) → OccursAt text separator k
  occurs-earlier b text k h =
      OccursAt-from_part text separator k (let fits = h.fits in omega arith) (OccursAt-part (b ∷ text) separator (suc k) h)

  place_in-none : (text : List ℕ) → ((k : ℕ) → k ≤ length text → OccursAt text separator k → ⊥) → place_in separator text ≡ None
  place_in-none [] nowhere = refl
  place_in-none (b ∷ text) nowhere =
      elim (cases_Bool (begins_with separator (b ∷ text))) as (λ _. place_in separator (b ∷ text) ≡ None) [
        | inl here ↦ absurd (nowhere 0 (omega arith) (begins_with-occurs (b ∷ text) (begins_with-fits separator (b ∷ text) here) here))
        | inr other ↦
            ap (λ t. cond t (Some 0) (option_map (λ place. place + 1) (place_in separator text))) other
            ∙ ap (option_map (λ place. place + 1)) (place_in-none text (λ k below occurs. nowhere (suc k) (omega arith) (occurs-later b text k occurs)))
      ]

  place_in-some : (text : List ℕ) (k : ℕ) → 0 < length separator → OccursAt text separator k → ((j : ℕ) → j < k → OccursAt text separator j → ⊥) → place_in separator text ≡ Some k
  place_in-some [] k some occurs before = absurd (let fits = occurs.fits in omega arith)
  place_in-some (b ∷ text) zero some occurs before =
      ap (λ t. cond t (Some 0) (option_map (λ place. place + 1) (place_in separator text))) (occurs-begins_with (b ∷ text) occurs)
  place_in-some (b ∷ text) (suc k) some occurs before =
      elim (cases_Bool (begins_with separator (b ∷ text))) as (λ _. place_in separator (b ∷ text) ≡ Some (suc k)) [
        | inl here ↦ absurd (before 0 (omega arith) (begins_with-occurs (b ∷ text) (begins_with-fits separator (b ∷ text) here) here))
        | inr other ↦
            ap (λ t. cond t (Some 0) (option_map (λ place. place + 1) (place_in separator text))) other
            ∙ ap (option_map (λ place. place + 1)) (place_in-some text k some (occurs-earlier b text k occurs) (λ j below earlier. before (suc j) (omega arith) (occurs-later b text j earlier)))
            ∙ ap Some (add-one k)
      ]

  pub FindsNeedle-place_in : (text : List ℕ) (place : Option ℕ) → 0 < length separator → FindsNeedle text separator 0 place → place ≡ place_in separator text
  FindsNeedle-place_in text None some h = sym (place_in-none text (λ k below. h k (omega arith) (omega arith)))
  FindsNeedle-place_in text (Some k) some h = sym (place_in-some text k some h.1 (λ j below. h.0.before j (omega arith) below))

  occurs-passes : (text : List ℕ) (k : ℕ) → length separator ≡ 1 → OccursAt text separator k → Passes (is_byte (get_or separator 0 0)) text k
  occurs-passes text k one occurs =
      eq-eqb (get_or text k 0) (get_or separator 0 0) (ap (λ n. get_or text n 0) (sym (add-zero k)) ∙ occurs.reads 0 (omega arith))

  passes-occurs : (text : List ℕ) (k : ℕ) → length separator ≡ 1 → k < length text → Passes (is_byte (get_or separator 0 0)) text k → OccursAt text separator k
  passes-occurs text k one below passes = record {
    fits = omega arith;
    reads = λ j first. (
        let zero_is : j ≡ 0 = omega arith in
        subst (λ n. get_or text (k + n) 0 ≡ get_or separator n 0) (sym zero_is) (ap (λ n. get_or text n 0) (add-zero k) ∙ eqb-true (get_or text k 0) (get_or separator 0 0) passes)
        );
  }

  pub IsFirstByte-place_in : (text : List ℕ) (place : Option ℕ) → length separator ≡ 1 → IsFirstByte (is_byte (get_or separator 0 0)) text place → place ≡ place_in separator text
  IsFirstByte-place_in text None one h =
      sym (place_in-none text (λ k below occurs. (let fits = occurs.fits in h k (omega arith) (omega arith) (occurs-passes text k one occurs))))
  IsFirstByte-place_in text (Some k) one h =
      let high = h.0.high in
      sym (place_in-some text k (omega arith) (passes-occurs text k one high h.1) (λ j below occurs. h.0.before j (omega arith) below (occurs-passes text j one occurs)))

  pub place_in-inside : (text : List ℕ) (place : Option ℕ) → place ≡ place_in separator text → IfSome place (λ k. k + length separator ≤ length text)
  place_in-inside text None found = tt
  place_in-inside text (Some k) found = place_in-fits separator text k (sym found)

-- the rest of a text from a place on, as a slice reads it
pub whole-rest : (text : List ℕ) (n : ℕ) → take (length text - n) (drop n text) ≡ drop n text
whole-rest text n = ap (λ k. take k (drop n text)) (sym (length-drop n text)) ∙ take-length (drop n text)

-- a byte that passes after a place, and the first one there
module _ (test : ℕ → Bool) (text : List ℕ) (from : ℕ) where
  passes-following : (k : ℕ) → test (get_or (drop from text) k 0) ≡ test (get_or text (from + k) 0)
  passes-following k = ap test (get_or-drop from text k 0)

  pub IsFirstByte-following : (place : Option ℕ) → from ≤ length text → ((j : ℕ) → j < from → Passes test text j → ⊥) → IsFirstByte test (drop from text) place
      → IsFirstByte test text (option_map (λ k. from + k) place)
  IsFirstByte-following place inside none h = at place h
    where
      len_is : length (drop from text) ≡ length text - from
      len_is = length-drop from text

      later : (k : ℕ) → from ≤ k → Passes test text k → Passes test (drop from text) (k - from)
      later k low passes = passes-following (k - from) ∙ ap (λ n. test (get_or text n 0)) (let e : from + (k - from) ≡ k = omega arith in e) ∙ passes

      nowhere : (end : ℕ) → Nowhere (Passes test (drop from text)) 0 end → (k : ℕ) → k < from + end → Passes test text k → ⊥
      nowhere end h k below passes = elim (cases_Bool (ltb k from)) [
        | inl before ↦ none k (ltb-true k from before) passes
        | inr following ↦ let low : from ≤ k = ltb-false k from following in h (k - from) (omega arith) (omega arith) (later k low passes)
      ]

      at : (place : Option ℕ) → IsFirstByte test (drop from text) place → IsFirstByte test text (option_map (λ k. from + k) place)
      at None h = λ k low below passes. nowhere (length (drop from text)) h k (omega (arith, len_is)) passes
      at (Some k) h = (
        record { low = omega arith; high = let high = h.0.high in omega (arith, len_is); before = λ j low below. nowhere k h.0.before j below },
        sym (passes-following k) ∙ h.1,
      )
