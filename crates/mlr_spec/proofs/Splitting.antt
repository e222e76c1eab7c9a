-- A text split at its first separator, and then at the others.
use Rattle.std.proofs.Common.{◌≡◌, ℕ, zero, suc, ◌+◌, ◌<◌, ◌≤◌, true, cond, List, [], ◌∷◌, length, take, drop, Option, Some, None, ◌⊎◌, refl, ap, sym, ◌∙◌, arith, inl, inr, length-drop, length-take}
use Rattle.std.specs.Option.{option_map}
use Rattle.std.proofs.lemmas.Bool.{cases_Bool}
use Rattle.std.proofs.lemmas.Slice.Eq.{bytes_eq-Decides}
use Rattle.mlr_spec.specs.Split.{begins_with, place_in, parts_from, split_by}

-- what an option is
pub cases_Option : {A : Type 0} (found : Option A) → (found ≡ None) ⊎ ((x : A) × (found ≡ Some x))
cases_Option None = inl refl
cases_Option (Some x) = inr (x, refl)

module _ (separator : List ℕ) where
  pub begins_with-fits : (text : List ℕ) → begins_with separator text ≡ true → length separator ≤ length text
  begins_with-fits text h =
      let same = ap length ((bytes_eq-Decides (take (length separator) text) separator).0 h) in
      omega (arith, length-take (length separator) text)

  -- a separator that is found lies in the text
  pub place_in-fits : (text : List ℕ) (place : ℕ) → place_in separator text ≡ Some place → place + length separator ≤ length text
  place_in-fits [] place found = absurd (let e : None ≡ Some place = found in cc)
  place_in-fits (b ∷ text) place found =
      elim (cases_Bool (begins_with separator (b ∷ text))) as (λ _. place + length separator ≤ length (b ∷ text)) [
        | inl here ↦
            let first : Some 0 ≡ Some place = sym (ap (λ t. cond t (Some 0) (option_map (λ place. place + 1) (place_in separator text))) here) ∙ found in
            let zero_is : 0 ≡ place = cc in
            omega (arith, begins_with-fits (b ∷ text) here)
        | inr other ↦
            let later : option_map (λ place. place + 1) (place_in separator text) ≡ Some place = sym (ap (λ t. cond t (Some 0) (option_map (λ place. place + 1) (place_in separator text))) other) ∙ found in
            elim (cases_Option (place_in separator text)) as (λ _. place + length separator ≤ length (b ∷ text)) [
              | inl none ↦ absurd (let e : None ≡ Some place = sym (ap (option_map (λ place. place + 1)) none) ∙ later in cc)
              | inr some ↦
                  let same : Some (some.0 + 1) ≡ Some place = sym (ap (option_map (λ place. place + 1)) some.1) ∙ later in
                  let place_is : some.0 + 1 ≡ place = cc in
                  omega (arith, place_in-fits text some.0 some.1)
            ]
      ]

  -- the parts after a first place that was looked for
  abbrev parts_at : ℕ → List ℕ → Option ℕ → List (List ℕ)
  parts_at n text found = elim found [
    | None ↦ text ∷ []
    | Some place ↦ take place text ∷ parts_from n separator (drop (place + length separator) text)
  ]

  -- each step takes some of the text, so that the number of steps doesn't count as long as there are enough
  parts_from-steps : (n m : ℕ) (text : List ℕ) → 0 < length separator → length text ≤ n → length text ≤ m → parts_from n separator text ≡ parts_from m separator text
  parts_from-steps zero zero text some enough enough_2 = refl
  parts_from-steps zero (suc m) [] some enough enough_2 = refl
  parts_from-steps zero (suc m) (b ∷ text) some enough enough_2 = absurd (omega arith)
  parts_from-steps (suc n) zero [] some enough enough_2 = refl
  parts_from-steps (suc n) zero (b ∷ text) some enough enough_2 = absurd (omega arith)
  parts_from-steps (suc n) (suc m) text some enough enough_2 =
      elim (cases_Option (place_in separator text)) as (λ _. parts_from (suc n) separator text ≡ parts_from (suc m) separator text) [
        | inl none ↦ ap (parts_at n text) none ∙ sym (ap (parts_at m text) none)
        | inr found ↦
            let place = found.0 in
            let shorter = length-drop (place + length separator) text in
            let fits = place_in-fits text place found.1 in
            ap (parts_at n text) found.1
            ∙ ap (λ parts. take place text ∷ parts) (parts_from-steps n m (drop (place + length separator) text) some (omega arith) (omega arith))
            ∙ sym (ap (parts_at m text) found.1)
      ]

  pub split_by-none : (text : List ℕ) → place_in separator text ≡ None → split_by separator text ≡ text ∷ []
  split_by-none [] none = refl
  split_by-none (b ∷ text) none = ap (parts_at (length text) (b ∷ text)) none

  pub split_by-some : (text : List ℕ) (place : ℕ) → 0 < length separator → place_in separator text ≡ Some place
      → split_by separator text ≡ take place text ∷ split_by separator (drop (place + length separator) text)
  split_by-some [] place some found = absurd (let e : None ≡ Some place = found in cc)
  split_by-some (b ∷ text) place some found =
      let shorter = length-drop (place + length separator) (b ∷ text) in
      let fits = place_in-fits (b ∷ text) place found in
      let following = drop (place + length separator) (b ∷ text) in
      ap (parts_at (length text) (b ∷ text)) found ∙ ap (λ parts. take place (b ∷ text) ∷ parts) (parts_from-steps (length text) (length following) following some (omega arith) (omega arith))
