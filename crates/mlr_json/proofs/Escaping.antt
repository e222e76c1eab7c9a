-- Texts with their escapes.
use Rattle.std.proofs.Common.{◌≡◌, ℕ, ◌<◌, ◌≤◌, true, false, ◌||◌, nat_lt, ◌==◌, List, [], ◌∷◌, ◌++◌, length, take, drop, get_or, ◌-◌, append_assoc, refl, ap, sym, ◌∙◌, arith}
use Rattle.std.specs.List.{flat_map, position_or_len}
use Rattle.std.proofs.lemmas.Bool.{or_parts, ltb-false, eqb-false, ne_eqb, cases_Bool}
use mathlib.Core.Logic.{inl, inr}
use Rattle.std.proofs.Math.Numerals.{one-add}
use Rattle.std.proofs.Math.Seq.{take-length}
use Rattle.std.proofs.lemmas.List.{get_or-drop, length-drop}
use Rattle.std.proofs.Common.{add-zero}
use Rattle.std.proofs.lemmas.List.Sums.{passes_at_first}
use Rattle.mlr_spec.specs.Json.{escaped, escape_letter}
use Rattle.mlr_json.specs.Escapes.{is_escaped}

escape_letter-plain : (b : ℕ) → 32 ≤ b → (b ≡ 34 → ⊥) → (b ≡ 92 → ⊥) → escape_letter b ≡ 0
escape_letter-plain b high quote backslash =
    rw (ne_eqb b 34 quote, ne_eqb b 92 backslash, ne_eqb b 8 (λ e. omega arith), ne_eqb b 9 (λ e. omega arith), ne_eqb b 10 (λ e. omega arith), ne_eqb b 12 (λ e. omega arith), ne_eqb b 13 (λ e. omega arith)) refl

pub escaped-plain : (b : ℕ) → is_escaped b ≡ false → escaped b ≡ b ∷ []
escaped-plain b h =
    let parts = or_parts (nat_lt b 32 || b == 34) (b == 92) h in
    let low = or_parts (nat_lt b 32) (b == 34) parts.0 in
    let letter = escape_letter-plain b (ltb-false b 32 low.0) (eqb-false b 34 low.1) (eqb-false b 92 parts.1) in
    rw (letter, low.0) refl

-- a text is its prefix without escapes, and what comes from the first escape on
pub flat_map_escaped-split : (text : List ℕ) → flat_map escaped text ≡ take (position_or_len is_escaped text) text ++ flat_map escaped (drop (position_or_len is_escaped text) text)
flat_map_escaped-split [] = refl
flat_map_escaped-split (b ∷ text) =
    elim (cases_Bool (is_escaped b)) as (λ _. flat_map escaped (b ∷ text) ≡ take (position_or_len is_escaped (b ∷ text)) (b ∷ text) ++ flat_map escaped (drop (position_or_len is_escaped (b ∷ text)) (b ∷ text))) [
      | inl y ↦ rw y refl
      | inr n ↦ rw (n, escaped-plain b n, one-add) (ap (λ x. b ∷ x) (flat_map_escaped-split text))
    ]

-- a list that isn't empty is its first element and the rest, as a slice's pattern reads them
pub cons_of : (text : List ℕ) → 1 ≤ length text → text ≡ get_or text 0 0 ∷ take (length text - 1) (drop 1 text)
cons_of [] h = absurd (omega arith)
cons_of (b ∷ text) h =
    let all : length (b ∷ text) - 1 ≡ length text = omega arith in
    ap (λ x. b ∷ x) (sym (ap (λ n. take n text) all ∙ take-length text))

module _ (text prefix following into new : List ℕ) (prefix_is : prefix ≡ take (position_or_len is_escaped text) text) (after_is : following ≡ drop (position_or_len is_escaped text) text) (new_is : new ≡ into ++ prefix) where
  pub run_is : new ++ flat_map escaped following ≡ into ++ flat_map escaped text
  run_is = rw (new_is, prefix_is, after_is, append_assoc) (ap (λ x. into ++ x) (sym (flat_map_escaped-split text)))

  pub run_with_escape : (last : List ℕ) → 1 ≤ length following → last ≡ new ++ escaped (get_or following 0 0) → last ++ flat_map escaped (take (length following - 1) (drop 1 following)) ≡ into ++ flat_map escaped text
  run_with_escape last some last_is =
      rw (last_is, append_assoc) (ap (λ x. new ++ flat_map escaped x) (sym (cons_of following some)) ∙ run_is)

  pub first_is_escaped : 1 ≤ length following → is_escaped (get_or following 0 0) ≡ true
  first_is_escaped some =
      let place = position_or_len is_escaped text in
      let below : place < length text = omega (arith, length-drop place text, ap length after_is) in
      ap is_escaped (ap (λ x. get_or x 0 0) after_is ∙ get_or-drop place text 0 0 ∙ ap (λ n. get_or text n 0) (add-zero place))
      ∙ passes_at_first is_escaped text 0 below
