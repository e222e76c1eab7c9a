-- The pieces of a text, joined with the separator, are the text.
use Rattle.std.proofs.Common.{◌≡◌, ℕ, zero, suc, ◌+◌, cond, List, [], ◌∷◌, ◌++◌, length, take, drop, Option, Some, None, refl, ap, sym, ◌∙◌, inl, inr, arith}
use Rattle.std.specs.Option.{option_map}
use Rattle.std.proofs.Math.ListN.{take-append-drop}
use Rattle.std.proofs.lemmas.Bool.{cases_Bool}
use Rattle.std.proofs.lemmas.Slice.Eq.{bytes_eq-Decides}
use Rattle.mlr_spec.specs.Json.{joined}
use Rattle.mlr_spec.specs.Split.{begins_with, parts_from, place_in}
use Rattle.mlr_spec.proofs.Splitting.{cases_Option}
use Rattle.verbs_nest.specs.Pieces.{pieces_of}

module _ (separator : List ℕ) where
  -- what precedes the separator, the separator, and what follows it
  around : (text : List ℕ) (place : ℕ) → place_in separator text ≡ Some place → take place text ++ separator ++ drop (place + length separator) text ≡ text
  around [] place found = absurd (let e : None ≡ Some place = found in cc)
  around (b ∷ text) place found =
      elim (cases_Bool (begins_with separator (b ∷ text))) as (λ _. take place (b ∷ text) ++ separator ++ drop (place + length separator) (b ∷ text) ≡ b ∷ text) [
        | inl here ↦
            let first : Some 0 ≡ Some place = sym (ap (λ t. cond t (Some 0) (option_map (λ place. place + 1) (place_in separator text))) here) ∙ found in
            let start : 0 ≡ place = cc in
            let end : place + length separator ≡ length separator = omega arith in
            let begins : take (length separator) (b ∷ text) ≡ separator = (bytes_eq-Decides (take (length separator) (b ∷ text)) separator).0 here in
            ap (λ n. take n (b ∷ text) ++ separator ++ drop (place + length separator) (b ∷ text)) (sym start)
            ∙ ap (λ n. separator ++ drop n (b ∷ text)) end
            ∙ ap (λ t. t ++ drop (length separator) (b ∷ text)) (sym begins)
            ∙ take-append-drop (length separator) (b ∷ text)
        | inr other ↦
            let later : option_map (λ place. place + 1) (place_in separator text) ≡ Some place = sym (ap (λ t. cond t (Some 0) (option_map (λ place. place + 1) (place_in separator text))) other) ∙ found in
            elim (cases_Option (place_in separator text)) as (λ _. take place (b ∷ text) ++ separator ++ drop (place + length separator) (b ∷ text) ≡ b ∷ text) [
              | inl none ↦ absurd (let e : None ≡ Some place = sym (ap (option_map (λ place. place + 1)) none) ∙ later in cc)
              | inr (before, is) ↦
                  let same : Some (before + 1) ≡ Some place = sym (ap (option_map (λ place. place + 1)) is) ∙ later in
                  let next : before + 1 ≡ place = cc in
                  let start : place ≡ suc before = omega arith in
                  let end : place + length separator ≡ suc (before + length separator) = omega arith in
                  ap (λ n. take n (b ∷ text) ++ separator ++ drop (place + length separator) (b ∷ text)) start
                  ∙ ap (λ n. b ∷ (take before text ++ separator ++ drop n (b ∷ text))) end
                  ∙ ap (λ t. b ∷ t) (around text before is)
            ]
      ]

  -- the parts after a first place that was looked for
  abbrev parts_at : ℕ → List ℕ → Option ℕ → List (List ℕ)
  parts_at n text found = elim found [
    | None ↦ text ∷ []
    | Some place ↦ take place text ∷ parts_from n separator (drop (place + length separator) text)
  ]

  -- there is a part
  some-parts : (n : ℕ) (text : List ℕ) → (first : List ℕ) × (more : List (List ℕ)) × (parts_from n separator text ≡ first ∷ more)
  some-parts zero text = (text, [], refl)
  some-parts (suc n) text = at (place_in separator text)
    where
      at : (found : Option ℕ) → (first : List ℕ) × (more : List (List ℕ)) × (parts_at n text found ≡ first ∷ more)
      at None = (text, [], refl)
      at (Some place) = (take place text, parts_from n separator (drop (place + length separator) text), refl)

  joined-next : (n : ℕ) (text first : List ℕ) → joined separator (first ∷ parts_from n separator text) ≡ first ++ separator ++ joined separator (parts_from n separator text)
  joined-next n text first =
      let (next, more, is) = some-parts n text in
      ap (λ parts. joined separator (first ∷ parts)) is ∙ sym (ap (λ parts. first ++ separator ++ joined separator parts) is)

  joined-parts : (n : ℕ) (text : List ℕ) → joined separator (parts_from n separator text) ≡ text
  joined-parts zero text = refl
  joined-parts (suc n) text =
      elim (cases_Option (place_in separator text)) as (λ _. joined separator (parts_from (suc n) separator text) ≡ text) [
        | inl none ↦ ap (λ found. joined separator (parts_at n text found)) none
        | inr (place, is) ↦
            ap (λ found. joined separator (parts_at n text found)) is
            ∙ joined-next n (drop (place + length separator) text) (take place text)
            ∙ ap (λ rest. take place text ++ separator ++ rest) (joined-parts n (drop (place + length separator) text))
            ∙ around text place is
      ]

pub joined-pieces : (separator text : List ℕ) → joined separator (pieces_of separator text) ≡ text
joined-pieces [] text = refl
joined-pieces (b ∷ separator) text = joined-parts (b ∷ separator) (length text) text

-- a text has a piece
pub some-pieces : (separator text : List ℕ) → (first : List ℕ) × (more : List (List ℕ)) × (pieces_of separator text ≡ first ∷ more)
some-pieces [] text = (text, [], refl)
some-pieces (b ∷ separator) text = some-parts (b ∷ separator) (length text) text
