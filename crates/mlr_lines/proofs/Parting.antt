-- The lines, defined byte by byte, are the parts between LFs.
use Rattle.std.proofs.Common.{◌≡◌, ℕ, Bool, List, [], ◌∷◌, ◌++◌, refl, ap, sym, ◌∙◌, append_assoc, eqb, inl, inr}
use Rattle.std.specs.List.{slice_split, onto_first}
use Rattle.std.proofs.lemmas.List.{append-nil}
use Rattle.std.proofs.lemmas.Bool.{cases_Bool}
use Rattle.mlr_lines.specs.Lines.{ended_after, begun_after}

abbrev is_end : ℕ → Bool
is_end b = eqb b 10

-- the parts of a text, where `begun` precedes the first one
abbrev joined_to : List ℕ → List (List ℕ) → List (List ℕ)
joined_to begun [] = []
joined_to begun (part ∷ parts) = (begun ++ part) ∷ parts

joined_to-none : (parts : List (List ℕ)) → joined_to [] parts ≡ parts
joined_to-none [] = refl
joined_to-none (part ∷ parts) = refl

-- a byte added to the line that has begun, before at least one part
joined_to-onto : (begun : List ℕ) (b : ℕ) (text : List ℕ) → joined_to (begun ++ b ∷ []) (slice_split is_end text) ≡ joined_to begun (onto_first b (slice_split is_end text))
joined_to-onto begun b [] = ap (λ line. line ∷ []) (append_assoc begun (b ∷ []) [])
joined_to-onto begun b (c ∷ text) =
    elim (cases_Bool (is_end c)) as (λ _. joined_to (begun ++ b ∷ []) (slice_split is_end (c ∷ text)) ≡ joined_to begun (onto_first b (slice_split is_end (c ∷ text)))) [
      | inl y ↦ rw y (ap (λ line. line ∷ slice_split is_end text) (append_assoc begun (b ∷ []) []))
      | inr n ↦ rw n (parts-onto begun b c (slice_split is_end text))
    ] where
      parts-onto : (begun : List ℕ) (b c : ℕ) (parts : List (List ℕ)) → joined_to (begun ++ b ∷ []) (onto_first c parts) ≡ joined_to begun (onto_first b (onto_first c parts))
      parts-onto begun b c [] = ap (λ line. line ∷ []) (append_assoc begun (b ∷ []) (c ∷ []))
      parts-onto begun b c (part ∷ parts) = ap (λ line. line ∷ parts) (append_assoc begun (b ∷ []) (c ∷ part))

pub parts-joined : (begun text : List ℕ) → ended_after begun text ++ begun_after begun text ∷ [] ≡ joined_to begun (slice_split is_end text)
parts-joined begun [] = ap (λ line. line ∷ []) (sym (append-nil begun))
parts-joined begun (b ∷ text) =
    elim (cases_Bool (is_end b)) as (λ _. ended_after begun (b ∷ text) ++ begun_after begun (b ∷ text) ∷ [] ≡ joined_to begun (slice_split is_end (b ∷ text))) [
      | inl y ↦ rw y (ap (λ line. line ∷ (ended_after [] text ++ begun_after [] text ∷ [])) (sym (append-nil begun))
          ∙ ap (λ parts. (begun ++ []) ∷ parts) (parts-joined [] text ∙ joined_to-none (slice_split is_end text)))
      | inr n ↦ rw n (parts-joined (begun ++ b ∷ []) text ∙ joined_to-onto begun b text)
    ]

pub parts-are : (text : List ℕ) → ended_after [] text ++ begun_after [] text ∷ [] ≡ slice_split is_end text
parts-are text = parts-joined [] text ∙ joined_to-none (slice_split is_end text)
