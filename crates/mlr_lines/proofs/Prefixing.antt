-- More bytes don't change the lines that are fixed, and the ended lines are those of the longest prefix that
-- ends with LF.
use Rattle.std.proofs.Common.{◌≡◌, ℕ, Bool, true, false, cond, ◌||◌, eqb, List, [], ◌∷◌, ◌++◌, map, refl, ap, ap₂, sym, ◌∙◌, append_assoc, inl, inr}
use Rattle.std.proofs.lemmas.Bool.{cases_Bool, or_parts}
use Rattle.std.proofs.lemmas.List.{append-nil, map-append}
use Rattle.mlr_lines.specs.Prefixes.{ended_prefix, has_end}
use Rattle.mlr_lines.specs.Lines.{ended_after, begun_after, ended_lines, begun_line, fixed_lines, whole_lines, last_line, without_return}
use Rattle.mlr_lines.specs.Steps.{are_none, unmarked_lines, unmarked_line}
use Rattle.mlr_lines.proofs.Cutting.{begun_line-is, ended_lines-append, ended_lines-is}

-- more bytes fix more lines, and keep those before
pub fixed-more : (bytes more : List ℕ) → (lines : List (List ℕ)) × (fixed_lines (bytes ++ more) ≡ fixed_lines bytes ++ lines)
fixed-more bytes more =
    let later = unmarked_lines (are_none (ended_lines bytes)) (ended_after (begun_after [] bytes) more) in
    (map without_return later, ap (map without_return) (ended_lines-append bytes more) ∙ map-append without_return (ended_lines bytes) later)

pub whole-more : (bytes more : List ℕ) → (lines : List (List ℕ)) × (whole_lines (bytes ++ more) ≡ fixed_lines bytes ++ lines)
whole-more bytes more =
    let later = fixed-more bytes more in
    let last = last_line (begun_line (bytes ++ more)) in
    (later.0 ++ last, ap (λ fixed. fixed ++ last) later.1 ∙ append_assoc (fixed_lines bytes) later.0 last)

no-lines : (bytes begun : List ℕ) → has_end bytes ≡ false → ended_after begun bytes ≡ []
no-lines [] begun none = refl
no-lines (b ∷ bytes) begun none =
    let parts = or_parts (eqb b 10) (has_end bytes) none in
    rw parts.0 (no-lines bytes (begun ++ b ∷ []) parts.1)

no-prefix : (bytes : List ℕ) → has_end bytes ≡ false → ended_prefix bytes ≡ []
no-prefix [] none = refl
no-prefix (b ∷ bytes) none = ap (λ t. cond t (b ∷ ended_prefix bytes) []) none

prefix-on : (b : ℕ) (bytes : List ℕ) → has_end (b ∷ bytes) ≡ true → ended_prefix (b ∷ bytes) ≡ b ∷ ended_prefix bytes
prefix-on b bytes end = ap (λ t. cond t (b ∷ ended_prefix bytes) []) end

ended-prefix : (bytes begun : List ℕ) → ended_after begun (ended_prefix bytes) ≡ ended_after begun bytes
ended-prefix [] begun = refl
ended-prefix (b ∷ bytes) begun =
    elim (cases_Bool (has_end (b ∷ bytes))) as (λ _. ended_after begun (ended_prefix (b ∷ bytes)) ≡ ended_after begun (b ∷ bytes)) [
      | inr none ↦ ap (ended_after begun) (no-prefix (b ∷ bytes) none) ∙ sym (no-lines (b ∷ bytes) begun none)
      | inl end ↦
          ap (ended_after begun) (prefix-on b bytes end)
          ∙ ap₂ (λ lines more. cond (eqb b 10) (begun ∷ lines) more) (ended-prefix bytes []) (ended-prefix bytes (begun ++ b ∷ []))
    ]

begun-prefix : (bytes begun : List ℕ) → has_end bytes ≡ true → begun_after begun (ended_prefix bytes) ≡ []
begun-prefix [] begun end = absurd (let e : false ≡ true = end in cc)
begun-prefix (b ∷ bytes) begun end =
    ap (begun_after begun) (prefix-on b bytes end)
    ∙ elim (cases_Bool (eqb b 10)) as (λ _. cond (eqb b 10) (begun_after [] (ended_prefix bytes)) (begun_after (begun ++ b ∷ []) (ended_prefix bytes)) ≡ []) [
      | inl feed ↦
          rw feed (
          elim (cases_Bool (has_end bytes)) as (λ _. begun_after [] (ended_prefix bytes) ≡ []) [
            | inl more ↦ begun-prefix bytes [] more
            | inr none ↦ ap (begun_after []) (no-prefix bytes none)
          ]
          )
      | inr other ↦ rw other (begun-prefix bytes (begun ++ b ∷ []) (sym (ap (λ t. t || has_end bytes) other) ∙ end))
    ]

nothing-begun : (bytes : List ℕ) → begun_after [] (ended_prefix bytes) ≡ []
nothing-begun bytes =
    elim (cases_Bool (has_end bytes)) as (λ _. begun_after [] (ended_prefix bytes) ≡ []) [
      | inl end ↦ begun-prefix bytes [] end
      | inr none ↦ ap (begun_after []) (no-prefix bytes none)
    ]

unmarked-nothing : (first : Bool) → unmarked_line first [] ≡ []
unmarked-nothing true = refl
unmarked-nothing false = refl

-- all lines of the longest prefix that ends with LF are the ended lines
pub whole-prefix : (bytes : List ℕ) → whole_lines (ended_prefix bytes) ≡ fixed_lines bytes
whole-prefix bytes =
    let prefix = ended_prefix bytes in
    let ended : ended_lines prefix ≡ ended_lines bytes = ended_lines-is prefix ∙ ap (unmarked_lines true) (ended-prefix bytes []) ∙ sym (ended_lines-is bytes) in
    let begun : begun_line prefix ≡ [] = begun_line-is prefix ∙ ap (unmarked_line (are_none (ended_lines prefix))) (nothing-begun bytes) ∙ unmarked-nothing (are_none (ended_lines prefix)) in
    ap₂ (λ lines line. map without_return lines ++ last_line line) ended begun ∙ append-nil (fixed_lines bytes)
