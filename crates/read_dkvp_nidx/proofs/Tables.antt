-- The cells of a line, found bar by bar, are those of the definition.
use Rattle.std.proofs.Common.{◌≡◌, ℕ, suc, ◌+◌, ◌-◌, ◌<◌, Bool, true, false, cond, not, ◌&&◌, eqb, List, [], ◌∷◌, ◌++◌, length, take, drop, Option, Some, None, refl, ap, sym, ◌∙◌, append_assoc, arith, inl, inr, add-one, length-drop, length-take}
use Rattle.std.specs.List.{onto_first}
use Rattle.std.proofs.Math.Seq.{take-length}
use Rattle.std.proofs.lemmas.Bool.{cases_Bool, and_parts, eqb-true}
use Rattle.std.proofs.lemmas.List.{append-nil}
use Rattle.read_dkvp_nidx.specs.Cells.{IsBarCut, HasNoBar, bar_from, cells_with, is_escape, with_prefix}
use Rattle.read_dkvp_nidx.specs.Markdown.{bar_parts, cell_of, cells_after, closed, unescaped}

-- whether a byte is a bar that isn't escaped
abbrev ends : ℕ → ℕ → Bool
ends last b = eqb b 124 && not (eqb last 92)

parts-end : (last b : ℕ) (text : List ℕ) → ends last b ≡ true → bar_parts last (b ∷ text) ≡ [] ∷ bar_parts 124 text
parts-end last b text end = rw end (ap (λ c. [] ∷ bar_parts c text) (eqb-true b 124 (and_parts (eqb b 124) (not (eqb last 92)) end).0))

parts-on : (last b : ℕ) (text : List ℕ) → ends last b ≡ false → bar_parts last (b ∷ text) ≡ onto_first b (bar_parts b text)
parts-on last b text on = rw on refl

record Found (p last place : ℕ) (text : List ℕ) : Type 0 where
  offset : ℕ
  place_is : place ≡ p + offset
  inside : offset < length text
  parts : bar_parts last text ≡ take offset text ∷ bar_parts 124 (drop (suc offset) text)

bar-found : (text : List ℕ) (p last place : ℕ) → bar_from p last text ≡ Some place → Found p last place text
bar-found [] p last place found = absurd (let e : None ≡ Some place = found in cc)
bar-found (b ∷ text) p last place found =
    elim (cases_Bool (ends last b)) as (λ _. Found p last place (b ∷ text)) [
      | inl end ↦
          let here : Some p ≡ Some place = sym (ap (λ t. cond t (Some p) (bar_from (p + 1) b text)) end) ∙ found in
          let same : p ≡ place = cc in
          record { offset = 0; place_is = omega arith; inside = omega arith; parts = parts-end last b text end }
      | inr on ↦
          let later = bar-found text (p + 1) b place (sym (ap (λ t. cond t (Some p) (bar_from (p + 1) b text)) on) ∙ found) in
          record {
            offset = suc later.offset;
            place_is = omega (arith, later.place_is);
            inside = omega (arith, later.inside);
            parts = parts-on last b text on ∙ ap (onto_first b) later.parts;
          }
    ]

bar-none : (text : List ℕ) (p last : ℕ) → bar_from p last text ≡ None → bar_parts last text ≡ text ∷ []
bar-none [] p last none = refl
bar-none (b ∷ text) p last none =
    elim (cases_Bool (ends last b)) as (λ _. bar_parts last (b ∷ text) ≡ (b ∷ text) ∷ []) [
      | inl end ↦ absurd (let e : Some p ≡ None = sym (ap (λ t. cond t (Some p) (bar_from (p + 1) b text)) end) ∙ none in cc)
      | inr on ↦ parts-on last b text on ∙ ap (onto_first b) (bar-none text (p + 1) b (sym (ap (λ t. cond t (Some p) (bar_from (p + 1) b text)) on) ∙ none))
    ]

pub HasNoBar-from : (text : List ℕ) → bar_from 0 124 text ≡ None → HasNoBar text
HasNoBar-from text none = bar-none text 0 124 none

pub IsBarCut-from : (text : List ℕ) (place : ℕ) → bar_from 0 124 text ≡ Some place → IsBarCut text (take place text) (take (length text - (place + 1)) (drop (place + 1) text))
IsBarCut-from text place found =
    let at = bar-found text 0 124 place found in
    let same : at.offset ≡ place = omega (arith, at.place_is) in
    let rest : drop (suc at.offset) text ≡ take (length text - (place + 1)) (drop (place + 1) text) =
    ap (λ n. drop (suc n) text) same ∙ ap (λ n. drop n text) (sym (add-one place))
    ∙ sym (ap (λ n. take n (drop (place + 1) text)) (sym (length-drop (place + 1) text)) ∙ take-length (drop (place + 1) text)) in (
      at.parts ∙ ap (λ n. take n text ∷ bar_parts 124 (drop (suc at.offset) text)) same ∙ ap (λ t. take place text ∷ bar_parts 124 t) rest,
      omega (arith, at.inside, length-take place text, ap length rest, length-drop (suc at.offset) text),
    )

pub bar_inside : (text : List ℕ) (place : ℕ) → bar_from 0 124 text ≡ Some place → place < length text
bar_inside text place found = let at = bar-found text 0 124 place found in omega (arith, at.place_is, at.inside)

onto-some : (b : ℕ) (parts : List (List ℕ)) → 0 < length (onto_first b parts)
onto-some b [] = omega arith
onto-some b (part ∷ parts) = omega arith

some-parts : (last : ℕ) (text : List ℕ) → 0 < length (bar_parts last text)
some-parts last [] = omega arith
some-parts last (b ∷ text) =
    elim (cases_Bool (ends last b)) as (λ _. 0 < length (bar_parts last (b ∷ text))) [
      | inl end ↦ rw (parts-end last b text end) (omega arith)
      | inr on ↦ rw (parts-on last b text on) (onto-some b (bar_parts b text))
    ]

with_prefix-twice : (prefix more : List (List ℕ)) (cells : Option (List (List ℕ))) → with_prefix prefix (with_prefix more cells) ≡ with_prefix (prefix ++ more) cells
with_prefix-twice prefix more None = refl
with_prefix-twice prefix more (Some cells) = ap Some (sym (append_assoc prefix more cells))

one-prefix : (cell : List ℕ) (found : Option (List (List ℕ))) → (elim found [ Some cells ↦ Some (cell ∷ cells) | None ↦ None ]) ≡ with_prefix (cell ∷ []) found
one-prefix cell None = refl
one-prefix cell (Some cells) = refl

closed-more : (part next : List ℕ) (parts : List (List ℕ)) → closed (part ∷ next ∷ parts) ≡ with_prefix (cell_of part ∷ []) (closed (next ∷ parts))
closed-more [] next parts = one-prefix (cell_of []) (closed (next ∷ parts))
closed-more (b ∷ part) next parts = one-prefix (cell_of (b ∷ part)) (closed (next ∷ parts))

with-more : (cells : List (List ℕ)) (part : List ℕ) (parts : List (List ℕ)) → 0 < length parts → cells_with cells (part ∷ parts) ≡ cells_with (cells ++ cell_of part ∷ []) parts
with-more cells part [] some = absurd (omega arith)
with-more [] part (next ∷ parts) some = closed-more part next parts
with-more (cell ∷ cells) part (next ∷ parts) some =
    ap (with_prefix (cell ∷ cells)) (closed-more part next parts) ∙ with_prefix-twice (cell ∷ cells) (cell_of part ∷ []) (closed (next ∷ parts))

-- one more part
pub cells_with-more : (cells : List (List ℕ)) (text part rest : List ℕ) → IsBarCut text part rest → cells_with cells (bar_parts 124 text) ≡ cells_with (cells ++ cell_of part ∷ []) (bar_parts 124 rest)
cells_with-more cells text part rest cut = ap (cells_with cells) cut.0 ∙ with-more cells part (bar_parts 124 rest) (some-parts 124 rest)

-- the last part
pub cells_with-closed : (cells : List (List ℕ)) (text : List ℕ) → HasNoBar text → text ≡ [] → 0 < length cells → cells_with cells (bar_parts 124 text) ≡ Some cells
cells_with-closed [] text none empty some = absurd (omega arith)
cells_with-closed (cell ∷ cells) text none empty some = ap (cells_with (cell ∷ cells)) (none ∙ ap (λ t. t ∷ []) empty) ∙ ap Some (append-nil (cell ∷ cells))

pub cells_with-open : (cells : List (List ℕ)) (text : List ℕ) → HasNoBar text → (length text ≡ 0 → 0 < length cells → ⊥) → cells_with cells (bar_parts 124 text) ≡ None
cells_with-open [] text none open_at = ap cells_after none
cells_with-open (cell ∷ cells) [] none open_at = absurd (open_at refl (omega arith))
cells_with-open (cell ∷ cells) (b ∷ text) none open_at = ap (λ parts. with_prefix (cell ∷ cells) (closed parts)) none

pub unescaped-more : (b : ℕ) (rest : List ℕ) → unescaped (b ∷ rest) ≡ cond (is_escape b rest) (unescaped rest) (b ∷ unescaped rest)
unescaped-more b [] = refl
unescaped-more b (c ∷ text) = refl
