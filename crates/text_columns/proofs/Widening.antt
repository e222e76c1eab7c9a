-- How the widths of the columns of a block grow with a line.
use Rattle.std.proofs.Common.{◌≡◌, ℕ, zero, suc, ◌+◌, ◌-◌, ◌≤◌, List, [], ◌∷◌, ◌++◌, length, drop, take, map, replicate, refl, ap, ap₂, sym, ◌∙◌, add-one, append_assoc, arith, set, get_or, drop-cons, inl, inr, ◌<◌, min}
use Rattle.std.specs.Prelude.{max, nat_lt}
use Rattle.std.specs.List.{range_with_len}
use Rattle.std.proofs.lemmas.Bool.{cases_Bool, ltb-false, ltb-true}
use Rattle.std.proofs.lemmas.List.{drop-set-lt, take-append-drop, take_more_set}
use Rattle.std.proofs.lemmas.List.Sums.{fold-append}
use Rattle.std.proofs.Math.Seq.{take-append_seam}
use Rattle.text_columns.specs.Chunks.{after_cell, cells, first_cell}
use Rattle.text_columns.specs.Columns.{widened}
use Rattle.text_columns.specs.Pprint.{cell_text, column_width, length_at, widths_of}
use Rattle.text_columns.specs.Width.{code_points}
use Rattle.text_columns.proofs.Walks.{drop-end}
use Rattle.text_columns.proofs.Written.{cells-next, cells-none}

range-same : (f g : ℕ → ℕ) (column count : ℕ) → ((c : ℕ) → column ≤ c → f c ≡ g c) → map f (range_with_len column count) ≡ map g (range_with_len column count)
range-same f g column zero same = refl
range-same f g column (suc count) same =
    ap₂ (λ x xs. x ∷ xs) (same column (omega arith)) (range-same f g (column + 1) count (λ c above. same c (omega (arith, above))))

max-none : (n : ℕ) → max n 0 ≡ n
max-none n = grind arith

-- widths that are a function of the column, and what a line shows from a column on
widened-from : (line : List (List ℕ)) (width : ℕ → ℕ) (column count : ℕ)
    → widened line (map width (range_with_len column count)) ≡ map (λ c. max (width c) (length_at (c - column) line)) (range_with_len column count)
widened-from [] width column count = range-same width (λ c. max (width c) (length_at (c - column) [])) column count (λ c above. sym (max-none (width c)))
widened-from (cell ∷ line) width column zero = refl
widened-from (cell ∷ line) width column (suc count) =
    let here : column - column ≡ 0 = omega arith in
    ap₂ (λ (x : ℕ) (xs : List ℕ). x ∷ xs) (ap (λ n. max (width column) (length_at n (cell ∷ line))) (sym here))
    (widened-from line width (column + 1) count
    ∙ range-same (λ c. max (width c) (length_at (c - (column + 1)) line)) (λ c. max (width c) (length_at (c - column) (cell ∷ line))) (column + 1) count
    (λ c above. let later : suc (c - (column + 1)) ≡ c - column = omega (arith, above) in ap (λ n. max (width c) (length_at n (cell ∷ line))) later))

widened-is : (line : List (List ℕ)) (width : ℕ → ℕ) (count : ℕ)
    → widened line (map width (range_with_len 0 count)) ≡ map (λ c. max (width c) (length_at c line)) (range_with_len 0 count)
widened-is line width count =
    widened-from line width 0 count
    ∙ range-same (λ c. max (width c) (length_at (c - 0) line)) (λ c. max (width c) (length_at c line)) 0 count
    (λ c above. let same : c - 0 ≡ c = omega arith in ap (λ n. max (width c) (length_at n line)) same)

zeros : (column count : ℕ) → replicate {A = ℕ} count 0 ≡ map (λ c. 0) (range_with_len column count)
zeros column zero = refl
zeros column (suc count) = ap (λ (xs : List ℕ). 0 ∷ xs) (zeros (column + 1) count)

pub widths-first : (line : List (List ℕ)) → widened line (replicate {A = ℕ} (length line) 0) ≡ widths_of line (line ∷ [])
widths-first line = ap (widened line) (zeros 0 (length line)) ∙ widened-is line (λ c. 0) (length line)

column-more : (lines : List (List (List ℕ))) (line : List (List ℕ)) (column : ℕ) → column_width (lines ++ line ∷ []) column ≡ max (column_width lines column) (length_at column line)
column-more lines line column = fold-append (λ width row. max width (length_at column row)) 0 lines (line ∷ [])

pub widths-more : (first : List (List ℕ)) (rows : List (List (List ℕ))) (line : List (List ℕ))
    → widened line (widths_of first (first ∷ rows)) ≡ widths_of first (first ∷ (rows ++ line ∷ []))
widths-more first rows line =
    widened-is line (column_width (first ∷ rows)) (length first)
    ∙ sym (range-same (column_width (first ∷ (rows ++ line ∷ []))) (λ c. max (column_width (first ∷ rows) c) (length_at c line)) 0 (length first) (λ c above. column-more (first ∷ rows) line c))

pub widened-length : (line : List (List ℕ)) (widths : List ℕ) → length (widened line widths) ≡ length widths
widened-length [] widths = refl
widened-length (cell ∷ line) [] = refl
widened-length (cell ∷ line) (width ∷ widths) = ap suc (widened-length line widths)

pub widened-none : (line : List (List ℕ)) → widened line [] ≡ []
widened-none [] = refl
widened-none (cell ∷ line) = refl

-- what was written to all items of a vector
pub all-written : (old new : List ℕ) (len : ℕ) → length new ≡ length old → len ≡ length old → take len (new ++ drop (length new) old) ≡ new
all-written old new len same all =
    ap (λ n. take n (new ++ drop (length new) old)) (omega (arith, same, all)) ∙ take-append_seam new (drop (length new) old)

-- one more column, and none left
module _ (count column : ℕ) (bytes widths : List ℕ) where
  pub widen-next : (rest : List ℕ) (wide : ℕ) → column < count → column < length widths → rest ≡ after_cell bytes
      → wide ≡ max (get_or widths column 0) (code_points (cell_text (first_cell bytes)))
      → take (column + 1) (set widths column wide) ++ widened (cells (count - (column + 1)) rest) (drop (column + 1) (set widths column wide))
      ≡ take column widths ++ widened (cells (count - column) bytes) (drop column widths)
  widen-next rest wide below within rest_is wide_is =
      let line = cells (count - (column + 1)) (after_cell bytes) in
      let later = drop (column + 1) widths in
      let left : drop column widths ≡ get_or widths column 0 ∷ later = drop-cons widths column 0 within ∙ ap (λ n. get_or widths column 0 ∷ drop n widths) (sym (add-one column)) in
      ap₂ (λ t ws. t ++ widened (cells (count - (column + 1)) rest) ws) (take_more_set widths column wide within) (drop-set-lt (column + 1) widths column wide (omega arith))
      ∙ ap₂ (λ w bs. (take column widths ++ w ∷ []) ++ widened (cells (count - (column + 1)) bs) later) wide_is rest_is
      ∙ append_assoc (take column widths) (max (get_or widths column 0) (code_points (cell_text (first_cell bytes))) ∷ []) (widened line later)
      ∙ ap₂ (λ cs ws. take column widths ++ widened cs ws) (sym (cells-next count column bytes below)) (sym left)

  pub widen-done : min count (length widths) ≤ column → take column widths ++ widened (cells (count - column) bytes) (drop column widths) ≡ widths
  widen-done all =
      elim (cases_Bool (nat_lt column count)) as (λ _. take column widths ++ widened (cells (count - column) bytes) (drop column widths) ≡ widths) [
        | inl less ↦
            let few : length widths ≤ column = omega (arith, all, ltb-true column count less) in
            let none = drop-end widths column few in
            ap (λ ws. take column widths ++ widened (cells (count - column) bytes) ws) none
            ∙ ap (λ ws. take column widths ++ ws) (widened-none (cells (count - column) bytes) ∙ sym none)
            ∙ take-append-drop column widths
        | inr more ↦
            ap (λ cs. take column widths ++ widened cs (drop column widths)) (cells-none (count - column) bytes (omega (arith, ltb-false column count more)))
            ∙ take-append-drop column widths
      ]

take-none : (n : ℕ) → take {A = ℕ} n [] ≡ []
take-none zero = refl
take-none (suc n) = refl

-- a list of as many zeros as a line has cells
pub no-widths : (count : ℕ) (old : List ℕ) (len many : ℕ) → old ≡ [] → len ≡ 0 → count ≡ many → take count old ++ replicate {A = ℕ} (count - len) 0 ≡ replicate {A = ℕ} many 0
no-widths count old len many empty none is =
    let all : count - len ≡ many = omega (arith, none, is) in
    ap₂ (λ (front : List ℕ) (n : ℕ). take count front ++ replicate {A = ℕ} n 0) empty all ∙ ap (λ (front : List ℕ). front ++ replicate {A = ℕ} many 0) (take-none count)
