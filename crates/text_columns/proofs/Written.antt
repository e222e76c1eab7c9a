-- The lines of a block, as they are written one by one.
use Rattle.std.proofs.Common.{◌≡◌, ℕ, zero, suc, ◌+◌, ◌-◌, ◌<◌, ◌≤◌, Bool, true, false, List, [], ◌∷◌, ◌++◌, length, drop, refl, ap, ap₂, sym, ◌∙◌, add-one, append_assoc, arith, inl, inr}
use Rattle.std.specs.Prelude.{nat_lt, slice_index}
use Rattle.std.specs.List.{flat_map}
use Rattle.std.proofs.lemmas.Bool.{cases_Bool, le-ltb, lt-ltb, ltb-false, ltb-true}
use Rattle.std.proofs.lemmas.Grind.{flat_map-append}
use Rattle.std.proofs.lemmas.List.{append-nil}
use Rattle.mlr_spec.specs.Json.{joined}
use Rattle.text_columns.specs.Chunks.{after_cell, after_cells, after_line, cells, first_cell, first_length, first_line, lines_in}
use Rattle.text_columns.specs.Columns.{column_gap, column_text, in_columns}
use Rattle.text_columns.proofs.Coded.{lines-none, lines-step}
use Rattle.text_columns.proofs.Walks.{drop-end}

-- the lines in bytes, and those in chunks
module _ (f : List (List ℕ) → List ℕ) where
  pub lines-next : (bytes rest into new : List ℕ) → 0 < length bytes → rest ≡ after_line bytes → new ≡ into ++ f (first_line bytes)
      → new ++ flat_map f (lines_in rest) ≡ into ++ flat_map f (lines_in bytes)
  lines-next bytes rest into new some rest_is new_is =
      ap₂ (λ t left. t ++ flat_map f (lines_in left)) new_is rest_is
      ∙ append_assoc into (f (first_line bytes)) (flat_map f (lines_in (after_line bytes)))
      ∙ ap (λ lines. into ++ flat_map f lines) (sym (lines-step bytes some))

  pub lines-done : (bytes into whole : List ℕ) → length bytes ≡ 0 → into ++ flat_map f (lines_in bytes) ≡ whole → into ≡ whole
  lines-done bytes into whole none is = sym (append-nil into) ∙ ap (λ lines. into ++ flat_map f lines) (sym (lines-none bytes none)) ∙ is

  chunks-flat : (chunks : List (List (List (List ℕ)))) → flat_map f (flat_map (λ lines. lines) chunks) ≡ flat_map (λ chunk. flat_map f chunk) chunks
  chunks-flat [] = refl
  chunks-flat (chunk ∷ chunks) = flat_map-append f chunk (flat_map (λ lines. lines) chunks) ∙ ap (λ t. flat_map f chunk ++ t) (chunks-flat chunks)

  pub chunks-done : (chunks : List (List (List (List ℕ)))) (n : ℕ) (into whole : List ℕ) → length chunks ≤ n
      → into ++ flat_map (λ chunk. flat_map f chunk) (drop n chunks) ≡ whole → into ≡ whole
  chunks-done chunks n into whole all is =
      sym (append-nil into) ∙ ap (λ left. into ++ flat_map (λ chunk. flat_map f chunk) left) (sym (drop-end chunks n all)) ∙ is

  pub rows-written : (full : List (List (List (List ℕ)))) (last : List (List (List ℕ))) (old : List ℕ)
      → (old ++ flat_map (λ chunk. flat_map f chunk) full) ++ flat_map f last ≡ old ++ flat_map f (flat_map (λ lines. lines) full ++ last)
  rows-written full last old =
      append_assoc old (flat_map (λ chunk. flat_map f chunk) full) (flat_map f last)
      ∙ ap (λ t. old ++ (t ++ flat_map f last)) (sym (chunks-flat full))
      ∙ ap (λ t. old ++ t) (sym (flat_map-append f (flat_map (λ lines. lines) full) last))

-- the cells of a line
pub cells-next : (count column : ℕ) (bytes : List ℕ) → column < count → cells (count - column) bytes ≡ first_cell bytes ∷ cells (count - (column + 1)) (after_cell bytes)
unfolding cells
cells-next count column bytes below =
    let more : count - column ≡ suc (count - (column + 1)) = omega (arith, below) in
    ap (λ n. cells n bytes) more

pub after_cells-next : (count column : ℕ) (bytes : List ℕ) → column < count → after_cells (count - column) bytes ≡ after_cells (count - (column + 1)) (after_cell bytes)
unfolding after_cells
after_cells-next count column bytes below =
    let more : count - column ≡ suc (count - (column + 1)) = omega (arith, below) in
    ap (λ n. after_cells n bytes) more

pub cells-none : (n : ℕ) (bytes : List ℕ) → n ≡ 0 → cells n bytes ≡ []
unfolding cells
cells-none n bytes none = ap (λ m. cells m bytes) none

pub after_cells-none : (n : ℕ) (bytes : List ℕ) → n ≡ 0 → after_cells n bytes ≡ bytes
unfolding after_cells
after_cells-none n bytes none = ap (λ m. after_cells m bytes) none

pub cells-count : (n : ℕ) (bytes : List ℕ) → length (cells n bytes) ≡ n
unfolding cells
cells-count zero bytes = refl
cells-count (suc n) bytes = ap suc (cells-count n (after_cell bytes))

pub line-count : (bytes : List ℕ) → (first_length bytes).0 ≡ length (first_line bytes)
line-count bytes = sym (cells-count (first_length bytes).0 (first_length bytes).1)

-- the columns of a line
column-first : (barred : Bool) (widths : List ℕ) (cell : List ℕ) (line : List (List ℕ)) (more : Bool) → more ≡ nat_lt 0 (length line)
    → joined (column_gap barred) (in_columns barred widths (cell ∷ line)) ≡ column_text barred more (slice_index widths 0) cell ++ joined (column_gap barred) (in_columns barred (drop 1 widths) line)
column-first true widths cell [] more is =
    sym (append-nil _ ∙ append-nil _) ∙ ap (λ m. column_text true m (slice_index widths 0) cell ++ []) (sym is)
column-first false widths cell [] more is =
    sym (append-nil _ ∙ append-nil _) ∙ ap (λ m. column_text false m (slice_index widths 0) cell ++ []) (sym is)
column-first true widths cell (next ∷ line) more is =
    ap (λ m. column_text true m (slice_index widths 0) cell ++ joined (column_gap true) (in_columns true (drop 1 widths) (next ∷ line))) (sym (is ∙ lt-ltb 0 (length (next ∷ line)) (omega arith)))
column-first false widths cell (next ∷ []) more is =
    ap (λ m. column_text false m (slice_index widths 0) cell ++ joined (column_gap false) (in_columns false (drop 1 widths) (next ∷ []))) (sym (is ∙ lt-ltb 0 1 (omega arith)))
column-first false widths cell (next ∷ third ∷ line) more is =
    ap (λ m. column_text false m (slice_index widths 0) cell ++ joined (column_gap false) (in_columns false (drop 1 widths) (next ∷ third ∷ line)))
    (sym (is ∙ lt-ltb 0 (length (next ∷ third ∷ line)) (omega arith)))

width-at : (widths : List ℕ) (column : ℕ) → slice_index (drop column widths) 0 ≡ slice_index widths column
width-at [] zero = refl
width-at [] (suc column) = refl
width-at (width ∷ widths) zero = refl
width-at (width ∷ widths) (suc column) = width-at widths column

widths-after : (widths : List ℕ) (column : ℕ) → drop 1 (drop column widths) ≡ drop (suc column) widths
widths-after [] zero = refl
widths-after [] (suc column) = refl
widths-after (width ∷ widths) zero = refl
widths-after (width ∷ widths) (suc column) = widths-after widths column

more-cells : (count column : ℕ) → nat_lt (column + 1) count ≡ nat_lt 0 (count - (column + 1))
more-cells count column =
    elim (cases_Bool (nat_lt (column + 1) count)) as (λ _. nat_lt (column + 1) count ≡ nat_lt 0 (count - (column + 1))) [
      | inl less ↦ less ∙ sym (lt-ltb 0 (count - (column + 1)) (omega (arith, ltb-true (column + 1) count less)))
      | inr more ↦ more ∙ sym (le-ltb 0 (count - (column + 1)) (omega (arith, ltb-false (column + 1) count more)))
    ]

none-joined : (barred : Bool) (widths : List ℕ) → joined (column_gap barred) (in_columns barred widths []) ≡ []
none-joined true widths = refl
none-joined false widths = refl

module _ (barred : Bool) (widths : List ℕ) (count column : ℕ) (bytes : List ℕ) where
  pub columns-next : (rest into new : List ℕ) → column < count → rest ≡ after_cell bytes
      → new ≡ into ++ column_text barred (nat_lt (column + 1) count) (slice_index widths column) (first_cell bytes)
      → new ++ joined (column_gap barred) (in_columns barred (drop (column + 1) widths) (cells (count - (column + 1)) rest))
      ≡ into ++ joined (column_gap barred) (in_columns barred (drop column widths) (cells (count - column) bytes))
  columns-next rest into new below rest_is new_is =
      let line = cells (count - (column + 1)) (after_cell bytes) in
      let more = nat_lt (column + 1) count in
      let later = joined (column_gap barred) (in_columns barred (drop (column + 1) widths) line) in
      let text = column_text barred more (slice_index widths column) (first_cell bytes) in
      ap₂ (λ t left. t ++ joined (column_gap barred) (in_columns barred (drop (column + 1) widths) (cells (count - (column + 1)) left))) new_is rest_is
      ∙ append_assoc into text later
      ∙ ap₂ (λ width ws. into ++ (column_text barred more width (first_cell bytes) ++ joined (column_gap barred) (in_columns barred ws line))) (sym (width-at widths column)) (sym (widths-after widths column ∙ ap (λ n. drop n widths) (sym (add-one column))))
      ∙ ap (λ t. into ++ t)
      (sym (column-first barred (drop column widths) (first_cell bytes) line more
      (more-cells count column ∙ ap (nat_lt 0) (sym (cells-count (count - (column + 1)) (after_cell bytes))))))
      ∙ ap (λ cs. into ++ joined (column_gap barred) (in_columns barred (drop column widths) cs)) (sym (cells-next count column bytes below))

  pub columns-done : (into whole : List ℕ) → count ≤ column
      → into ++ joined (column_gap barred) (in_columns barred (drop column widths) (cells (count - column) bytes)) ≡ whole → into ≡ whole
  columns-done into whole all is =
      sym (append-nil into)
      ∙ ap (λ t. into ++ t) (sym (none-joined barred (drop column widths)))
      ∙ ap (λ cs. into ++ joined (column_gap barred) (in_columns barred (drop column widths) cs)) (sym (cells-none (count - column) bytes (omega (arith, all))))
      ∙ is
