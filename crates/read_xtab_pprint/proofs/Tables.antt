-- PPRINT: the items of lines, found line by line, are those of the definition.
use Rattle.std.proofs.Common.{◌≡◌, ℕ, ◌+◌, ◌==◌, true, false, cond, not, ◌||◌, ◌&&◌, List, [], ◌∷◌, ◌++◌, length, Option, Some, None, refl, ap, ap₂, sym, ◌∙◌, arith, inl, inr, length-append}
use Rattle.std.specs.List.{cons_option, filter, filter_map}
use Rattle.std.proofs.lemmas.Bool.{cases_Bool}
use Rattle.std.proofs.lemmas.Bool.Decides.{nat_tests}
use Rattle.std.proofs.lemmas.List.{append-nil}
use Rattle.std.proofs.lemmas.List.Elements.{filter_map-append, filter-append}
use Rattle.mlr_lines.specs.Blocks.{each_after, since_end}
use Rattle.mlr_lines.proofs.Blocks.{since_end-more, since_end-none}
use Rattle.mlr_event.specs.declared.names.FileRef.{FileRef}
use Rattle.mlr_event.specs.declared.options.ReadOpts.{ReadOpts}
use Rattle.mlr_event.specs.Reading.{comment_items, is_comment}
use Rattle.read_xtab_pprint.specs.Pprint.{cells_of, ends_table, is_row, is_rule, line_after, pprint_items, row_after, rows_so_far}
use Rattle.read_xtab_pprint.specs.PprintRules.{cells_items, header_after, items_from, line_header, line_items}

abbrev Cells : Type 0
Cells = List (List ℕ)

-- the header among the rows of a table
abbrev first_of : List Cells → Option Cells
first_of [] = None
first_of (row ∷ rows) = Some row

under-first : (opts : ReadOpts) (file : FileRef) (n : ℕ) (rows : List Cells) (cells : Option Cells) → cells_items opts file n (first_of rows) cells ≡ row_after opts file n rows cells
under-first opts file n [] None = refl
under-first opts file n (row ∷ rows) None = refl
under-first opts file n [] (Some cells) = refl
under-first opts file n (row ∷ rows) (Some cells) = refl

first-more : (rows : List Cells) (cells : Option Cells) → header_after (first_of rows) cells ≡ first_of (rows ++ cons_option cells [])
first-more [] None = refl
first-more [] (Some cells) = refl
first-more (row ∷ rows) None = refl
first-more (row ∷ rows) (Some cells) = refl

rule-full : (line : List ℕ) → is_rule line ≡ true → (length line == 0) ≡ false
rule-full [] rule = absurd (cc)
rule-full (b ∷ line) rule = grind (arith, nat_tests)

module _ (opts : ReadOpts) where
  abbrev rows_in : List (List ℕ) → List Cells
  rows_in lines = filter_map cells_of (filter (is_row opts) lines)

  rows-more : (lines : List (List ℕ)) (line : List ℕ) → rows_in (lines ++ line ∷ []) ≡ rows_in lines ++ rows_in (line ∷ [])
  rows-more lines line = ap (filter_map cells_of) (filter-append (is_row opts) lines (line ∷ [])) ∙ filter_map-append cells_of (filter (is_row opts) lines) (filter (is_row opts) (line ∷ []))

  on-table : (before : List (List ℕ)) (line : List ℕ) → ends_table opts line ≡ false → rows_so_far opts (before ++ line ∷ []) ≡ rows_so_far opts before ++ rows_in (line ∷ [])
  on-table before line on = ap rows_in (since_end-more (ends_table opts) before line on) ∙ rows-more (since_end (ends_table opts) before) line

  -- a line that is no row changes no header
  same-header : (before : List (List ℕ)) (line : List ℕ) → ends_table opts line ≡ false → is_row opts line ≡ false → first_of (rows_so_far opts (before ++ line ∷ [])) ≡ first_of (rows_so_far opts before)
  same-header before line on none =
      ap first_of (on-table before line on ∙ ap (λ t. rows_so_far opts before ++ filter_map cells_of (cond t (line ∷ []) [])) none ∙ append-nil (rows_so_far opts before))

  header-more : (before : List (List ℕ)) (line : List ℕ) → line_header opts (first_of (rows_so_far opts before)) line ≡ first_of (rows_so_far opts (before ++ line ∷ []))
  header-more before line =
      let header = first_of (rows_so_far opts before) in
      let all = before ++ line ∷ [] in
      elim (cases_Bool (is_comment opts.comments line)) as (λ _. line_header opts header line ≡ first_of (rows_so_far opts all)) [
        | inl is ↦ rw is (sym (same-header before line (ap (λ t. not t && length line == 0) is) (ap (λ t. not (t || is_rule line)) is)))
        | inr isnt ↦ rw isnt (
            elim (cases_Bool (is_rule line)) as (λ _. cond (is_rule line) header (cond (length line == 0) None (header_after header (cells_of line))) ≡ first_of (rows_so_far opts all)) [
              | inl rule ↦ rw rule (sym (same-header before line (ap₂ (λ t u. not t && u) isnt (rule-full line rule)) (ap₂ (λ t u. not (t || u)) isnt rule)))
              | inr other ↦ rw other (
                  elim (cases_Bool (length line == 0)) as (λ _. cond (length line == 0) None (header_after header (cells_of line)) ≡ first_of (rows_so_far opts all)) [
                    | inl empty ↦ rw empty (ap (λ lines. first_of (rows_in lines)) (sym (since_end-none (ends_table opts) before line (ap₂ (λ t u. not t && u) isnt empty))))
                    | inr some ↦ rw some (
                        first-more (rows_so_far opts before) (cells_of line)
                        ∙ ap (λ t. first_of (rows_so_far opts before ++ filter_map cells_of (cond t (line ∷ []) []))) (sym (ap₂ (λ t u. not (t || u)) isnt other))
                        ∙ ap first_of (sym (on-table before line (ap₂ (λ t u. not t && u) isnt some)))
                        )
                  ]
                  )
            ]
            )
      ]

  module _ (file : FileRef) where
    line-same : (before : List (List ℕ)) (line : List ℕ) → line_items opts file (length before + 1) (first_of (rows_so_far opts before)) line ≡ line_after opts file before line
    line-same before line =
        ap (λ items. cond (is_comment opts.comments line) (comment_items opts.comments line) (cond (is_rule line || length line == 0) [] items))
        (under-first opts file (length before + 1) (rows_so_far opts before) (cells_of line))

    lines-same : (lines before : List (List ℕ)) → items_from opts file (length before + 1) (first_of (rows_so_far opts before)) lines ≡ each_after (line_after opts file) before lines
    lines-same [] before = refl
    lines-same (line ∷ lines) before =
        let next = before ++ line ∷ [] in
        let count : length before + 1 + 1 ≡ length next + 1 = omega (arith, length-append before (line ∷ [])) in
        ap₂ (λ here later. here ++ later) (line-same before line)
        (ap₂ (λ n header. items_from opts file n header lines) count (header-more before line) ∙ lines-same lines next)

    pub tables-same : (lines : List (List ℕ)) → items_from opts file 1 None lines ≡ pprint_items opts file lines
    tables-same lines = lines-same lines []
