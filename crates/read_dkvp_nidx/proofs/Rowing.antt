-- Markdown: the items of lines, found line by line, are those of the definition.
use Rattle.std.proofs.Common.{◌≡◌, ℕ, ◌+◌, eqb, Bool, true, false, cond, not, ◌&&◌, List, [], ◌∷◌, ◌++◌, length, Option, Some, None, refl, ap, ap₂, sym, ◌∙◌, arith, inl, inr, length-append}
use Rattle.std.specs.List.{cons_option, filter, filter_map}
use Rattle.std.proofs.lemmas.Bool.{cases_Bool}
use Rattle.std.proofs.lemmas.Bool.Decides.{nat_tests}
use Rattle.std.proofs.lemmas.List.{append-nil}
use Rattle.std.proofs.lemmas.List.Elements.{filter_map-append, filter-append}
use Rattle.mlr_lines.specs.Blocks.{each_after, since_end}
use Rattle.mlr_lines.proofs.Blocks.{since_end-more, since_end-none}
use Rattle.mlr_event.specs.declared.names.FileRef.{FileRef}
use Rattle.mlr_event.specs.declared.options.Format.TheVariants as format
use Rattle.mlr_event.specs.declared.options.ReadOpts.{ReadOpts}
use Rattle.mlr_event.specs.Reading.{comment_items, is_comment}
use Rattle.read_dkvp_nidx.specs.Markdown.{cells_of, ends_table, line_after, row_after, rows_so_far}
use Rattle.read_dkvp_nidx.specs.MarkdownLines.{Block, block_after, markdown_row, outside, row_block, row_items, under, within}
use Rattle.read_dkvp_nidx.specs.Rules.{items_from, line_block, line_items, plain_block, plain_items}

abbrev Cells : Type 0
Cells = List (List ℕ)

-- the place of a line under these rows of its table
abbrev place : List Cells → Block
place [] = outside
place (header ∷ []) = under header
place (header ∷ rule ∷ rows) = within header

under-rows : (opts : ReadOpts) (file : FileRef) (n : ℕ) (rows : List Cells) (cells : Option Cells) → row_items opts file n (place rows) cells ≡ row_after opts file n rows cells
under-rows opts file n [] None = refl
under-rows opts file n (header ∷ []) None = refl
under-rows opts file n (header ∷ rule ∷ rows) None = refl
under-rows opts file n [] (Some cells) = refl
under-rows opts file n (header ∷ []) (Some cells) = refl
under-rows opts file n (header ∷ rule ∷ rows) (Some cells) = refl

place-more : (rows : List Cells) (cells : Option Cells) → row_block (place rows) cells ≡ place (rows ++ cons_option cells [])
place-more [] None = refl
place-more (header ∷ []) None = refl
place-more (header ∷ rule ∷ rows) None = refl
place-more [] (Some cells) = refl
place-more (header ∷ []) (Some cells) = refl
place-more (header ∷ rule ∷ rows) (Some cells) = refl

some-bytes : (b : ℕ) (line : List ℕ) → eqb (length (b ∷ line)) 0 ≡ false
some-bytes b line = grind (arith, nat_tests)

-- the items of a line that isn't a comment, and the place of the next line
row-same : (opts : ReadOpts) (file : FileRef) (n : ℕ) (rows : List Cells) (line : List ℕ)
    → markdown_row opts file n (place rows) line ≡ cond (eqb (length line) 0) [] (row_after opts file n rows (cells_of line))
row-same opts file n rows [] = refl
row-same opts file n rows (b ∷ line) =
    under-rows opts file n rows (cells_of (b ∷ line)) ∙ ap (λ t. cond t [] (row_after opts file n rows (cells_of (b ∷ line)))) (sym (some-bytes b line))

module _ (opts : ReadOpts) where
  abbrev is_row : List ℕ → Bool
  is_row line = not (is_comment opts.comments line)

  abbrev rows_in : List (List ℕ) → List Cells
  rows_in lines = filter_map cells_of (filter is_row lines)

  rows-more : (lines : List (List ℕ)) (line : List ℕ) → rows_in (lines ++ line ∷ []) ≡ rows_in lines ++ rows_in (line ∷ [])
  rows-more lines line = ap (filter_map cells_of) (filter-append is_row lines (line ∷ [])) ∙ filter_map-append cells_of (filter is_row lines) (filter is_row (line ∷ []))

  on-table : (before : List (List ℕ)) (line : List ℕ) → ends_table opts line ≡ false → rows_so_far opts (before ++ line ∷ []) ≡ rows_so_far opts before ++ rows_in (line ∷ [])
  on-table before line on = ap rows_in (since_end-more (ends_table opts) before line on) ∙ rows-more (since_end (ends_table opts) before) line

  comment-place : (before : List (List ℕ)) (line : List ℕ) → is_comment opts.comments line ≡ true → place (rows_so_far opts before) ≡ place (rows_so_far opts (before ++ line ∷ []))
  comment-place before line is =
      ap place (sym (
      on-table before line (ap (λ t. not t && eqb (length line) 0) is)
      ∙ ap (λ t. rows_so_far opts before ++ filter_map cells_of (cond (not t) (line ∷ []) [])) is ∙ append-nil (rows_so_far opts before)
      ))

  row-place : (before : List (List ℕ)) (line : List ℕ) → is_comment opts.comments line ≡ false → block_after (place (rows_so_far opts before)) line ≡ place (rows_so_far opts (before ++ line ∷ []))
  row-place before [] isnt = ap (λ lines. place (rows_in lines)) (sym (since_end-none (ends_table opts) before [] (ap (λ t. not t && true) isnt)))
  row-place before (b ∷ line) isnt =
      place-more (rows_so_far opts before) (cells_of (b ∷ line))
      ∙ ap (λ t. place (rows_so_far opts before ++ filter_map cells_of (cond (not t) ((b ∷ line) ∷ []) []))) (sym isnt)
      ∙ ap place (sym (on-table before (b ∷ line) (ap₂ (λ t u. not t && u) isnt (some-bytes b line))))

  module _ (file : FileRef) (is_markdown : opts.format ≡ format.Markdown) where
    line-same : (before : List (List ℕ)) (line : List ℕ) → line_items opts file (length before + 1) (place (rows_so_far opts before)) line ≡ line_after opts file before line
    line-same before line =
        let n = length before + 1 in
        let rows = rows_so_far opts before in
        ap (λ f. cond (is_comment opts.comments line) (comment_items opts.comments line) (plain_items f opts file n (place rows) line)) is_markdown
        ∙ ap (cond (is_comment opts.comments line) (comment_items opts.comments line)) (row-same opts file n rows line)

    place-after : (before : List (List ℕ)) (line : List ℕ) → line_block opts (place (rows_so_far opts before)) line ≡ place (rows_so_far opts (before ++ line ∷ []))
    place-after before line =
        let block = place (rows_so_far opts before) in
        ap (λ f. cond (is_comment opts.comments line) block (plain_block f block line)) is_markdown
        ∙ (elim (cases_Bool (is_comment opts.comments line)) as (λ _. cond (is_comment opts.comments line) block (block_after block line) ≡ place (rows_so_far opts (before ++ line ∷ []))) [
          | inl is ↦ rw is (comment-place before line is)
          | inr isnt ↦ rw isnt (row-place before line isnt)
        ])

    pub markdown-same : (lines before : List (List ℕ)) → items_from opts file (length before + 1) (place (rows_so_far opts before)) lines ≡ each_after (line_after opts file) before lines
    markdown-same [] before = refl
    markdown-same (line ∷ lines) before =
        let next = before ++ line ∷ [] in
        let count : length before + 1 + 1 ≡ length next + 1 = omega (arith, length-append before (line ∷ [])) in
        ap₂ (λ here later. here ++ later) (line-same before line)
        (ap₂ (λ n block. items_from opts file n block lines) count (place-after before line) ∙ markdown-same lines next)
