-- XTAB: what the first bytes of a file fix is what their longest prefix that ends with an empty line gives as
-- a whole file.
use Rattle.std.proofs.Common.{◌≡◌, ℕ, zero, suc, ◌≤◌, Bool, true, false, cond, not, ◌&&◌, eqb, List, [], ◌∷◌, ◌++◌, map, length, take, get_or, refl, ap, sym, ◌∙◌, arith, inl, inr, add-one}
use Rattle.std.proofs.Math.Seq.{take-length}
use Rattle.std.proofs.lemmas.Bool.{cases_Bool, true≢false, and_parts, eqb-true, not-true}
use Rattle.std.proofs.lemmas.List.{append-nil, map-append, take_more}
use Rattle.mlr_lines.specs.Lines.{begun_after, begun_line, ended_after, ended_lines, fixed_lines, last_line, whole_lines, without_return}
use Rattle.mlr_lines.specs.Steps.{are_none, unmarked_line, unmarked_lines}
use Rattle.mlr_lines.proofs.Cutting.{begun-append, begun_line-is, ended_lines-append}
use Rattle.mlr_event.specs.declared.event.Ctx.{Ctx}
use Rattle.mlr_event.specs.declared.names.FileRef.{FileRef}
use Rattle.mlr_event.specs.declared.options.Comments.{Comments}
use Rattle.mlr_event.specs.declared.options.Format.TheVariants as format
use Rattle.mlr_event.specs.declared.options.ReadOpts.{ReadOpts}
use Rattle.mlr_event.specs.Reading.{Item, comment_items, events_of, is_comment}
use Rattle.read_xtab_pprint.specs.Blocks.{block_fed, block_read, items_fixed, items_whole}
use Rattle.read_xtab_pprint.specs.Prefixes.{end_empty, ends_with_gap, gap_prefix, gap_prefix_within, is_empty_line}
use Rattle.read_xtab_pprint.specs.Xtab.{is_gap, record_items}
use Rattle.read_xtab_pprint.specs.XtabRules.{xtab_from, xtab_rest}
use Rattle.read_xtab_pprint.proofs.Runs.{runs-fixed, runs-whole}

-- one more byte either ends a line or doesn't
unmarked-nothing : (first : Bool) → unmarked_line first [] ≡ []
unmarked-nothing true = refl
unmarked-nothing false = refl

fixed-on : (bytes : List ℕ) (b : ℕ) → eqb b 10 ≡ false → fixed_lines (bytes ++ b ∷ []) ≡ fixed_lines bytes
fixed-on bytes b other =
    let begun = begun_after [] bytes in
    let none : ended_after begun (b ∷ []) ≡ [] = rw other refl in
    ap (map without_return) (
    ended_lines-append bytes (b ∷ []) ∙ ap (λ lines. ended_lines bytes ++ unmarked_lines (are_none (ended_lines bytes)) lines) none
    ∙ append-nil (ended_lines bytes)
    )

fixed-last : (bytes : List ℕ) (b : ℕ) → eqb b 10 ≡ true → (line : List ℕ) × (fixed_lines (bytes ++ b ∷ []) ≡ fixed_lines bytes ++ line ∷ []) × (begun_line (bytes ++ b ∷ []) ≡ [])
fixed-last bytes b feed =
    let begun = begun_after [] bytes in
    let first = are_none (ended_lines bytes) in
    let line = unmarked_line first begun in
    let one : ended_after begun (b ∷ []) ≡ begun ∷ [] = rw feed refl in
    let none : begun_after begun (b ∷ []) ≡ [] = rw feed refl in (
      without_return line,
      ap (map without_return) (ended_lines-append bytes (b ∷ []) ∙ ap (λ lines. ended_lines bytes ++ unmarked_lines first lines) one)
          ∙ map-append without_return (ended_lines bytes) (line ∷ []),
      begun_line-is (bytes ++ b ∷ [])
          ∙ ap (unmarked_line (are_none (ended_lines (bytes ++ b ∷ [])))) (begun-append [] bytes (b ∷ []) ∙ none)
          ∙ unmarked-nothing (are_none (ended_lines (bytes ++ b ∷ []))),
    )

end-last : (comments : Comments) (lines : List (List ℕ)) (line : List ℕ) → end_empty comments (lines ++ line ∷ []) ≡ is_empty_line comments line
end-last comments [] line = refl
end-last comments (l ∷ []) line = refl
end-last comments (l ∷ next ∷ lines) line = end-last comments (next ∷ lines) line

no-bytes : (line : List ℕ) → eqb (length line) 0 ≡ true → line ≡ []
no-bytes [] is = refl
no-bytes (b ∷ line) is = absurd (omega (arith, eqb-true (length (b ∷ line)) 0 is))

module _ (opts : ReadOpts) where
  -- a line that isn't empty fixes nothing
  from-comment : (line : List ℕ) (passed : List Item) (begun lines : List (List ℕ)) → is_comment opts.comments line ≡ true
      → xtab_from opts passed begun (line ∷ lines) ≡ xtab_from opts (passed ++ comment_items opts.comments line) begun lines
  from-comment line passed begun lines is = rw is refl

  from-gap : (line : List ℕ) (passed : List Item) (begun lines : List (List ℕ)) → is_comment opts.comments line ≡ false → is_gap line ≡ true
      → xtab_from opts passed begun (line ∷ lines) ≡ (passed ++ record_items opts begun) ++ xtab_from opts [] [] lines
  from-gap line passed begun lines isnt gap = rw isnt (rw gap refl)

  from-line : (line : List ℕ) (passed : List Item) (begun lines : List (List ℕ)) → is_comment opts.comments line ≡ false → is_gap line ≡ false
      → xtab_from opts passed begun (line ∷ lines) ≡ xtab_from opts passed (begun ++ line ∷ []) lines
  from-line line passed begun lines isnt text = rw isnt (rw text refl)

  from-quiet : (lines : List (List ℕ)) (line : List ℕ) (passed : List Item) (begun : List (List ℕ)) → is_empty_line opts.comments line ≡ false
      → xtab_from opts passed begun (lines ++ line ∷ []) ≡ xtab_from opts passed begun lines
  from-quiet [] line passed begun other =
      elim (cases_Bool (is_comment opts.comments line)) as (λ _. xtab_from opts passed begun (line ∷ []) ≡ []) [
        | inl is ↦ from-comment line passed begun [] is
        | inr isnt ↦ from-line line passed begun [] isnt (sym (ap (λ t. not t && is_gap line) isnt) ∙ other)
      ]
  from-quiet (l ∷ lines) line passed begun other =
      let more = lines ++ line ∷ [] in
      elim (cases_Bool (is_comment opts.comments l)) as (λ _. xtab_from opts passed begun (l ∷ more) ≡ xtab_from opts passed begun (l ∷ lines)) [
        | inl is ↦
            from-comment l passed begun more is ∙ from-quiet lines line (passed ++ comment_items opts.comments l) begun other
            ∙ sym (from-comment l passed begun lines is)
        | inr isnt ↦ elim (cases_Bool (is_gap l)) as (λ _. xtab_from opts passed begun (l ∷ more) ≡ xtab_from opts passed begun (l ∷ lines)) [
          | inl gap ↦
              from-gap l passed begun more isnt gap ∙ ap (λ items. (passed ++ record_items opts begun) ++ items) (from-quiet lines line [] [] other)
              ∙ sym (from-gap l passed begun lines isnt gap)
          | inr text ↦
              from-line l passed begun more isnt text ∙ from-quiet lines line passed (begun ++ l ∷ []) other
              ∙ sym (from-line l passed begun lines isnt text)
        ]
      ]

  -- after a last line that is empty, there is no rest
  rest-none : (lines : List (List ℕ)) (passed : List Item) (begun : List (List ℕ)) → end_empty opts.comments lines ≡ true → xtab_rest opts passed begun lines ≡ []
  rest-none [] passed begun ends = absurd (true≢false (sym ends))
  rest-none (line ∷ []) passed begun ends =
      let parts = and_parts (not (is_comment opts.comments line)) (is_gap line) ends in
      rw (not-true (is_comment opts.comments line) parts.0) (rw parts.1 refl)
  rest-none (line ∷ next ∷ lines) passed begun ends =
      elim (cases_Bool (is_comment opts.comments line)) as (λ _. xtab_rest opts passed begun (line ∷ next ∷ lines) ≡ []) [
        | inl is ↦ rest-comment is ∙ rest-none (next ∷ lines) (passed ++ comment_items opts.comments line) begun ends
        | inr isnt ↦ elim (cases_Bool (is_gap line)) as (λ _. xtab_rest opts passed begun (line ∷ next ∷ lines) ≡ []) [
          | inl gap ↦ rest-gap isnt gap ∙ rest-none (next ∷ lines) [] [] ends
          | inr text ↦ rest-line isnt text ∙ rest-none (next ∷ lines) passed (begun ++ line ∷ []) ends
        ]
      ]
    where
      rest-comment : is_comment opts.comments line ≡ true → xtab_rest opts passed begun (line ∷ next ∷ lines) ≡ xtab_rest opts (passed ++ comment_items opts.comments line) begun (next ∷ lines)
      rest-comment is = rw is refl

      rest-gap : is_comment opts.comments line ≡ false → is_gap line ≡ true → xtab_rest opts passed begun (line ∷ next ∷ lines) ≡ xtab_rest opts [] [] (next ∷ lines)
      rest-gap isnt gap = rw isnt (rw gap refl)

      rest-line : is_comment opts.comments line ≡ false → is_gap line ≡ false → xtab_rest opts passed begun (line ∷ next ∷ lines) ≡ xtab_rest opts passed (begun ++ line ∷ []) (next ∷ lines)
      rest-line isnt text = rw isnt (rw text refl)

  -- the items of a text as a whole file, and those that it fixes as the first bytes of one
  abbrev whole : List ℕ → List Item
  whole text = xtab_from opts [] [] (whole_lines text) ++ xtab_rest opts [] [] (whole_lines text)

  abbrev fixed : List ℕ → List Item
  fixed text = xtab_from opts [] [] (fixed_lines text)

  whole-ended : (text : List ℕ) → ends_with_gap opts.comments text ≡ true → whole text ≡ fixed text
  whole-ended text ends =
      let parts = and_parts (eqb (length (begun_line text)) 0) (end_empty opts.comments (fixed_lines text)) ends in
      let lines : whole_lines text ≡ fixed_lines text =
      ap (λ line. fixed_lines text ++ last_line line) (no-bytes (begun_line text) parts.0) ∙ append-nil (fixed_lines text) in
      ap (λ all. xtab_from opts [] [] all ++ xtab_rest opts [] [] all) lines
      ∙ ap (λ rest. fixed text ++ rest) (rest-none (fixed_lines text) [] [] parts.1) ∙ append-nil (fixed text)

  byte-quiet : (bytes : List ℕ) (b : ℕ) → ends_with_gap opts.comments (bytes ++ b ∷ []) ≡ false → fixed (bytes ++ b ∷ []) ≡ fixed bytes
  byte-quiet bytes b other =
      elim (cases_Bool (eqb b 10)) as (λ _. fixed (bytes ++ b ∷ []) ≡ fixed bytes) [
        | inr on ↦ ap (xtab_from opts [] []) (fixed-on bytes b on)
        | inl feed ↦
            let last = fixed-last bytes b feed in
            let isnt : is_empty_line opts.comments last.0 ≡ false =
            sym (end-last opts.comments (fixed_lines bytes) last.0) ∙ ap (end_empty opts.comments) (sym last.1)
            ∙ ap (λ line. eqb (length line) 0 && end_empty opts.comments (fixed_lines (bytes ++ b ∷ []))) (sym last.2) ∙ other in
            ap (xtab_from opts [] []) last.1 ∙ from-quiet (fixed_lines bytes) last.0 [] [] isnt
      ]

  prefix-is : (n : ℕ) (bytes : List ℕ) → n ≤ length bytes → fixed (take n bytes) ≡ whole (gap_prefix_within n opts.comments bytes)
  prefix-is zero bytes below = refl
  prefix-is (suc n) bytes below =
      let text = take (suc n) bytes in
      let before = gap_prefix_within n opts.comments bytes in
      elim (cases_Bool (ends_with_gap opts.comments text)) as (λ _. fixed text ≡ whole (cond (ends_with_gap opts.comments text) text before)) [
        | inl ends ↦ sym (whole-ended text ends) ∙ ap (λ t. whole (cond t text before)) (sym ends)
        | inr other ↦
            let more : text ≡ take n bytes ++ get_or bytes n 0 ∷ [] = ap (λ k. take k bytes) (sym (add-one n)) ∙ take_more bytes n 0 (omega (arith, below)) in
            ap fixed more ∙ byte-quiet (take n bytes) (get_or bytes n 0) (ap (ends_with_gap opts.comments) (sym more) ∙ other)
            ∙ prefix-is n bytes (omega (arith, below)) ∙ ap (λ t. whole (cond t text before)) (sym other)
      ]

  pub fed-gap : (file : FileRef) (start : Ctx) (bytes : List ℕ) → opts.format ≡ format.Xtab → block_fed opts file start bytes ≡ block_read opts file start (gap_prefix opts.comments bytes)
  fed-gap file start bytes is =
      ap (λ f. events_of start (items_fixed opts file f (fixed_lines bytes))) is
      ∙ ap (events_of start) (sym (runs-fixed opts (fixed_lines bytes)))
      ∙ ap (λ text. events_of start (fixed text)) (sym (take-length bytes))
      ∙ ap (events_of start) (prefix-is (length bytes) bytes (omega arith) ∙ runs-whole opts (whole_lines (gap_prefix opts.comments bytes)))
      ∙ ap (λ f. events_of start (items_whole opts file f (whole_lines (gap_prefix opts.comments bytes)))) (sym is)
