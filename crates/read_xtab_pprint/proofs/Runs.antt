-- XTAB: the items of the runs of lines, found line by line.
use Rattle.std.proofs.Common.{◌≡◌, ℕ, true, false, not, ◌&&◌, List, [], ◌∷◌, ◌++◌, refl, ap, ap₂, sym, ◌∙◌, append_assoc, inl, inr}
use Rattle.std.specs.List.{flat_map, onto_first, slice_split}
use Rattle.std.proofs.lemmas.Bool.{cases_Bool}
use Rattle.std.proofs.lemmas.List.{append-nil}
use Rattle.std.proofs.lemmas.List.Splits.{slice_split-cons_no, slice_split-cons_yes}
use Rattle.mlr_event.specs.declared.options.ReadOpts.{ReadOpts}
use Rattle.mlr_event.specs.Reading.{Item, comment_items, is_comment}
use Rattle.read_xtab_pprint.specs.Xtab.{comments_in, ends_record, is_gap, others_in, record_items, run_items, without_last, xtab_fixed, xtab_items}
use Rattle.read_xtab_pprint.specs.XtabRules.{xtab_from, xtab_rest}

abbrev Lines : Type 0
Lines = List (List ℕ)

module _ (opts : ReadOpts) where
  -- the items of a run, and of a list of runs, where these comments and these lines precede the first
  abbrev run_after : List Item → Lines → Lines → List Item
  run_after passed begun run = (passed ++ comments_in opts run) ++ record_items opts (begun ++ others_in opts run)

  abbrev runs_after : List Item → Lines → List Lines → List Item
  runs_after passed begun [] = []
  runs_after passed begun (run ∷ runs) = run_after passed begun run ++ flat_map (run_items opts) runs

  abbrev ended_after : List Item → Lines → List Lines → List Item
  ended_after passed begun [] = []
  ended_after passed begun (run ∷ []) = []
  ended_after passed begun (run ∷ next ∷ runs) = run_after passed begun run ++ flat_map (run_items opts) (without_last (next ∷ runs))

  run-none : (passed : List Item) (begun : Lines) → run_after passed begun [] ≡ passed ++ record_items opts begun
  run-none passed begun = ap₂ (λ p b. p ++ record_items opts b) (append-nil passed) (append-nil begun)

  -- a run that begins with a comment, and one that begins with another line
  run-comment : (line : List ℕ) (passed : List Item) (begun run : Lines) → is_comment opts.comments line ≡ true
      → run_after (passed ++ comment_items opts.comments line) begun run ≡ run_after passed begun (line ∷ run)
  run-comment line passed begun run is =
      rw is (ap (λ comments. comments ++ record_items opts (begun ++ others_in opts run)) (append_assoc passed (comment_items opts.comments line) (comments_in opts run)))

  run-line : (line : List ℕ) (passed : List Item) (begun run : Lines) → is_comment opts.comments line ≡ false
      → run_after passed (begun ++ line ∷ []) run ≡ run_after passed begun (line ∷ run)
  run-line line passed begun run isnt =
      rw isnt (ap (λ lines. (passed ++ comments_in opts run) ++ record_items opts lines) (append_assoc begun (line ∷ []) (others_in opts run)))

  runs-plain : (runs : List Lines) → runs_after [] [] runs ≡ flat_map (run_items opts) runs
  runs-plain [] = refl
  runs-plain (run ∷ runs) = refl

  ended-plain : (runs : List Lines) → ended_after [] [] runs ≡ flat_map (run_items opts) (without_last runs)
  ended-plain [] = refl
  ended-plain (run ∷ []) = refl
  ended-plain (run ∷ next ∷ runs) = refl

  -- a line that belongs to the first run
  runs-onto : (line : List ℕ) (passed passed_2 : List Item) (begun begun_2 : Lines) (run : Lines) (runs : List Lines)
      → run_after passed_2 begun_2 run ≡ run_after passed begun (line ∷ run) → runs_after passed_2 begun_2 (run ∷ runs) ≡ runs_after passed begun ((line ∷ run) ∷ runs)
  runs-onto line passed passed_2 begun begun_2 run runs same = ap (λ items. items ++ flat_map (run_items opts) runs) same

  ended-onto : (line : List ℕ) (passed passed_2 : List Item) (begun begun_2 : Lines) (run : Lines) (runs : List Lines)
      → run_after passed_2 begun_2 run ≡ run_after passed begun (line ∷ run) → ended_after passed_2 begun_2 (run ∷ runs) ≡ ended_after passed begun ((line ∷ run) ∷ runs)
  ended-onto line passed passed_2 begun begun_2 run [] same = refl
  ended-onto line passed passed_2 begun begun_2 run (next ∷ runs) same = ap (λ items. items ++ flat_map (run_items opts) (without_last (next ∷ runs))) same

  -- there is always a first run
  record Split (lines : Lines) : Type 0 where
    run : Lines
    runs : List Lines
    split : slice_split (ends_record opts) lines ≡ run ∷ runs

  split-of : (lines : Lines) → Split lines
  split-of [] = record { run = []; runs = []; split = refl }
  split-of (line ∷ lines) =
      let more = split-of lines in
      elim (cases_Bool (ends_record opts line)) as (λ _. Split (line ∷ lines)) [
        | inl is ↦ record { run = []; runs = slice_split (ends_record opts) lines; split = slice_split-cons_yes (ends_record opts) line lines is }
        | inr isnt ↦ record { run = line ∷ more.run; runs = more.runs; split = slice_split-cons_no (ends_record opts) line lines isnt ∙ ap (onto_first line) more.split }
      ]

  -- which kind of line a line is
  data Kind (line : List ℕ) : Type 0 where
    comment : is_comment opts.comments line ≡ true → ends_record opts line ≡ false → Kind line
    gap : is_comment opts.comments line ≡ false → is_gap line ≡ true → ends_record opts line ≡ true → Kind line
    text : is_comment opts.comments line ≡ false → is_gap line ≡ false → ends_record opts line ≡ false → Kind line

  kind-of : (line : List ℕ) → Kind line
  kind-of line =
      elim (cases_Bool (is_comment opts.comments line)) as (λ _. Kind line) [
        | inl is ↦ comment is (ap (λ t. not t && is_gap line) is)
        | inr isnt ↦ elim (cases_Bool (is_gap line)) as (λ _. Kind line) [
          | inl empty ↦ gap isnt empty (ap₂ (λ t u. not t && u) isnt empty)
          | inr full ↦ text isnt full (ap₂ (λ t u. not t && u) isnt full)
        ]
      ]

  abbrev from_all : List Item → Lines → Lines → List Item
  from_all passed begun lines = xtab_from opts passed begun lines ++ xtab_rest opts passed begun lines

  -- one line, and then the others
  all-comment : (line : List ℕ) (passed : List Item) (begun lines : Lines) → is_comment opts.comments line ≡ true
      → from_all passed begun (line ∷ lines) ≡ from_all (passed ++ comment_items opts.comments line) begun lines
  all-comment line passed begun lines is = rw is refl

  all-gap : (line : List ℕ) (passed : List Item) (begun lines : Lines) → is_comment opts.comments line ≡ false → is_gap line ≡ true
      → from_all passed begun (line ∷ lines) ≡ (passed ++ record_items opts begun) ++ from_all [] [] lines
  all-gap line passed begun lines isnt is =
      rw isnt (rw is (append_assoc (passed ++ record_items opts begun) (xtab_from opts [] [] lines) (xtab_rest opts [] [] lines)))

  all-text : (line : List ℕ) (passed : List Item) (begun lines : Lines) → is_comment opts.comments line ≡ false → is_gap line ≡ false
      → from_all passed begun (line ∷ lines) ≡ from_all passed (begun ++ line ∷ []) lines
  all-text line passed begun lines isnt full = rw isnt (rw full refl)

  from-comment : (line : List ℕ) (passed : List Item) (begun lines : Lines) → is_comment opts.comments line ≡ true
      → xtab_from opts passed begun (line ∷ lines) ≡ xtab_from opts (passed ++ comment_items opts.comments line) begun lines
  from-comment line passed begun lines is = rw is refl

  from-gap : (line : List ℕ) (passed : List Item) (begun lines : Lines) → is_comment opts.comments line ≡ false → is_gap line ≡ true
      → xtab_from opts passed begun (line ∷ lines) ≡ (passed ++ record_items opts begun) ++ xtab_from opts [] [] lines
  from-gap line passed begun lines isnt is = rw isnt (rw is refl)

  from-text : (line : List ℕ) (passed : List Item) (begun lines : Lines) → is_comment opts.comments line ≡ false → is_gap line ≡ false
      → xtab_from opts passed begun (line ∷ lines) ≡ xtab_from opts passed (begun ++ line ∷ []) lines
  from-text line passed begun lines isnt full = rw isnt (rw full refl)

  -- the first run goes on
  on-runs : (line : List ℕ) (lines : Lines) → ends_record opts line ≡ false → (more : Split lines) → slice_split (ends_record opts) (line ∷ lines) ≡ (line ∷ more.run) ∷ more.runs
  on-runs line lines isnt more = slice_split-cons_no (ends_record opts) line lines isnt ∙ ap (onto_first line) more.split

  whole : (lines : Lines) (passed : List Item) (begun : Lines) → from_all passed begun lines ≡ runs_after passed begun (slice_split (ends_record opts) lines)
  whole [] passed begun = sym (append-nil (run_after passed begun []) ∙ run-none passed begun)
  whole (line ∷ lines) passed begun =
      let more = split-of lines in
      let runs = slice_split (ends_record opts) (line ∷ lines) in
      elim (kind-of line) as (λ _. from_all passed begun (line ∷ lines) ≡ runs_after passed begun runs) [
        | comment is on ↦
            let before = passed ++ comment_items opts.comments line in
            all-comment line passed begun lines is ∙ whole lines before begun ∙ ap (runs_after before begun) more.split
            ∙ runs-onto line passed before begun begun more.run more.runs (run-comment line passed begun more.run is)
            ∙ ap (runs_after passed begun) (sym (on-runs line lines on more))
        | gap isnt is ends ↦
            all-gap line passed begun lines isnt is
            ∙ ap₂ (λ here later. here ++ later) (sym (run-none passed begun)) (whole lines [] [] ∙ runs-plain (slice_split (ends_record opts) lines))
            ∙ ap (runs_after passed begun) (sym (slice_split-cons_yes (ends_record opts) line lines ends))
        | text isnt full on ↦
            let before = begun ++ line ∷ [] in
            all-text line passed begun lines isnt full ∙ whole lines passed before ∙ ap (runs_after passed before) more.split
            ∙ runs-onto line passed passed begun before more.run more.runs (run-line line passed begun more.run isnt)
            ∙ ap (runs_after passed begun) (sym (on-runs line lines on more))
      ]

  ended-gap : (passed : List Item) (begun : Lines) (lines : Lines) → Split lines
      → (passed ++ record_items opts begun) ++ ended_after [] [] (slice_split (ends_record opts) lines) ≡ ended_after passed begun ([] ∷ slice_split (ends_record opts) lines)
  ended-gap passed begun lines more =
      ap (λ runs. (passed ++ record_items opts begun) ++ ended_after [] [] runs) more.split
      ∙ ap₂ (λ here later. here ++ later) (sym (run-none passed begun)) (ended-plain (more.run ∷ more.runs))
      ∙ ap (λ runs. ended_after passed begun ([] ∷ runs)) (sym more.split)

  fixed : (lines : Lines) (passed : List Item) (begun : Lines) → xtab_from opts passed begun lines ≡ ended_after passed begun (slice_split (ends_record opts) lines)
  fixed [] passed begun = refl
  fixed (line ∷ lines) passed begun =
      let more = split-of lines in
      let runs = slice_split (ends_record opts) (line ∷ lines) in
      elim (kind-of line) as (λ _. xtab_from opts passed begun (line ∷ lines) ≡ ended_after passed begun runs) [
        | comment is on ↦
            let before = passed ++ comment_items opts.comments line in
            from-comment line passed begun lines is ∙ fixed lines before begun ∙ ap (ended_after before begun) more.split
            ∙ ended-onto line passed before begun begun more.run more.runs (run-comment line passed begun more.run is)
            ∙ ap (ended_after passed begun) (sym (on-runs line lines on more))
        | gap isnt is ends ↦
            from-gap line passed begun lines isnt is
            ∙ ap (λ later. (passed ++ record_items opts begun) ++ later) (fixed lines [] [])
            ∙ ended-gap passed begun lines more
            ∙ ap (ended_after passed begun) (sym (slice_split-cons_yes (ends_record opts) line lines ends))
        | text isnt full on ↦
            let before = begun ++ line ∷ [] in
            from-text line passed begun lines isnt full ∙ fixed lines passed before ∙ ap (ended_after passed before) more.split
            ∙ ended-onto line passed passed begun before more.run more.runs (run-line line passed begun more.run isnt)
            ∙ ap (ended_after passed begun) (sym (on-runs line lines on more))
      ]

  pub runs-whole : (lines : Lines) → xtab_from opts [] [] lines ++ xtab_rest opts [] [] lines ≡ xtab_items opts lines
  runs-whole lines = whole lines [] [] ∙ runs-plain (slice_split (ends_record opts) lines)

  pub runs-fixed : (lines : Lines) → xtab_from opts [] [] lines ≡ xtab_fixed opts lines
  runs-fixed lines = fixed lines [] [] ∙ ended-plain (slice_split (ends_record opts) lines)
