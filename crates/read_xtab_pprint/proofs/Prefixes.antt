-- What the first bytes of a file fix stays the same when bytes follow.
use Rattle.std.proofs.Common.{◌≡◌, ℕ, cond, List, [], ◌∷◌, ◌++◌, refl, ap, sym, ◌∙◌, append_assoc, inl, inr}
use Rattle.std.proofs.lemmas.Bool.{cases_Bool}
use Rattle.mlr_lines.specs.Prefixes.{ended_prefix}
use Rattle.mlr_lines.specs.Lines.{fixed_lines, whole_lines}
use Rattle.mlr_lines.specs.Blocks.{each_after}
use Rattle.mlr_lines.proofs.Blocks.{each_after-append}
use Rattle.mlr_lines.proofs.Prefixing.{fixed-more, whole-more, whole-prefix}
use Rattle.mlr_event.specs.declared.event.Ctx.{Ctx}
use Rattle.mlr_event.specs.declared.event.Event.{Event}
use Rattle.mlr_event.specs.declared.names.FileRef.{FileRef}
use Rattle.mlr_event.specs.declared.options.Format.{Format}
use Rattle.mlr_event.specs.declared.options.Format.TheVariants as format
use Rattle.mlr_event.specs.declared.options.ReadOpts.{ReadOpts}
use Rattle.mlr_event.specs.Reading.{Item, comment_items, ctx_after, events_of, is_comment}
use Rattle.mlr_event.specs.Stream.{events_after, has_fault}
use Rattle.mlr_event.proofs.Streams.{events_of-append}
use Rattle.read_xtab_pprint.specs.Blocks.{block_fed, block_read, items_fixed, items_whole}
use Rattle.read_xtab_pprint.specs.Pprint.{line_after, pprint_items}
use Rattle.read_xtab_pprint.specs.Xtab.{is_gap, record_items}
use Rattle.read_xtab_pprint.specs.XtabRules.{xtab_from, xtab_rest}
use Rattle.read_xtab_pprint.proofs.Runs.{runs-fixed, runs-whole}

module _ (opts : ReadOpts) (file : FileRef) where
  pprint-more : (lines more : List (List ℕ)) → (items : List Item) × (pprint_items opts file (lines ++ more) ≡ pprint_items opts file lines ++ items)
  pprint-more lines more = (each_after (line_after opts file) lines more, each_after-append (line_after opts file) [] lines more)

  xtab-more : (lines more : List (List ℕ)) (passed : List Item) (begun : List (List ℕ)) → (items : List Item) × (xtab_from opts passed begun (lines ++ more) ≡ xtab_from opts passed begun lines ++ items)
  xtab-more [] more passed begun = (xtab_from opts passed begun more, refl)
  xtab-more (line ∷ lines) more passed begun =
      elim (cases_Bool (is_comment opts.comments line)) as (λ _. (items : List Item) × (xtab_from opts passed begun (line ∷ lines ++ more) ≡ xtab_from opts passed begun (line ∷ lines) ++ items)) [
        | inl is ↦ rw is (xtab-more lines more (passed ++ comment_items opts.comments line) begun)
        | inr isnt ↦
            rw isnt (
            elim (cases_Bool (is_gap line)) as
            (λ _. (items : List Item)
            × (
            cond (is_gap line) ((passed ++ record_items opts begun) ++ xtab_from opts [] [] (lines ++ more)) (xtab_from opts passed (begun ++ line ∷ []) (lines ++ more))
            ≡ cond (is_gap line) ((passed ++ record_items opts begun) ++ xtab_from opts [] [] lines) (xtab_from opts passed (begun ++ line ∷ []) lines) ++ items
            )) [
              | inl gap ↦
                  let later = xtab-more lines more [] [] in
                  let here = passed ++ record_items opts begun in
                  rw gap ((later.0, ap (λ items. here ++ items) later.1 ∙ sym (append_assoc here (xtab_from opts [] [] lines) later.0)))
              | inr text ↦ rw text (xtab-more lines more passed (begun ++ line ∷ []))
            ]
            )
      ]

  items-more : (as_format : Format) (lines more : List (List ℕ)) → (items : List Item) × (items_fixed opts file as_format (lines ++ more) ≡ items_fixed opts file as_format lines ++ items)
  items-more format.Xtab lines more =
      let later = xtab-more lines more [] [] in
      (later.0, sym (runs-fixed opts (lines ++ more)) ∙ later.1 ∙ ap (λ items. items ++ later.0) (runs-fixed opts lines))
  items-more format.Pprint lines more = pprint-more lines more
  items-more _ lines more = ([], refl)

  whole-items : (as_format : Format) (lines more : List (List ℕ)) → (items : List Item) × (items_whole opts file as_format (lines ++ more) ≡ items_fixed opts file as_format lines ++ items)
  whole-items format.Xtab lines more =
      let later = xtab-more lines more [] [] in
      let rest = xtab_rest opts [] [] (lines ++ more) in (
        later.0 ++ rest,
        sym (runs-whole opts (lines ++ more)) ∙ ap (λ items. items ++ rest) later.1 ∙ append_assoc (xtab_from opts [] [] lines) later.0 rest
            ∙ ap (λ items. items ++ (later.0 ++ rest)) (runs-fixed opts lines),
      )
  whole-items format.Pprint lines more = pprint-more lines more
  whole-items _ lines more = ([], refl)

  -- the events of items that extend other items
  go-on : (start : Ctx) (prefix items all : List Item) → all ≡ prefix ++ items → (events : List Event) × (events_of start all ≡ events_of start prefix ++ events)
  go-on start prefix items all is = (events_after (has_fault prefix) (ctx_after start prefix) items, ap (events_of start) is ∙ events_of-append start prefix items)

  pub fed-more : (start : Ctx) (bytes rest : List ℕ) → (more : List Event) × (block_fed opts file start (bytes ++ rest) ≡ block_fed opts file start bytes ++ more)
  fed-more start bytes rest =
      let lines = fixed-more bytes rest in
      let items = items-more opts.format (fixed_lines bytes) lines.0 in
      go-on start (items_fixed opts file opts.format (fixed_lines bytes)) items.0 (items_fixed opts file opts.format (fixed_lines (bytes ++ rest)))
      (ap (items_fixed opts file opts.format) lines.1 ∙ items.1)

  pub read-more : (start : Ctx) (bytes rest : List ℕ) → (more : List Event) × (block_read opts file start (bytes ++ rest) ≡ block_fed opts file start bytes ++ more)
  read-more start bytes rest =
      let lines = whole-more bytes rest in
      let items = whole-items opts.format (fixed_lines bytes) lines.0 in
      go-on start (items_fixed opts file opts.format (fixed_lines bytes)) items.0 (items_whole opts file opts.format (whole_lines (bytes ++ rest)))
      (ap (items_whole opts file opts.format) lines.1 ∙ items.1)

  pub fed-prefix : (start : Ctx) (bytes : List ℕ) → opts.format ≡ format.Pprint → block_fed opts file start bytes ≡ block_read opts file start (ended_prefix bytes)
  fed-prefix start bytes is =
      ap (λ f. events_of start (items_fixed opts file f (fixed_lines bytes))) is
      ∙ ap (λ lines. events_of start (pprint_items opts file lines)) (sym (whole-prefix bytes))
      ∙ ap (λ f. events_of start (items_whole opts file f (whole_lines (ended_prefix bytes)))) (sym is)
