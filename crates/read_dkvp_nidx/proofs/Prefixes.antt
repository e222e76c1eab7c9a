-- What the first bytes of a file fix stays the same when bytes follow.
use Rattle.std.proofs.Common.{◌≡◌, ℕ, List, [], ◌++◌, refl, ap, sym, ◌∙◌}
use Rattle.std.specs.List.{flat_map}
use Rattle.std.proofs.lemmas.Grind.{flat_map-append}
use Rattle.mlr_lines.specs.Blocks.{each_after}
use Rattle.mlr_lines.proofs.Blocks.{each_after-append}
use Rattle.mlr_lines.specs.Prefixes.{ended_prefix}
use Rattle.mlr_lines.proofs.Prefixing.{fixed-more, whole-more, whole-prefix}
use Rattle.mlr_lines.specs.Lines.{fixed_lines}
use Rattle.mlr_event.specs.declared.event.Ctx.{Ctx}
use Rattle.mlr_event.specs.declared.event.Event.{Event}
use Rattle.mlr_event.specs.declared.names.FileRef.{FileRef}
use Rattle.mlr_event.specs.declared.options.Format.{Format}
use Rattle.mlr_event.specs.declared.options.Format.TheVariants as format
use Rattle.mlr_event.specs.declared.options.ReadOpts.{ReadOpts}
use Rattle.mlr_event.specs.Reading.{Item, ctx_after, events_of}
use Rattle.mlr_event.specs.Stream.{events_after, has_fault}
use Rattle.mlr_event.proofs.Streams.{events_of-append}
use Rattle.read_dkvp_nidx.specs.Dkvp.{dkvp_line}
use Rattle.read_dkvp_nidx.specs.Nidx.{nidx_line}
use Rattle.read_dkvp_nidx.specs.Markdown.{line_after, markdown_items}
use Rattle.read_dkvp_nidx.specs.Lines.{items_of_lines, line_fed, line_read}

module _ (opts : ReadOpts) (file : FileRef) where
  table-more : (lines more : List (List ℕ)) → (items : List Item) × (markdown_items opts file (lines ++ more) ≡ markdown_items opts file lines ++ items)
  table-more lines more = (each_after (line_after opts file) lines more, each_after-append (line_after opts file) [] lines more)

  items-more : (as_format : Format) (lines more : List (List ℕ)) → (items : List Item) × (items_of_lines opts file as_format (lines ++ more) ≡ items_of_lines opts file as_format lines ++ items)
  items-more format.Dkvp lines more = (flat_map (dkvp_line opts) more, flat_map-append (dkvp_line opts) lines more)
  items-more format.Nidx lines more = (flat_map (nidx_line opts) more, flat_map-append (nidx_line opts) lines more)
  items-more format.Markdown lines more = table-more lines more
  items-more _ lines more = ([], refl)

  pub events-more : (start : Ctx) (lines more : List (List ℕ)) → (events : List Event) × (events_of start (items_of_lines opts file opts.format (lines ++ more)) ≡ events_of start (items_of_lines opts file opts.format lines) ++ events)
  events-more start lines more =
      let later = items-more opts.format lines more in
      let prefix = items_of_lines opts file opts.format lines in
      (events_after (has_fault prefix) (ctx_after start prefix) later.0, ap (events_of start) later.1 ∙ events_of-append start prefix later.0)

  pub fed-more : (start : Ctx) (bytes rest : List ℕ) → (more : List Event) × (line_fed opts file start (bytes ++ rest) ≡ line_fed opts file start bytes ++ more)
  fed-more start bytes rest =
      let lines = fixed-more bytes rest in
      let events = events-more start (fixed_lines bytes) lines.0 in
      (events.0, ap (λ all. events_of start (items_of_lines opts file opts.format all)) lines.1 ∙ events.1)

  pub read-more : (start : Ctx) (bytes rest : List ℕ) → (more : List Event) × (line_read opts file start (bytes ++ rest) ≡ line_fed opts file start bytes ++ more)
  read-more start bytes rest =
      let lines = whole-more bytes rest in
      let events = events-more start (fixed_lines bytes) lines.0 in
      (events.0, ap (λ all. events_of start (items_of_lines opts file opts.format all)) lines.1 ∙ events.1)

  pub fed-prefix : (start : Ctx) (bytes : List ℕ) → line_fed opts file start bytes ≡ line_read opts file start (ended_prefix bytes)
  fed-prefix start bytes = ap (λ lines. events_of start (items_of_lines opts file opts.format lines)) (sym (whole-prefix bytes))
