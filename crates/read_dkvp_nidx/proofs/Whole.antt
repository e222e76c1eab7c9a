-- Reading line by line gives the events of the file.
use Rattle.std.proofs.Common.{◌≡◌, ℕ, ◌+◌, Bool, true, false, if◌then◌else◌, List, [], ◌∷◌, ◌++◌, map, refl, ap, ap₂, sym, ◌∙◌}
use Rattle.std.specs.List.{flat_map}
use Rattle.std.proofs.lemmas.Bool.{true≢false}
use Rattle.std.proofs.lemmas.List.{append-nil}
use Rattle.std.proofs.lemmas.List.Sums.{fold-append}
use Rattle.mlr_lines.specs.Lines.{ended_lines, begun_line, fixed_lines, whole_lines, last_line, without_return}
use Rattle.mlr_lines.specs.Represents.{format_after, given}
use Rattle.mlr_lines.proofs.Feeding.{given-append}
use Rattle.mlr_event.specs.declared.event.Ctx.{Ctx}
use Rattle.mlr_event.specs.declared.names.FileRef.{FileRef}
use Rattle.mlr_event.specs.declared.options.Format.{Format}
use Rattle.mlr_event.specs.declared.options.Format.TheVariants as format
use Rattle.mlr_event.specs.declared.options.ReadOpts.{ReadOpts}
use Rattle.mlr_event.specs.Reading.{Item, comment_items, ctx_after, events_of, is_comment}
use Rattle.mlr_event.specs.Stream.{has_fault, events_after, ctx_after_events}
use Rattle.mlr_event.proofs.Streams.{events_of-append, ctx_after-append}
use Rattle.read_dkvp_nidx.specs.declared.rules.LineRules.{LineRules}
use Rattle.read_dkvp_nidx.specs.Dkvp.{dkvp_line}
use Rattle.read_dkvp_nidx.specs.Nidx.{nidx_line}
use Rattle.read_dkvp_nidx.specs.Lines.{ctx_fed, ctx_read, items_of_lines, line_fed, line_read}
use Rattle.read_dkvp_nidx.specs.MarkdownLines as markdown
use Rattle.read_dkvp_nidx.specs.Row.{block_of, place_of}
use Rattle.read_dkvp_nidx.specs.Rules.{Begins, after_last, after_line, rules_after, gives_last, gives_line, items_by, items_from, line_block, line_events, plain_items}
use Rattle.read_dkvp_nidx.specs.Usable.{is_usable_as}
use Rattle.read_dkvp_nidx.proofs.Rowing.{markdown-same}

block_of-place : (block : markdown.Block) → block_of (place_of block) ≡ block
block_of-place markdown.outside = refl
block_of-place (markdown.under header) = refl
block_of-place (markdown.within header) = refl

-- the items of lines without their line endings, from this state on
abbrev all_by : LineRules → List (List ℕ) → List Item
all_by rules texts = items_from rules.opts rules.file rules.number (block_of rules.block) texts

-- the items of the lines after one that isn't a fault
abbrev others : LineRules → List ℕ → List (List ℕ) → List Item
others rules text texts = items_from rules.opts rules.file (rules.number + 1) (line_block rules.opts (block_of rules.block) text) texts

-- after a fault, a line changes nothing
stays : (rules : LineRules) (text : List ℕ) → rules.stopped ≡ true → rules_after rules text ≡ rules
stays rules text is =
    let next : LineRules = record rules { number = rules.number + 1; block = place_of (line_block rules.opts (block_of rules.block) text); at = ctx_after rules.at (items_by rules text); stopped = has_fault (items_by rules text) } in
    ap (λ s. if s then rules else next) is

gives-nothing : (rules : LineRules) (text : List ℕ) → rules.stopped ≡ true → line_events rules text ≡ []
gives-nothing rules text is = ap (λ s. if s then [] else events_of rules.at (items_by rules text)) is

events-by : (texts : List (List ℕ)) (rules : LineRules) (stopped : Bool) → rules.stopped ≡ stopped → given rules_after line_events rules texts ≡ events_after stopped rules.at (all_by rules texts)
events-by [] rules true is = refl
events-by [] rules false is = refl
events-by (text ∷ texts) rules true is =
    ap₂ (λ events r. events ++ given rules_after line_events r texts) (gives-nothing rules text is) (stays rules text is) ∙ events-by texts rules true is
events-by (text ∷ texts) rules false is =
    let items = items_by rules text in
    let block = line_block rules.opts (block_of rules.block) text in
    let next : LineRules = record rules { number = rules.number + 1; block = place_of block; at = ctx_after rules.at items; stopped = has_fault items } in
    rw is (
    ap (λ events. events_of rules.at items ++ events) (
    events-by texts next (has_fault items) refl
    ∙ ap (λ b. events_after (has_fault items) (ctx_after rules.at items) (items_from rules.opts rules.file (rules.number + 1) b texts)) (block_of-place block)
    )
    ∙ sym (events_of-append rules.at items (others rules text texts))
    )

ctx-by : (texts : List (List ℕ)) (rules : LineRules) (stopped : Bool) → rules.stopped ≡ stopped → (format_after rules_after rules texts).at ≡ ctx_after_events stopped rules.at (all_by rules texts)
ctx-by [] rules true is = refl
ctx-by [] rules false is = refl
ctx-by (text ∷ texts) rules true is = ap (λ r. (format_after rules_after r texts).at) (stays rules text is) ∙ ctx-by texts rules true is
ctx-by (text ∷ texts) rules false is =
    let items = items_by rules text in
    let block = line_block rules.opts (block_of rules.block) text in
    let next : LineRules = record rules { number = rules.number + 1; block = place_of block; at = ctx_after rules.at items; stopped = has_fault items } in
    rw is (
    ctx-by texts next (has_fault items) refl
    ∙ ap (λ b. ctx_after_events (has_fault items) (ctx_after rules.at items) (items_from rules.opts rules.file (rules.number + 1) b texts)) (block_of-place block)
    ∙ sym (ctx_after-append rules.at items (others rules text texts))
    )

-- lines with their CR
given-ended : (lines : List (List ℕ)) (rules : LineRules) → given after_line gives_line rules lines ≡ given rules_after line_events rules (map without_return lines)
given-ended [] rules = refl
given-ended (line ∷ lines) rules = ap (λ events. gives_line rules line ++ events) (given-ended lines (after_line rules line))

format_after-ended : (lines : List (List ℕ)) (rules : LineRules) → format_after after_line rules lines ≡ format_after rules_after rules (map without_return lines)
format_after-ended [] rules = refl
format_after-ended (line ∷ lines) rules = format_after-ended lines (after_line rules line)

gives-last : (line : List ℕ) (rules : LineRules) → gives_last rules line ≡ given rules_after line_events rules (last_line line)
gives-last [] rules = refl
gives-last (b ∷ line) rules = sym (append-nil (line_events rules (b ∷ line)))

after-last : (line : List ℕ) (rules : LineRules) → after_last rules line ≡ format_after rules_after rules (last_line line)
after-last [] rules = refl
after-last (b ∷ line) rules = refl

-- Each format's own definition gives the same items.
module _ (opts : ReadOpts) (file : FileRef) where
  dkvp-items : (lines : List (List ℕ)) (n : ℕ) (block : markdown.Block) → opts.format ≡ format.Dkvp → items_from opts file n block lines ≡ flat_map (dkvp_line opts) lines
  dkvp-items [] n block is = refl
  dkvp-items (line ∷ lines) n block is =
      ap₂ (λ f rest. (if is_comment opts.comments line then comment_items opts.comments line else plain_items f opts file n block line) ++ rest) is
      (dkvp-items lines (n + 1) (line_block opts block line) is)

  nidx-items : (lines : List (List ℕ)) (n : ℕ) (block : markdown.Block) → opts.format ≡ format.Nidx → items_from opts file n block lines ≡ flat_map (nidx_line opts) lines
  nidx-items [] n block is = refl
  nidx-items (line ∷ lines) n block is =
      ap₂ (λ f rest. (if is_comment opts.comments line then comment_items opts.comments line else plain_items f opts file n block line) ++ rest) is
      (nidx-items lines (n + 1) (line_block opts block line) is)

  items-as : (as_format : Format) → opts.format ≡ as_format → is_usable_as as_format opts ≡ true → (lines : List (List ℕ)) → items_from opts file 1 markdown.outside lines ≡ items_of_lines opts file as_format lines
  items-as format.Dkvp is usable lines = dkvp-items lines 1 markdown.outside is
  items-as format.Nidx is usable lines = nidx-items lines 1 markdown.outside is
  items-as format.Markdown is usable lines = markdown-same opts file is lines []
  items-as format.Csv is usable lines = absurd (true≢false (sym usable))
  items-as format.Tsv is usable lines = absurd (true≢false (sym usable))
  items-as format.Json is usable lines = absurd (true≢false (sym usable))
  items-as format.Jsonl is usable lines = absurd (true≢false (sym usable))
  items-as format.Xtab is usable lines = absurd (true≢false (sym usable))
  items-as format.Pprint is usable lines = absurd (true≢false (sym usable))

module _ (opts : ReadOpts) (file : FileRef) (start : Ctx) (rules : LineRules) (begins : Begins rules opts file start) where
  usable-is : is_usable_as opts.format opts ≡ true
  usable-is = ap (λ o. is_usable_as o.format o) (sym begins.opts_are) ∙ rules.usable

  all-is : (texts : List (List ℕ)) → all_by rules texts ≡ items_of_lines opts file opts.format texts
  all-is texts =
      ap (λ o. items_from o rules.file rules.number (block_of rules.block) texts) begins.opts_are
      ∙ ap (λ f. items_from opts f rules.number (block_of rules.block) texts) begins.file_is
      ∙ ap₂ (λ n b. items_from opts file n (block_of b) texts) begins.number_is begins.block_is
      ∙ items-as opts file opts.format refl usable-is texts

  texts-give : (texts : List (List ℕ)) → given rules_after line_events rules texts ≡ events_of start (items_of_lines opts file opts.format texts)
  texts-give texts = events-by texts rules false begins.goes_on ∙ ap₂ events_of begins.at_is (all-is texts)

  texts-represent : (texts : List (List ℕ)) → (format_after rules_after rules texts).at ≡ ctx_after start (items_of_lines opts file opts.format texts)
  texts-represent texts = ctx-by texts rules false begins.goes_on ∙ ap₂ ctx_after begins.at_is (all-is texts)

  pub fed-is : (bytes : List ℕ) → given after_line gives_line rules (ended_lines bytes) ≡ line_fed opts file start bytes
  fed-is bytes = given-ended (ended_lines bytes) rules ∙ texts-give (fixed_lines bytes)

  pub ctx_fed-is : (bytes : List ℕ) → (format_after after_line rules (ended_lines bytes)).at ≡ ctx_fed opts file start bytes
  ctx_fed-is bytes = ap (λ r. r.at) (format_after-ended (ended_lines bytes) rules) ∙ texts-represent (fixed_lines bytes)

  pub read-is : (bytes : List ℕ) → line_fed opts file start bytes ++ gives_last (format_after after_line rules (ended_lines bytes)) (begun_line bytes) ≡ line_read opts file start bytes
  read-is bytes =
      let fixed = fixed_lines bytes in
      let last = last_line (begun_line bytes) in
      ap₂ (λ events r. events ++ gives_last r (begun_line bytes)) (sym (texts-give fixed)) (format_after-ended (ended_lines bytes) rules)
      ∙ ap (λ events. given rules_after line_events rules fixed ++ events) (gives-last (begun_line bytes) (format_after rules_after rules fixed))
      ∙ sym (given-append rules_after line_events rules fixed last) ∙ texts-give (whole_lines bytes)

  pub ctx_read-is : (bytes : List ℕ) → (after_last (format_after after_line rules (ended_lines bytes)) (begun_line bytes)).at ≡ ctx_read opts file start bytes
  ctx_read-is bytes =
      let fixed = fixed_lines bytes in
      let last = last_line (begun_line bytes) in
      ap (λ r. (after_last r (begun_line bytes)).at) (format_after-ended (ended_lines bytes) rules)
      ∙ ap (λ r. r.at) (after-last (begun_line bytes) (format_after rules_after rules fixed) ∙ sym (fold-append rules_after rules fixed last))
      ∙ texts-represent (whole_lines bytes)
