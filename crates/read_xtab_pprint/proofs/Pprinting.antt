-- PPRINT: reading line by line gives the events of the definition.
use Rattle.std.proofs.Common.{◌≡◌, ℕ, ◌+◌, Bool, true, false, if◌then◌else◌, List, [], ◌∷◌, ◌++◌, refl, ap, ap₂, sym, ◌∙◌}
use Rattle.std.proofs.lemmas.List.{append-nil}
use Rattle.mlr_lines.specs.Lines.{last_line}
use Rattle.mlr_lines.specs.Represents.{format_after, given}
use Rattle.mlr_event.specs.declared.event.Ctx.{Ctx}
use Rattle.mlr_event.specs.declared.names.FileRef.{FileRef}
use Rattle.mlr_event.specs.declared.options.ReadOpts.{ReadOpts}
use Rattle.mlr_event.specs.Reading.{Item, ctx_after, events_of}
use Rattle.mlr_event.specs.Stream.{has_fault, events_after, ctx_after_events}
use Rattle.mlr_event.proofs.Streams.{events_of-append, ctx_after-append}
use Rattle.read_xtab_pprint.specs.declared.rules.PprintRules.{PprintRules}
use Rattle.read_xtab_pprint.specs.Last.{pprint_after_last, pprint_gives_last}
use Rattle.read_xtab_pprint.specs.Pprint.{pprint_items}
use Rattle.read_xtab_pprint.specs.PprintRules.{items_by, items_from, line_header, pprint_after, pprint_events}
use Rattle.read_xtab_pprint.specs.Rules.{PprintBegins}
use Rattle.read_xtab_pprint.proofs.Tables.{tables-same}

-- the items of lines from this state on, and those of the lines after one line
abbrev all_by : PprintRules → List (List ℕ) → List Item
all_by rules texts = items_from rules.opts rules.file rules.number rules.header texts

abbrev others : PprintRules → List ℕ → List (List ℕ) → List Item
others rules text texts = items_from rules.opts rules.file (rules.number + 1) (line_header rules.opts rules.header text) texts

-- after a fault, a line changes nothing
stays : (rules : PprintRules) (text : List ℕ) → rules.stopped ≡ true → pprint_after rules text ≡ rules
stays rules text is =
    let next : PprintRules = record rules { number = rules.number + 1; header = line_header rules.opts rules.header text; at = ctx_after rules.at (items_by rules text); stopped = has_fault (items_by rules text) } in
    ap (λ s. if s then rules else next) is

gives-nothing : (rules : PprintRules) (text : List ℕ) → rules.stopped ≡ true → pprint_events rules text ≡ []
gives-nothing rules text is = ap (λ s. if s then [] else events_of rules.at (items_by rules text)) is

events-by : (texts : List (List ℕ)) (rules : PprintRules) (stopped : Bool) → rules.stopped ≡ stopped → given pprint_after pprint_events rules texts ≡ events_after stopped rules.at (all_by rules texts)
events-by [] rules true is = refl
events-by [] rules false is = refl
events-by (text ∷ texts) rules true is =
    ap₂ (λ events r. events ++ given pprint_after pprint_events r texts) (gives-nothing rules text is) (stays rules text is) ∙ events-by texts rules true is
events-by (text ∷ texts) rules false is =
    let items = items_by rules text in
    let next : PprintRules = record rules { number = rules.number + 1; header = line_header rules.opts rules.header text; at = ctx_after rules.at items; stopped = has_fault items } in
    rw is (ap (λ events. events_of rules.at items ++ events) (events-by texts next (has_fault items) refl) ∙ sym (events_of-append rules.at items (others rules text texts)))

ctx-by : (texts : List (List ℕ)) (rules : PprintRules) (stopped : Bool) → rules.stopped ≡ stopped → (format_after pprint_after rules texts).at ≡ ctx_after_events stopped rules.at (all_by rules texts)
ctx-by [] rules true is = refl
ctx-by [] rules false is = refl
ctx-by (text ∷ texts) rules true is = ap (λ r. (format_after pprint_after r texts).at) (stays rules text is) ∙ ctx-by texts rules true is
ctx-by (text ∷ texts) rules false is =
    let items = items_by rules text in
    let next : PprintRules = record rules { number = rules.number + 1; header = line_header rules.opts rules.header text; at = ctx_after rules.at items; stopped = has_fault items } in
    rw is (ctx-by texts next (has_fault items) refl ∙ sym (ctx_after-append rules.at items (others rules text texts)))

pub pprint-gives-last : (line : List ℕ) (rules : PprintRules) → pprint_gives_last rules line ≡ given pprint_after pprint_events rules (last_line line)
pprint-gives-last [] rules = refl
pprint-gives-last (b ∷ line) rules = sym (append-nil (pprint_events rules (b ∷ line)))

pub pprint-after-last : (line : List ℕ) (rules : PprintRules) → pprint_after_last rules line ≡ format_after pprint_after rules (last_line line)
pprint-after-last [] rules = refl
pprint-after-last (b ∷ line) rules = refl

module _ (opts : ReadOpts) (file : FileRef) (start : Ctx) (rules : PprintRules) (begins : PprintBegins rules opts file start) where
  all-is : (texts : List (List ℕ)) → all_by rules texts ≡ pprint_items opts file texts
  all-is texts =
      ap (λ o. items_from o rules.file rules.number rules.header texts) begins.opts_are
      ∙ ap (λ f. items_from opts f rules.number rules.header texts) begins.file_is
      ∙ ap₂ (λ n h. items_from opts file n h texts) begins.number_is begins.header_is
      ∙ tables-same opts file texts

  pub pprint-give : (texts : List (List ℕ)) → given pprint_after pprint_events rules texts ≡ events_of start (pprint_items opts file texts)
  pprint-give texts = events-by texts rules false begins.goes_on ∙ ap₂ events_of begins.at_is (all-is texts)

  pub pprint-represent : (texts : List (List ℕ)) → (format_after pprint_after rules texts).at ≡ ctx_after start (pprint_items opts file texts)
  pprint-represent texts = ctx-by texts rules false begins.goes_on ∙ ap₂ ctx_after begins.at_is (all-is texts)
