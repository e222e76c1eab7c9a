-- The events of a file, line by line, are those of its rows.
use Rattle.std.proofs.Common.{◌≡◌, ℕ, ◌+◌, ◌<◌, Bool, true, false, cond, not, ◌&&◌, ◌||◌, eqb, List, [], ◌∷◌, ◌++◌, map, length, Option, Some, None, refl, ap, ap₂, sym, ◌∙◌, inl, inr}
use Rattle.std.specs.Option.{option_map, is_some}
use Rattle.std.proofs.lemmas.Bool.{cases_Bool, true≢false}
use Rattle.std.proofs.lemmas.List.{append-nil}
use Rattle.mlr_event.specs.declared.event.Ctx.{Ctx}
use Rattle.mlr_event.specs.declared.fault.Fault.TheVariants.{Quote}
use Rattle.mlr_event.specs.declared.options.ReadOpts.{ReadOpts}
use Rattle.mlr_event.specs.Reading.{Item, fault, comment_items, ctx_after, events_of, is_comment}
use Rattle.mlr_event.specs.Stream.{has_fault}
use Rattle.mlr_event.proofs.Streams.{has_fault-comment, ctx_after-comment}
use Rattle.mlr_lines.specs.Lines.{without_return}
use Rattle.read_csv.specs.declared.rules.RowRules.{RowRules}
use Rattle.read_csv.specs.Csv.{csv_fields}
use Rattle.read_csv.specs.Fields.{Field, value_of}
use Rattle.read_csv.specs.Rows.{Begun, begins_at, goes_on, is_skipped, row_fields, skipped_items}
use Rattle.read_csv.specs.RowLines.{closed_items, end_items, header_after, rows_from}
use Rattle.read_csv.specs.Rules.{after_line, begins_now, after_row, after_text, gives_line, is_passed, last_items, line_end, open_items, row_gives, text_items, with_end}
use Rattle.read_csv.specs.OpenRow.{RowState, no_row, row_taken}
use Rattle.read_csv.proofs.Headings.{closed-are, header-following}
use Rattle.read_csv.proofs.Opening.{joined}
use Rattle.read_csv.proofs.Whole.{Closed, Fits, LeftOpen, ended-open, return-on, took, usable-some}

-- a comment is no fault
no_fault-skipped : (opts : ReadOpts) (line : List ℕ) → has_fault (skipped_items opts line) ≡ false
no_fault-skipped opts line =
    elim (cases_Bool (is_comment opts.comments line)) as (λ _. has_fault (skipped_items opts line) ≡ false) [
      | inl here ↦ ap (λ t. has_fault (cond t (comment_items opts.comments line) [])) here ∙ has_fault-comment opts.comments line
      | inr other ↦ ap (λ t. has_fault (cond t (comment_items opts.comments line) [])) other
    ]

ctx-skipped : (opts : ReadOpts) (line : List ℕ) (at : Ctx) → ctx_after at (skipped_items opts line) ≡ at
ctx-skipped opts line at =
    elim (cases_Bool (is_comment opts.comments line)) as (λ _. ctx_after at (skipped_items opts line) ≡ at) [
      | inl here ↦ ap (λ t. ctx_after at (cond t (comment_items opts.comments line) [])) here ∙ ctx_after-comment opts.comments line at
      | inr other ↦ ap (λ t. ctx_after at (cond t (comment_items opts.comments line) [])) other
    ]

-- a row with an open quote has no fields yet
none-open : (opts : ReadOpts) (text : List ℕ) (row : RowState) → LeftOpen opts text row → row_fields opts text ≡ None
none-open opts text row open_row =
    open_row.quoting text ∙ ap (csv_fields opts.ifs) (sym (append-nil text)) ∙ open_row.opens.goes_on []
    ∙ ap (option_map (joined open_row.done open_row.content)) (let e : csv_fields opts.ifs (34 ∷ []) ≡ None = refl in e)

-- the items of a line, and the state after it
pub record Step (rules : RowRules) (begun : Begun) (line : List ℕ) : Type 0 where
  pub items : List Item
  pub gives : gives_line rules line ≡ events_of rules.at items
  pub next : RowRules
  pub next_is : after_line rules line ≡ next
  pub at_is : next.at ≡ ctx_after rules.at items
  pub stopped_is : next.stopped ≡ has_fault items
  pub next_begun : Begun
  pub fits : Fits next.opts next_begun next.begins next.row
  pub rows : (last : Option (List ℕ)) (lines : List (List ℕ)) → rows_from rules.opts rules.file last rules.number begun rules.header (line ∷ lines)
      ≡ items ++ rows_from next.opts next.file last next.number next_begun next.header lines

pub record LastStep (rules : RowRules) (begun : Begun) (line : List ℕ) : Type 0 where
  pub items_are : last_items rules line ≡ end_items rules.opts rules.file rules.number begun rules.header line
  pub at_is : (after_text rules line).at ≡ ctx_after rules.at (last_items rules line)

-- `cond`, with the test as first argument
abbrev branch : {A : Type 0} → Bool → A → A → A
branch t a b = cond t a b

module _ (rules : RowRules) (begun : Begun) (fits : Fits rules.opts begun rules.begins rules.row) where
  some : 0 < length rules.opts.ifs
  some = usable-some rules.opts.format rules.opts rules.usable

  passed-as : (b : Begun) → Fits rules.opts b rules.begins rules.row → (text : List ℕ) → is_passed rules text ≡ is_skipped rules.opts b text
  passed-as None fits text = ap (λ (r : RowState). not (is_some r.quotes) && (is_comment rules.opts.comments text || eqb (length text) 0)) fits
  passed-as (Some b) fits text = ap (λ (r : RowState). not (is_some r.quotes) && (is_comment rules.opts.comments text || eqb (length text) 0)) fits.1.row_is

  begins-as : (b : Begun) → Fits rules.opts b rules.begins rules.row → begins_now rules ≡ begins_at b rules.number
  begins-as None fits = ap (λ (r : RowState). cond (is_some r.quotes) rules.begins rules.number) fits
  begins-as (Some b) fits = ap (λ (r : RowState). cond (is_some r.quotes) rules.begins rules.number) fits.1.row_is ∙ fits.0

  passed-none : (b : Begun) (text : List ℕ) → is_skipped rules.opts b text ≡ true → Fits rules.opts b rules.begins rules.row → rules.row ≡ no_row
  passed-none None text is fits = fits
  passed-none (Some b) text is fits = absurd (true≢false (sym is))

  abbrev finished : List ℕ → RowRules → RowRules
  finished line next = record next { number = next.number + 1; row = with_end next.row (line_end line) }

  -- the state after a line that isn't a fault
  abbrev row_now : List ℕ → RowState
  row_now text = row_taken rules.opts rules.row text

  skipped-step : (line : List ℕ) → rules.stopped ≡ false → is_passed rules (without_return line) ≡ true → Step rules begun line
  skipped-step line goes passed =
      let text = without_return line in
      let skipped : is_skipped rules.opts begun text ≡ true = sym (passed-as begun fits text) ∙ passed in
      let row_is = passed-none begun text skipped fits in
      record {
        items = skipped_items rules.opts text;
        gives = ap (λ s. branch s [] (events_of rules.at (text_items rules text))) goes
            ∙ ap (λ p. events_of rules.at (branch p (skipped_items rules.opts text) (row_gives rules (row_now text)))) passed;
        next = finished line rules;
        next_is = ap (λ s. branch s rules (finished line (after_text rules text))) goes ∙ ap (λ p. finished line (branch p rules (after_row rules (row_now text)))) passed;
        at_is = sym (ctx-skipped rules.opts text rules.at);
        stopped_is = goes ∙ sym (no_fault-skipped rules.opts text);
        next_begun = None;
        fits = ap (λ r. with_end r (line_end line)) row_is;
        rows = λ last lines. ap (λ p. branch p (skipped_items rules.opts text ++ rows_from rules.opts rules.file last (rules.number + 1) None rules.header lines)
            (elim (row_fields rules.opts (without_return (goes_on begun line))) [
              | None ↦ rows_from rules.opts rules.file last (rules.number + 1) (Some (begins_at begun rules.number, goes_on begun line)) rules.header lines
              | Some found ↦ closed_items rules.opts rules.file (begins_at begun rules.number) rules.header found
                  ++ rows_from rules.opts rules.file last (rules.number + 1) None (header_after rules.opts rules.header found) lines
            ])) skipped;
      }

  -- a line that isn't skipped, by the state of its row
  module _ (line : List ℕ) (goes : rules.stopped ≡ false) (taken : is_passed rules (without_return line) ≡ false) where
    abbrev text : List ℕ
    text = without_return line

    gives-row : (row : RowState) → row_now text ≡ row → gives_line rules line ≡ events_of rules.at (row_gives rules row)
    gives-row row is =
        ap (λ s. branch s [] (events_of rules.at (text_items rules text))) goes
        ∙ ap (λ p. events_of rules.at (branch p (skipped_items rules.opts text) (row_gives rules (row_now text)))) taken
        ∙ ap (λ r. events_of rules.at (row_gives rules r)) is

    next-row : (row : RowState) → row_now text ≡ row → after_line rules line ≡ finished line (after_row rules row)
    next-row row is =
        ap (λ s. branch s rules (finished line (after_text rules text))) goes
        ∙ ap (λ p. finished line (branch p rules (after_row rules (row_now text)))) taken
        ∙ ap (λ r. finished line (after_row rules r)) is

    rows-row : (found : Option (List Field)) → row_fields rules.opts (goes_on begun text) ≡ found → (last : Option (List ℕ)) (lines : List (List ℕ))
        → rows_from rules.opts rules.file last rules.number begun rules.header (line ∷ lines) ≡ (elim found [
          | None ↦ rows_from rules.opts rules.file last (rules.number + 1) (Some (begins_at begun rules.number, goes_on begun line)) rules.header lines
          | Some found ↦ closed_items rules.opts rules.file (begins_at begun rules.number) rules.header found
              ++ rows_from rules.opts rules.file last (rules.number + 1) None (header_after rules.opts rules.header found) lines
        ])
    rows-row found is last lines =
        let by : Option (List Field) → List Item = λ f. elim f [
          | None ↦ rows_from rules.opts rules.file last (rules.number + 1) (Some (begins_at begun rules.number, goes_on begun line)) rules.header lines
          | Some found ↦ closed_items rules.opts rules.file (begins_at begun rules.number) rules.header found
              ++ rows_from rules.opts rules.file last (rules.number + 1) None (header_after rules.opts rules.header found) lines
        ] in
        ap (λ p. branch p (skipped_items rules.opts text ++ rows_from rules.opts rules.file last (rules.number + 1) None rules.header lines) (by (row_fields rules.opts (without_return (goes_on begun line)))))
        (sym (passed-as begun fits text) ∙ taken)
        ∙ ap by (ap (row_fields rules.opts) (return-on rules.opts some begun line) ∙ is)

    open-step : LeftOpen rules.opts (goes_on begun text) (row_now text) → Step rules begun line
    open-step open_row =
        let row : RowState = record { values = map (value_of rules.opts.infer) open_row.done; quotes = Some open_row.content } in
        record {
          items = [];
          gives = gives-row row open_row.row_is;
          next = finished line (after_row rules row);
          next_is = next-row row open_row.row_is;
          at_is = refl;
          stopped_is = refl;
          next_begun = Some (begins_at begun rules.number, goes_on begun line);
          fits = (begins-as begun fits, ended-open rules.opts some begun line row (record { done = open_row.done; content = open_row.content; quoting = open_row.quoting; row_is = refl; opens = open_row.opens }));
          rows = rows-row None (none-open rules.opts (goes_on begun text) (row_now text) open_row);
        }

    closed-step : Closed rules.opts (goes_on begun text) (row_now text) → Step rules begun line
    closed-step closed =
        let row : RowState = record { values = map (value_of rules.opts.infer) closed.found; quotes = None } in
        record {
          items = row_gives rules row;
          gives = gives-row row closed.row_is;
          next = finished line (after_row rules row);
          next_is = next-row row closed.row_is;
          at_is = refl;
          stopped_is = refl;
          next_begun = None;
          fits = refl;
          rows = λ last lines. rows-row (Some closed.found) closed.fields_are last lines
              ∙ ap₂ (λ items header. items ++ rows_from rules.opts rules.file last (rules.number + 1) None header lines)
              (ap (λ n. closed_items rules.opts rules.file n rules.header closed.found) (sym (begins-as begun fits)) ∙ sym (closed-are rules.opts closed.found rules.file (begins_now rules) rules.header))
              (sym (header-following rules.opts closed.found rules.header));
        }

    taken-step : Step rules begun line
    taken-step = elim (took rules.opts some rules.usable begun rules.begins rules.row fits text) [ inl open_row ↦ open-step open_row | inr closed ↦ closed-step closed ]

  pub step : (line : List ℕ) → rules.stopped ≡ false → Step rules begun line
  step line goes = elim (cases_Bool (is_passed rules (without_return line))) [ inl passed ↦ skipped-step line goes passed | inr taken ↦ taken-step line goes taken ]

  -- the last line
  module _ (line : List ℕ) where
    abbrev end_by : Option (List Field) → List Item
    end_by found = elim found [
      | None ↦ fault (Quote rules.file (begins_at begun rules.number)) ∷ []
      | Some f ↦ closed_items rules.opts rules.file (begins_at begun rules.number) rules.header f
    ]

    last-row : (row : RowState) → row_now line ≡ row → is_passed rules line ≡ false → last_items rules line ≡ row_gives rules row ++ open_items (after_row rules row)
    last-row row is taken =
        ap (λ p. branch p (skipped_items rules.opts line) (row_gives rules (row_now line)) ++ open_items (branch p rules (after_row rules (row_now line)))) taken
        ∙ ap (λ r. row_gives rules r ++ open_items (after_row rules r)) is

    end-row : (found : Option (List Field)) → row_fields rules.opts (goes_on begun line) ≡ found → is_passed rules line ≡ false
        → end_items rules.opts rules.file rules.number begun rules.header line ≡ end_by found
    end-row found is taken =
        ap (λ p. branch p (skipped_items rules.opts line) (end_by (row_fields rules.opts (goes_on begun line)))) (sym (passed-as begun fits line) ∙ taken) ∙ ap end_by is

    at-row : (row : RowState) → row_now line ≡ row → is_passed rules line ≡ false → (after_text rules line).at ≡ ctx_after rules.at (row_gives rules row)
    at-row row is taken =
        ap (λ p. (branch p rules (after_row rules (row_now line))).at) taken ∙ ap (λ r. ctx_after rules.at (row_gives rules r)) is

    skipped-last : is_passed rules line ≡ true → LastStep rules begun line
    skipped-last passed =
        let skipped : is_skipped rules.opts begun line ≡ true = sym (passed-as begun fits line) ∙ passed in
        let none : open_items rules ≡ [] = ap (λ (r : RowState). branch (is_some r.quotes) (fault (Quote rules.file rules.begins) ∷ []) []) (passed-none begun line skipped fits) in
        let items : last_items rules line ≡ skipped_items rules.opts line =
        ap (λ p. branch p (skipped_items rules.opts line) (row_gives rules (row_now line)) ++ open_items (branch p rules (after_row rules (row_now line)))) passed
        ∙ ap (λ more. skipped_items rules.opts line ++ more) none ∙ append-nil (skipped_items rules.opts line) in
        record {
          items_are = items ∙ sym (ap (λ p. branch p (skipped_items rules.opts line) (end_by (row_fields rules.opts (goes_on begun line)))) skipped);
          at_is = ap (λ p. (branch p rules (after_row rules (row_now line))).at) passed ∙ sym (ctx-skipped rules.opts line rules.at) ∙ ap (ctx_after rules.at) (sym items);
        }

    open-last : is_passed rules line ≡ false → LeftOpen rules.opts (goes_on begun line) (row_now line) → LastStep rules begun line
    open-last taken open_row =
        let row : RowState = record { values = map (value_of rules.opts.infer) open_row.done; quotes = Some open_row.content } in
        let items = last-row row open_row.row_is taken in
        record {
          items_are = items ∙ ap (λ n. fault (Quote rules.file n) ∷ []) (begins-as begun fits)
              ∙ sym (end-row None (none-open rules.opts (goes_on begun line) (row_now line) open_row) taken);
          at_is = at-row row open_row.row_is taken ∙ ap (ctx_after rules.at) (sym items);
        }

    closed-last : is_passed rules line ≡ false → Closed rules.opts (goes_on begun line) (row_now line) → LastStep rules begun line
    closed-last taken closed =
        let row : RowState = record { values = map (value_of rules.opts.infer) closed.found; quotes = None } in
        let items : last_items rules line ≡ row_gives rules row = last-row row closed.row_is taken ∙ append-nil (row_gives rules row) in
        record {
          items_are = items ∙ closed-are rules.opts closed.found rules.file (begins_now rules) rules.header
              ∙ ap (λ n. closed_items rules.opts rules.file n rules.header closed.found) (begins-as begun fits)
              ∙ sym (end-row (Some closed.found) closed.fields_are taken);
          at_is = at-row row closed.row_is taken ∙ ap (ctx_after rules.at) (sym items);
        }

    pub last-step : LastStep rules begun line
    last-step = elim (cases_Bool (is_passed rules line)) [
      | inl passed ↦ skipped-last passed
      | inr taken ↦ elim (took rules.opts some rules.usable begun rules.begins rules.row fits line) [ inl open_row ↦ open-last taken open_row | inr closed ↦ closed-last taken closed ]
    ]
