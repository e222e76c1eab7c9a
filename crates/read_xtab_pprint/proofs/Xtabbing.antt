-- XTAB: reading line by line gives the events of the definition.
use Rattle.std.proofs.Common.{◌≡◌, ℕ, false, List, [], ◌∷◌, ◌++◌, map, Option, Some, None, refl, ap, ap₂, sym, ◌∙◌, inl, inr}
use Rattle.std.proofs.lemmas.Bool.{cases_Bool}
use Rattle.std.proofs.lemmas.List.{append-nil}
use Rattle.mlr_spec.specs.Infer.{tree_of_data}
use Rattle.mlr_spec.specs.Tree.{Tree}
use Rattle.mlr_lines.specs.Lines.{last_line}
use Rattle.mlr_lines.specs.Represents.{format_after, given}
use Rattle.mlr_event.specs.declared.event.Ctx.{Ctx}
use Rattle.mlr_event.specs.declared.options.ReadOpts.{ReadOpts}
use Rattle.mlr_event.specs.Reading.{Item, comment_items, ctx_after, events_of, is_comment, record_of}
use Rattle.mlr_event.specs.Rows.{with_field, with_fields}
use Rattle.mlr_event.specs.Stream.{has_fault, events_after, ctx_after_events}
use Rattle.mlr_event.proofs.Putting.{record_of-is, with_fields-more, with_fields-none}
use Rattle.mlr_event.proofs.Streams.{ctx_after-append, ctx_after-comment, events_of-append, has_fault-append, has_fault-comment}
use Rattle.read_xtab_pprint.specs.declared.rules.XtabRules.{XtabRules}
use Rattle.read_xtab_pprint.specs.Last.{xtab_after_last, xtab_gives_last}
use Rattle.read_xtab_pprint.specs.Rules.{XtabBegins}
use Rattle.read_xtab_pprint.specs.Xtab.{is_gap, key_in, record_items, value_in, without_spaces, xtab_fixed, xtab_items}
use Rattle.read_xtab_pprint.specs.XtabRules.{after_gap, begun_items, gap_events, with_text, xtab_after, xtab_events, xtab_from, xtab_rest}
use Rattle.read_xtab_pprint.proofs.Runs.{runs-fixed, runs-whole}

-- the record of the lines so far is built field by field
abbrev value_by : ReadOpts → List ℕ → Tree
value_by opts line = tree_of_data opts.infer (value_in line)

abbrev begun_by : ReadOpts → List (List ℕ) → Option (List (List ℕ × Tree))
begun_by opts [] = None
begun_by opts (line ∷ lines) = Some (record_of opts.dedupe (map key_in (line ∷ lines)) (map (value_by opts) (line ∷ lines)))

begun-items : (opts : ReadOpts) (lines : List (List ℕ)) → begun_items (begun_by opts lines) ≡ record_items opts lines
begun-items opts [] = refl
begun-items opts (line ∷ lines) = refl

fields-last : (opts : ReadOpts) (lines : List (List ℕ)) (last : List ℕ) (pairs : List (List ℕ × Tree))
    → with_fields opts.dedupe pairs (map key_in (lines ++ last ∷ [])) (map (value_by opts) (lines ++ last ∷ []))
    ≡ with_field opts.dedupe (key_in last) (value_by opts last) (with_fields opts.dedupe pairs (map key_in lines) (map (value_by opts) lines))
fields-last opts [] last pairs =
    sym (with_fields-more opts.dedupe pairs (key_in last) [] (value_by opts last) [])
    ∙ with_fields-none opts.dedupe (with_field opts.dedupe (key_in last) (value_by opts last) pairs)
    ∙ ap (with_field opts.dedupe (key_in last) (value_by opts last)) (sym (with_fields-none opts.dedupe pairs))
fields-last opts (line ∷ lines) last pairs =
    let next = with_field opts.dedupe (key_in line) (value_by opts line) pairs in
    sym (with_fields-more opts.dedupe pairs (key_in line) (map key_in (lines ++ last ∷ [])) (value_by opts line) (map (value_by opts) (lines ++ last ∷ [])))
    ∙ fields-last opts lines last next
    ∙ ap (with_field opts.dedupe (key_in last) (value_by opts last)) (with_fields-more opts.dedupe pairs (key_in line) (map key_in lines) (value_by opts line) (map (value_by opts) lines))

begun-more : (opts : ReadOpts) (lines : List (List ℕ)) (last : List ℕ) → with_text opts (without_spaces last) (begun_by opts lines) ≡ begun_by opts (lines ++ last ∷ [])
begun-more opts [] last =
    ap Some (
    ap (with_field opts.dedupe (key_in last) (value_by opts last)) (sym (with_fields-none opts.dedupe []))
    ∙ sym (fields-last opts [] last []) ∙ sym (record_of-is opts.dedupe (key_in last ∷ []) (value_by opts last ∷ []))
    )
begun-more opts (line ∷ lines) last =
    ap Some (
    ap (with_field opts.dedupe (key_in last) (value_by opts last)) (record_of-is opts.dedupe (map key_in (line ∷ lines)) (map (value_by opts) (line ∷ lines)))
    ∙ sym (fields-last opts (line ∷ lines) last [])
    ∙ sym (record_of-is opts.dedupe (map key_in (line ∷ lines ++ last ∷ [])) (map (value_by opts) (line ∷ lines ++ last ∷ [])))
    )

-- the state holds these comments and these lines of the current record
record Holds (rules : XtabRules) (passed : List Item) (lines : List (List ℕ)) : Type 0 where
  passed_are : rules.passed ≡ events_of rules.at passed
  begun_is : rules.begun ≡ begun_by rules.opts lines
  at_stays : ctx_after rules.at passed ≡ rules.at
  goes_on : has_fault passed ≡ false

-- the events of items that follow items without a fault
events-on : (at : Ctx) (items more : List Item) → has_fault items ≡ false → events_of at (items ++ more) ≡ events_of at items ++ events_of (ctx_after at items) more
events-on at items more none = events_of-append at items more ∙ ap (λ t. events_of at items ++ events_after t (ctx_after at items) more) none

ctx-on : (at : Ctx) (items more : List Item) → has_fault items ≡ false → ctx_after at (items ++ more) ≡ ctx_after (ctx_after at items) more
ctx-on at items more none = ctx_after-append at items more ∙ ap (λ t. ctx_after_events t (ctx_after at items) more) none

no-fault : (items more : List Item) → has_fault items ≡ false → has_fault more ≡ false → has_fault (items ++ more) ≡ false
no-fault items more none none_more = has_fault-append items more ∙ rw none none_more

record-sound : (opts : ReadOpts) (lines : List (List ℕ)) → has_fault (record_items opts lines) ≡ false
record-sound opts [] = refl
record-sound opts (line ∷ lines) = refl

gap-gives : (rules : XtabRules) (passed : List Item) (lines : List (List ℕ)) → Holds rules passed lines
    → (gap_events rules ≡ events_of rules.at (passed ++ record_items rules.opts lines)) × ((after_gap rules).at ≡ ctx_after rules.at (passed ++ record_items rules.opts lines))
gap-gives rules passed lines holds =
    let record_is : begun_items rules.begun ≡ record_items rules.opts lines = ap begun_items holds.begun_is ∙ begun-items rules.opts lines in (
      ap₂ (λ events items. events ++ events_of rules.at items) holds.passed_are record_is
          ∙ ap (λ at. events_of rules.at passed ++ events_of at (record_items rules.opts lines)) (sym holds.at_stays)
          ∙ sym (events-on rules.at passed (record_items rules.opts lines) holds.goes_on),
      ap (ctx_after rules.at) record_is ∙ ap (λ at. ctx_after at (record_items rules.opts lines)) (sym holds.at_stays)
          ∙ sym (ctx-on rules.at passed (record_items rules.opts lines) holds.goes_on),
    )

-- the events of lines, and the state after them
record Comes (rules : XtabRules) (passed : List Item) (lines texts : List (List ℕ)) : Type 0 where
  events : given xtab_after xtab_events rules texts ≡ events_of rules.at (xtab_from rules.opts passed lines texts)
  at_is : (format_after xtab_after rules texts).at ≡ ctx_after rules.at (xtab_from rules.opts passed lines texts)
  goes_on : has_fault (xtab_from rules.opts passed lines texts) ≡ false
  rest_gives : gap_events (format_after xtab_after rules texts) ≡ events_of (ctx_after rules.at (xtab_from rules.opts passed lines texts)) (xtab_rest rules.opts passed lines texts)
  rest_at : (after_gap (format_after xtab_after rules texts)).at ≡ ctx_after (ctx_after rules.at (xtab_from rules.opts passed lines texts)) (xtab_rest rules.opts passed lines texts)

-- a line that gives no event yet
comes-quiet : (rules next : XtabRules) (passed passed_next : List Item) (lines lines_next texts : List (List ℕ)) (text : List ℕ)
    → xtab_after rules text ≡ next → xtab_events rules text ≡ [] → next.at ≡ rules.at
    → xtab_from rules.opts passed lines (text ∷ texts) ≡ xtab_from next.opts passed_next lines_next texts
    → xtab_rest rules.opts passed lines (text ∷ texts) ≡ xtab_rest next.opts passed_next lines_next texts
    → Comes next passed_next lines_next texts → Comes rules passed lines (text ∷ texts)
comes-quiet rules next passed passed_next lines lines_next texts text after gives at_same from rest later =
    let at_from = ap₂ ctx_after at_same (sym from) in
    record {
      events = ap₂ (λ events r. events ++ given xtab_after xtab_events r texts) gives after ∙ later.events ∙ ap₂ events_of at_same (sym from);
      at_is = ap (λ r. (format_after xtab_after r texts).at) after ∙ later.at_is ∙ at_from;
      goes_on = ap has_fault from ∙ later.goes_on;
      rest_gives = ap (λ r. gap_events (format_after xtab_after r texts)) after ∙ later.rest_gives ∙ ap₂ events_of at_from (sym rest);
      rest_at = ap (λ r. (after_gap (format_after xtab_after r texts)).at) after ∙ later.rest_at ∙ ap₂ ctx_after at_from (sym rest);
    }

-- an empty line
comes-gap : (rules : XtabRules) (passed : List Item) (lines texts : List (List ℕ)) (text : List ℕ) → Holds rules passed lines
    → xtab_after rules text ≡ after_gap rules → xtab_events rules text ≡ gap_events rules
    → xtab_from rules.opts passed lines (text ∷ texts) ≡ (passed ++ record_items rules.opts lines) ++ xtab_from rules.opts [] [] texts
    → xtab_rest rules.opts passed lines (text ∷ texts) ≡ xtab_rest rules.opts [] [] texts
    → Comes (after_gap rules) [] [] texts → Comes rules passed lines (text ∷ texts)
comes-gap rules passed lines texts text holds after gives from rest later =
    let given_here = record_items rules.opts lines in
    let here = passed ++ given_here in
    let more = xtab_from rules.opts [] [] texts in
    let gap = gap-gives rules passed lines holds in
    let sound : has_fault here ≡ false = no-fault passed given_here holds.goes_on (record-sound rules.opts lines) in
    let all : here ++ more ≡ xtab_from rules.opts passed lines (text ∷ texts) = sym from in
    let at_all : ctx_after (after_gap rules).at more ≡ ctx_after rules.at (xtab_from rules.opts passed lines (text ∷ texts)) =
    ap (λ at. ctx_after at more) gap.1 ∙ sym (ctx-on rules.at here more sound) ∙ ap (ctx_after rules.at) all in
    record {
      events = ap₂ (λ events r. events ++ given xtab_after xtab_events r texts) gives after
          ∙ ap₂ (λ events others. events ++ others) gap.0 (later.events ∙ ap (λ at. events_of at more) gap.1)
          ∙ sym (events-on rules.at here more sound) ∙ ap (events_of rules.at) all;
      at_is = ap (λ r. (format_after xtab_after r texts).at) after ∙ later.at_is ∙ at_all;
      goes_on = ap has_fault (sym all) ∙ no-fault here more sound later.goes_on;
      rest_gives = ap (λ r. gap_events (format_after xtab_after r texts)) after ∙ later.rest_gives ∙ ap₂ events_of at_all (sym rest);
      rest_at = ap (λ r. (after_gap (format_after xtab_after r texts)).at) after ∙ later.rest_at ∙ ap₂ ctx_after at_all (sym rest);
    }

holds-comment : (rules : XtabRules) (passed : List Item) (lines : List (List ℕ)) (text : List ℕ) → Holds rules passed lines
    → Holds (record rules { passed = rules.passed ++ events_of rules.at (comment_items rules.opts.comments text) }) (passed ++ comment_items rules.opts.comments text) lines
holds-comment rules passed lines text holds =
    let items = comment_items rules.opts.comments text in
    record {
      passed_are = ap₂ (λ events at. events ++ events_of at items) holds.passed_are (sym holds.at_stays) ∙ sym (events-on rules.at passed items holds.goes_on);
      begun_is = holds.begun_is;
      at_stays = ctx-on rules.at passed items holds.goes_on ∙ ap (λ at. ctx_after at items) holds.at_stays ∙ ctx_after-comment rules.opts.comments text rules.at;
      goes_on = no-fault passed items holds.goes_on (has_fault-comment rules.opts.comments text);
    }

holds-line : (rules : XtabRules) (passed : List Item) (lines : List (List ℕ)) (text : List ℕ) → Holds rules passed lines
    → Holds (record rules { begun = with_text rules.opts (without_spaces text) rules.begun }) passed (lines ++ text ∷ [])
holds-line rules passed lines text holds = record {
  passed_are = holds.passed_are;
  begun_is = ap (with_text rules.opts (without_spaces text)) holds.begun_is ∙ begun-more rules.opts lines text;
  at_stays = holds.at_stays;
  goes_on = holds.goes_on;
}

comes : (texts : List (List ℕ)) (rules : XtabRules) (passed : List Item) (lines : List (List ℕ)) → Holds rules passed lines → Comes rules passed lines texts
comes [] rules passed lines holds =
    let gap = gap-gives rules passed lines holds in
    record { events = refl; at_is = refl; goes_on = refl; rest_gives = gap.0; rest_at = gap.1 }
comes (text ∷ texts) rules passed lines holds =
    let opts = rules.opts in
    let items = comment_items opts.comments text in
    elim (cases_Bool (is_comment opts.comments text)) as (λ _. Comes rules passed lines (text ∷ texts)) [
      | inl is ↦
          let next : XtabRules = record rules { passed = rules.passed ++ events_of rules.at items } in
          comes-quiet rules next passed (passed ++ items) lines lines texts text (rw is refl) (rw is refl) refl (rw is refl) (rw is refl)
          (comes texts next (passed ++ items) lines (holds-comment rules passed lines text holds))
      | inr isnt ↦ elim (cases_Bool (is_gap text)) as (λ _. Comes rules passed lines (text ∷ texts)) [
        | inl gap ↦
            comes-gap rules passed lines texts text holds (rw isnt (rw gap refl)) (rw isnt (rw gap refl)) (rw isnt (rw gap refl)) (rw isnt (rw gap refl))
            (comes texts (after_gap rules) [] [] (record { passed_are = refl; begun_is = refl; at_stays = refl; goes_on = refl }))
        | inr line ↦
            let next : XtabRules = record rules { begun = with_text opts (without_spaces text) rules.begun } in
            comes-quiet rules next passed passed lines (lines ++ text ∷ []) texts text (rw isnt (rw line refl)) (rw isnt (rw line refl)) refl (rw isnt (rw line refl)) (rw isnt (rw line refl))
            (comes texts next passed (lines ++ text ∷ []) (holds-line rules passed lines text holds))
      ]
    ]

pub xtab-gives-last : (line : List ℕ) (rules : XtabRules) → xtab_gives_last rules line ≡ given xtab_after xtab_events rules (last_line line) ++ gap_events (format_after xtab_after rules (last_line line))
xtab-gives-last [] rules = refl
xtab-gives-last (b ∷ line) rules = ap (λ events. events ++ gap_events (xtab_after rules (b ∷ line))) (sym (append-nil (xtab_events rules (b ∷ line))))

pub xtab-after-last : (line : List ℕ) (rules : XtabRules) → xtab_after_last rules line ≡ after_gap (format_after xtab_after rules (last_line line))
xtab-after-last [] rules = refl
xtab-after-last (b ∷ line) rules = refl

module _ (opts : ReadOpts) (start : Ctx) (rules : XtabRules) (begins : XtabBegins rules opts start) where
  come : (texts : List (List ℕ)) → Comes rules [] [] texts
  come texts = comes texts rules [] [] (record { passed_are = begins.passed_is; begun_is = begins.begun_is; at_stays = refl; goes_on = refl })

  pub xtab-give : (texts : List (List ℕ)) → given xtab_after xtab_events rules texts ≡ events_of start (xtab_fixed opts texts)
  xtab-give texts =
      let come_to = come texts in
      come_to.events ∙ ap₂ (λ at o. events_of at (xtab_from o [] [] texts)) begins.at_is begins.opts_are ∙ ap (events_of start) (runs-fixed opts texts)

  pub xtab-represent : (texts : List (List ℕ)) → (format_after xtab_after rules texts).at ≡ ctx_after start (xtab_fixed opts texts)
  xtab-represent texts =
      let come_to = come texts in
      come_to.at_is ∙ ap₂ (λ at o. ctx_after at (xtab_from o [] [] texts)) begins.at_is begins.opts_are ∙ ap (ctx_after start) (runs-fixed opts texts)

  sound : (texts : List (List ℕ)) → has_fault (xtab_from opts [] [] texts) ≡ false
  sound texts = let come_to = come texts in ap (λ o. has_fault (xtab_from o [] [] texts)) (sym begins.opts_are) ∙ come_to.goes_on

  -- the end of the file gives the items after the last empty line
  pub xtab-last : (texts : List (List ℕ)) → events_of start (xtab_fixed opts texts) ++ gap_events (format_after xtab_after rules texts) ≡ events_of start (xtab_items opts texts)
  xtab-last texts =
      let come_to = come texts in
      let from = xtab_from opts [] [] texts in
      ap (λ items. events_of start items ++ gap_events (format_after xtab_after rules texts)) (sym (runs-fixed opts texts))
      ∙ ap (λ events. events_of start from ++ events) (
      come_to.rest_gives ∙ ap₂ (λ at o. events_of (ctx_after at (xtab_from o [] [] texts)) (xtab_rest o [] [] texts)) begins.at_is begins.opts_are
      )
      ∙ sym (events-on start from (xtab_rest opts [] [] texts) (sound texts)) ∙ ap (events_of start) (runs-whole opts texts)

  pub xtab-last-at : (texts : List (List ℕ)) → (after_gap (format_after xtab_after rules texts)).at ≡ ctx_after start (xtab_items opts texts)
  xtab-last-at texts =
      let come_to = come texts in
      come_to.rest_at ∙ ap₂ (λ at o. ctx_after (ctx_after at (xtab_from o [] [] texts)) (xtab_rest o [] [] texts)) begins.at_is begins.opts_are
      ∙ sym (ctx-on start (xtab_from opts [] [] texts) (xtab_rest opts [] [] texts) (sound texts)) ∙ ap (ctx_after start) (runs-whole opts texts)
