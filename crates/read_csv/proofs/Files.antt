-- The events that a reader has given are those that the bytes so far fix.
use Rattle.std.proofs.Common.{◌≡◌, ℕ, Bool, true, false, cond, List, [], ◌∷◌, ◌++◌, Option, Some, None, refl, ap, ap₂, sym, ◌∙◌, append_assoc}
use Rattle.mlr_event.specs.declared.event.Ctx.{Ctx}
use Rattle.mlr_event.specs.declared.event.Event.{Event}
use Rattle.mlr_event.specs.declared.names.FileRef.{FileRef}
use Rattle.mlr_event.specs.declared.options.ReadOpts.{ReadOpts}
use Rattle.mlr_event.specs.Reading.{ctx_after, events_of}
use Rattle.mlr_event.specs.Stream.{has_fault, events_after, ctx_after_events}
use Rattle.mlr_event.proofs.Streams.{events_of-append, ctx_after-append}
use Rattle.mlr_lines.specs.Lines.{ended_lines, begun_line}
use Rattle.mlr_lines.specs.Represents.{format_after, given}
use Rattle.std.proofs.lemmas.List.{append-nil}
use Rattle.read_csv.specs.declared.rules.RowRules.{RowRules}
use Rattle.read_csv.specs.Rows.{Begun, csv_fed, csv_items, csv_read}
use Rattle.read_csv.specs.RowLines.{rows_from}
use Rattle.read_csv.specs.Rules.{after_last, after_line, after_text, gives_last, gives_line, last_items}
use Rattle.read_csv.specs.Begins.{Begins, ctx_fed, ctx_read}
use Rattle.read_csv.proofs.Parts.{parts-same}
use Rattle.read_csv.proofs.Walk.{last-step, step}
use Rattle.read_csv.proofs.Whole.{Fits}

-- the events of the last line, if the file has ended
abbrev end_events : RowRules → Option (List ℕ) → List Event
end_events rules None = []
end_events rules (Some line) = gives_last rules line

abbrev end_rules : RowRules → Option (List ℕ) → RowRules
end_rules rules None = rules
end_rules rules (Some line) = after_last rules line

-- after a fault, a line changes nothing
stays-line : (rules : RowRules) (line : List ℕ) → rules.stopped ≡ true → after_line rules line ≡ rules
stays-line rules line is = rw is refl

nothing-line : (rules : RowRules) (line : List ℕ) → rules.stopped ≡ true → gives_line rules line ≡ []
nothing-line rules line is = rw is refl

stays : (lines : List (List ℕ)) (rules : RowRules) → rules.stopped ≡ true → format_after after_line rules lines ≡ rules
stays [] rules is = refl
stays (line ∷ lines) rules is = ap (λ r. format_after after_line r lines) (stays-line rules line is) ∙ stays lines rules is

nothing : (lines : List (List ℕ)) (rules : RowRules) → rules.stopped ≡ true → given after_line gives_line rules lines ≡ []
nothing [] rules is = refl
nothing (line ∷ lines) rules is = ap₂ (λ events r. events ++ given after_line gives_line r lines) (nothing-line rules line is) (stays-line rules line is) ∙ nothing lines rules is

nothing-last : (rules : RowRules) (last : Option (List ℕ)) → rules.stopped ≡ true → end_events rules last ≡ []
nothing-last rules None is = refl
nothing-last rules (Some line) is = rw is refl

stays-last : (rules : RowRules) (last : Option (List ℕ)) → rules.stopped ≡ true → (end_rules rules last).at ≡ rules.at
stays-last rules None is = refl
stays-last rules (Some line) is = rw is refl

end-gives : (rules : RowRules) (begun : Begun) → Fits rules.opts begun rules.begins rules.row → rules.stopped ≡ false → (last : Option (List ℕ))
    → end_events rules last ≡ events_of rules.at (rows_from rules.opts rules.file last rules.number begun rules.header [])
end-gives rules begun fits goes None = refl
end-gives rules begun fits goes (Some line) =
    ap (λ s. cond s [] (events_of rules.at (last_items rules line))) goes ∙ ap (events_of rules.at) (last-step rules begun fits line).items_are

end-represents : (rules : RowRules) (begun : Begun) → Fits rules.opts begun rules.begins rules.row → rules.stopped ≡ false → (last : Option (List ℕ))
    → (end_rules rules last).at ≡ ctx_after rules.at (rows_from rules.opts rules.file last rules.number begun rules.header [])
end-represents rules begun fits goes None = refl
end-represents rules begun fits goes (Some line) =
    let next = after_text rules line in
    let last = last-step rules begun fits line in
    ap (λ s. (cond s rules (record next { stopped = has_fault (last_items rules line) })).at) goes ∙ last.at_is ∙ ap (ctx_after rules.at) last.items_are

all-give : (lines : List (List ℕ)) (rules : RowRules) (begun : Begun) → Fits rules.opts begun rules.begins rules.row → (stopped : Bool) → rules.stopped ≡ stopped → (last : Option (List ℕ))
    → given after_line gives_line rules lines ++ end_events (format_after after_line rules lines) last ≡ events_after stopped rules.at (rows_from rules.opts rules.file last rules.number begun rules.header lines)
all-give lines rules begun fits true is last =
    ap₂ (λ events r. events ++ end_events r last) (nothing lines rules is) (stays lines rules is) ∙ nothing-last rules last is
all-give [] rules begun fits false is last = end-gives rules begun fits is last
all-give (line ∷ lines) rules begun fits false is last =
    let s = step rules begun fits line is in
    let rest = rows_from s.next.opts s.next.file last s.next.number s.next_begun s.next.header lines in
    ap₂ (λ events r. (events ++ given after_line gives_line r lines) ++ end_events (format_after after_line r lines) last) s.gives s.next_is
    ∙ append_assoc (events_of rules.at s.items) (given after_line gives_line s.next lines) (end_events (format_after after_line s.next lines) last)
    ∙ ap (λ events. events_of rules.at s.items ++ events) (all-give lines s.next s.next_begun s.fits (has_fault s.items) s.stopped_is last ∙ ap (λ at. events_after (has_fault s.items) at rest) s.at_is)
    ∙ sym (events_of-append rules.at s.items rest)
    ∙ ap (events_of rules.at) (sym (s.rows last lines))

all-represent : (lines : List (List ℕ)) (rules : RowRules) (begun : Begun) → Fits rules.opts begun rules.begins rules.row → (stopped : Bool) → rules.stopped ≡ stopped → (last : Option (List ℕ))
    → (end_rules (format_after after_line rules lines) last).at ≡ ctx_after_events stopped rules.at (rows_from rules.opts rules.file last rules.number begun rules.header lines)
all-represent lines rules begun fits true is last = ap (λ r. (end_rules r last).at) (stays lines rules is) ∙ stays-last rules last is
all-represent [] rules begun fits false is last = end-represents rules begun fits is last
all-represent (line ∷ lines) rules begun fits false is last =
    let s = step rules begun fits line is in
    let rest = rows_from s.next.opts s.next.file last s.next.number s.next_begun s.next.header lines in
    ap (λ r. (end_rules (format_after after_line r lines) last).at) s.next_is
    ∙ all-represent lines s.next s.next_begun s.fits (has_fault s.items) s.stopped_is last ∙ ap (λ at. ctx_after_events (has_fault s.items) at rest) s.at_is
    ∙ sym (ctx_after-append rules.at s.items rest)
    ∙ ap (ctx_after rules.at) (sym (s.rows last lines))

module _ (opts : ReadOpts) (file : FileRef) (start : Ctx) (rules : RowRules) (begins : Begins rules opts file start) where
  rows-are : (last : Option (List ℕ)) (lines : List (List ℕ)) → rows_from rules.opts rules.file last rules.number None rules.header lines ≡ csv_items opts file last lines
  rows-are last lines =
      ap (λ o. rows_from o rules.file last rules.number None rules.header lines) begins.opts_are
      ∙ ap (λ f. rows_from opts f last rules.number None rules.header lines) begins.file_is
      ∙ ap₂ (λ n header. rows_from opts file last n None header lines) begins.number_is begins.header_is
      ∙ parts-same opts file last lines

  give : (last : Option (List ℕ)) (lines : List (List ℕ)) → given after_line gives_line rules lines ++ end_events (format_after after_line rules lines) last ≡ events_of start (csv_items opts file last lines)
  give last lines = all-give lines rules None begins.row_is false begins.goes_on last ∙ ap₂ events_of begins.at_is (rows-are last lines)

  represent : (last : Option (List ℕ)) (lines : List (List ℕ)) → (end_rules (format_after after_line rules lines) last).at ≡ ctx_after start (csv_items opts file last lines)
  represent last lines = all-represent lines rules None begins.row_is false begins.goes_on last ∙ ap₂ ctx_after begins.at_is (rows-are last lines)

  pub fed-is : (bytes : List ℕ) → given after_line gives_line rules (ended_lines bytes) ≡ csv_fed opts file start bytes
  fed-is bytes = sym (append-nil (given after_line gives_line rules (ended_lines bytes))) ∙ give None (ended_lines bytes)

  pub read-is : (bytes : List ℕ) → csv_fed opts file start bytes ++ gives_last (format_after after_line rules (ended_lines bytes)) (begun_line bytes) ≡ csv_read opts file start bytes
  read-is bytes =
      ap (λ events. events ++ gives_last (format_after after_line rules (ended_lines bytes)) (begun_line bytes)) (sym (fed-is bytes)) ∙ give (Some (begun_line bytes)) (ended_lines bytes)

  pub ctx_fed-is : (bytes : List ℕ) → (format_after after_line rules (ended_lines bytes)).at ≡ ctx_fed opts file start bytes
  ctx_fed-is bytes = represent None (ended_lines bytes)

  pub ctx_read-is : (bytes : List ℕ) → (after_last (format_after after_line rules (ended_lines bytes)) (begun_line bytes)).at ≡ ctx_read opts file start bytes
  ctx_read-is bytes = represent (Some (begun_line bytes)) (ended_lines bytes)
