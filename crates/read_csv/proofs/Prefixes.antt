-- The first bytes of a file fix events that stay; they are those of the longest prefix that ends with a line
-- ending outside quotes.
use Rattle.std.proofs.Common.{◌≡◌, ℕ, zero, suc, ◌+◌, ◌-◌, ◌≤◌, Bool, true, false, cond, not, ◌&&◌, eqb, List, [], ◌∷◌, ◌++◌, length, take, get_or, Option, Some, None, refl, ap, ap₂, sym, subst, ◌∙◌, append_assoc, arith, inl, inr, add-one, length-append}
use Rattle.std.specs.Option.{is_some}
use Rattle.std.proofs.Math.Seq.{get_or-append_seam, take-length}
use Rattle.std.proofs.lemmas.Bool.{cases_Bool, true≢false, and_parts, not-true, not-false}
use Rattle.std.proofs.lemmas.List.{append-nil, take_more}
use Rattle.mlr_spec.proofs.Splitting.{cases_Option}
use Rattle.mlr_event.specs.declared.event.Ctx.{Ctx}
use Rattle.mlr_event.specs.declared.event.Event.{Event}
use Rattle.mlr_event.specs.declared.names.FileRef.{FileRef}
use Rattle.mlr_event.specs.declared.options.ReadOpts.{ReadOpts}
use Rattle.mlr_event.specs.Reading.{Item, ctx_after, events_of, is_comment}
use Rattle.mlr_event.specs.Stream.{events_after, has_fault}
use Rattle.mlr_event.proofs.Streams.{events_of-append}
use Rattle.mlr_lines.specs.Lines.{begun_after, begun_line, ended_after, ended_lines, without_return}
use Rattle.mlr_lines.specs.Steps.{are_none, unmarked_line, unmarked_lines}
use Rattle.mlr_lines.proofs.Cutting.{begun-append, begun_line-is, ended_lines-append}
use Rattle.read_csv.specs.Fields.{Field}
use Rattle.read_csv.specs.Prefixes.{closed_prefix, closed_within, ends_line, is_closed, open_row}
use Rattle.read_csv.specs.Rows.{Begun, begins_at, csv_fed, csv_read, goes_on, is_skipped, row_fields, skipped_items}
use Rattle.read_csv.specs.RowLines.{closed_items, end_items, header_after, rows_from}
use Rattle.read_csv.proofs.Parts.{parts-same}

module _ (opts : ReadOpts) (file : FileRef) where
  -- the events that the lines of the first bytes give one by one, and those of all lines
  abbrev fed_by : Ctx → List ℕ → List Event
  fed_by start bytes = events_of start (rows_from opts file None 1 None None (ended_lines bytes))

  abbrev read_by : Ctx → List ℕ → List Event
  read_by start bytes = events_of start (rows_from opts file (Some (begun_line bytes)) 1 None None (ended_lines bytes))

  fed-same : (start : Ctx) (bytes : List ℕ) → fed_by start bytes ≡ csv_fed opts file start bytes
  fed-same start bytes = ap (events_of start) (parts-same opts file None (ended_lines bytes))

  read-same : (start : Ctx) (bytes : List ℕ) → read_by start bytes ≡ csv_read opts file start bytes
  read-same start bytes = ap (events_of start) (parts-same opts file (Some (begun_line bytes)) (ended_lines bytes))

  -- the items from a line on, by whether it is skipped and by the fields of the row that it ends
  abbrev rows_by : Option (List ℕ) → ℕ → Begun → Option (List (List ℕ)) → List ℕ → List (List ℕ) → Bool → Option (List Field) → List Item
  rows_by last n row header line lines skipped fields = cond skipped
      (skipped_items opts (without_return line) ++ rows_from opts file last (n + 1) None header lines)
      (elim fields [
        | None ↦ rows_from opts file last (n + 1) (Some (begins_at row n, goes_on row line)) header lines
        | Some found ↦ closed_items opts file (begins_at row n) header found ++ rows_from opts file last (n + 1) None (header_after opts header found) lines
      ])

  abbrev skips : Begun → List ℕ → Bool
  skips row line = is_skipped opts row (without_return line)

  abbrev fields_now : Begun → List ℕ → Option (List Field)
  fields_now row line = row_fields opts (without_return (goes_on row line))

  rows-more : (last : Option (List ℕ)) (lines more : List (List ℕ)) (n : ℕ) (row : Begun) (header : Option (List (List ℕ)))
      → (items : List Item) × (rows_from opts file last n row header (lines ++ more) ≡ rows_from opts file None n row header lines ++ items)
  rows-more last [] more n row header = (rows_from opts file last n row header more, refl)
  rows-more last (line ∷ lines) more n row header =
      let whole = rows_by last n row header line (lines ++ more) in
      let prefix = rows_by None n row header line lines in
      elim (cases_Bool (skips row line)) as (λ _. (items : List Item) × (whole (skips row line) (fields_now row line) ≡ prefix (skips row line) (fields_now row line) ++ items)) [
        | inl skipped ↦
            let later = rows-more last lines more (n + 1) None header in
            let here = skipped_items opts (without_return line) in (
              later.0,
              ap (λ s. whole s (fields_now row line)) skipped
                  ∙ ap (λ items. here ++ items) later.1
                  ∙ sym (append_assoc here (rows_from opts file None (n + 1) None header lines) later.0)
                  ∙ ap (λ s. prefix s (fields_now row line) ++ later.0) (sym skipped),
            )
        | inr taken ↦
            elim (cases_Option (fields_now row line)) as (λ _. (items : List Item) × (whole (skips row line) (fields_now row line) ≡ prefix (skips row line) (fields_now row line) ++ items)) [
              | inl none ↦
                  let later = rows-more last lines more (n + 1) (Some (begins_at row n, goes_on row line)) header in (
                    later.0,
                    ap₂ whole taken none ∙ later.1 ∙ ap₂ (λ s f. prefix s f ++ later.0) (sym taken) (sym none),
                  )
              | inr some ↦
                  let found = some.0 in
                  let later = rows-more last lines more (n + 1) None (header_after opts header found) in
                  let here = closed_items opts file (begins_at row n) header found in (
                    later.0,
                    ap₂ whole taken some.1
                        ∙ ap (λ items. here ++ items) later.1
                        ∙ sym (append_assoc here (rows_from opts file None (n + 1) None (header_after opts header found) lines) later.0)
                        ∙ ap₂ (λ s f. prefix s f ++ later.0) (sym taken) (sym some.1),
                  )
            ]
      ]

  events-more : (start : Ctx) (last : Option (List ℕ)) (lines more : List (List ℕ))
      → (events : List Event) × (events_of start (rows_from opts file last 1 None None (lines ++ more)) ≡ events_of start (rows_from opts file None 1 None None lines) ++ events)
  events-more start last lines more =
      let later = rows-more last lines more 1 None None in
      let prefix = rows_from opts file None 1 None None lines in
      (events_after (has_fault prefix) (ctx_after start prefix) later.0, ap (events_of start) later.1 ∙ events_of-append start prefix later.0)

  -- the lines that more bytes end
  abbrev lines_more : List ℕ → List ℕ → List (List ℕ)
  lines_more bytes more = unmarked_lines (are_none (ended_lines bytes)) (ended_after (begun_after [] bytes) more)

  more-fed : (start : Ctx) (bytes rest : List ℕ) → (more : List Event) × (fed_by start (bytes ++ rest) ≡ fed_by start bytes ++ more)
  more-fed start bytes rest =
      let events = events-more start None (ended_lines bytes) (lines_more bytes rest) in
      (events.0, ap (λ lines. events_of start (rows_from opts file None 1 None None lines)) (ended_lines-append bytes rest) ∙ events.1)

  more-read : (start : Ctx) (bytes rest : List ℕ) → (more : List Event) × (read_by start (bytes ++ rest) ≡ fed_by start bytes ++ more)
  more-read start bytes rest =
      let last = Some (begun_line (bytes ++ rest)) in
      let events = events-more start last (ended_lines bytes) (lines_more bytes rest) in
      (events.0, ap (λ lines. events_of start (rows_from opts file last 1 None None lines)) (ended_lines-append bytes rest) ∙ events.1)

  pub fed-more : (start : Ctx) (bytes rest : List ℕ) → (more : List Event) × (csv_fed opts file start (bytes ++ rest) ≡ csv_fed opts file start bytes ++ more)
  fed-more start bytes rest =
      let more = more-fed start bytes rest in
      (more.0, sym (fed-same start (bytes ++ rest)) ∙ more.1 ∙ ap (λ events. events ++ more.0) (fed-same start bytes))

  pub read-more : (start : Ctx) (bytes rest : List ℕ) → (more : List Event) × (csv_read opts file start (bytes ++ rest) ≡ csv_fed opts file start bytes ++ more)
  read-more start bytes rest =
      let more = more-read start bytes rest in
      (more.0, sym (read-same start (bytes ++ rest)) ∙ more.1 ∙ ap (λ events. events ++ more.0) (fed-same start bytes))

  -- the row that is open after a line
  abbrev open_by : ℕ → Begun → List ℕ → Bool → Option (List Field) → Begun
  open_by n row line skipped fields = cond skipped None (elim fields [ None ↦ Some (begins_at row n, goes_on row line) | Some found ↦ None ])

  -- a last line that leaves a quote open gives no items
  rows-open : (lines : List (List ℕ)) (line : List ℕ) (n : ℕ) (row : Begun) (header : Option (List (List ℕ)))
      → is_some (open_row opts n row (lines ++ line ∷ [])) ≡ true → rows_from opts file None n row header (lines ++ line ∷ []) ≡ rows_from opts file None n row header lines
  rows-open [] line n row header is =
      elim (cases_Bool (skips row line)) as (λ _. rows_by None n row header line [] (skips row line) (fields_now row line) ≡ []) [
        | inl skipped ↦ absurd (true≢false (sym is ∙ ap (λ s. is_some (open_by n row line s (fields_now row line))) skipped))
        | inr taken ↦
            elim (cases_Option (fields_now row line)) as (λ _. rows_by None n row header line [] (skips row line) (fields_now row line) ≡ []) [
              | inl none ↦ ap₂ (rows_by None n row header line []) taken none
              | inr some ↦ absurd (true≢false (sym is ∙ ap₂ (λ s f. is_some (open_by n row line s f)) taken some.1))
            ]
      ]
  rows-open (l ∷ lines) line n row header is =
      let whole = rows_by None n row header l (lines ++ line ∷ []) in
      let prefix = rows_by None n row header l lines in
      let left = λ (s : Bool) (f : Option (List Field)). is_some (open_row opts (n + 1) (open_by n row l s f) (lines ++ line ∷ [])) in
      elim (cases_Bool (skips row l)) as (λ _. whole (skips row l) (fields_now row l) ≡ prefix (skips row l) (fields_now row l)) [
        | inl skipped ↦
            ap (λ s. whole s (fields_now row l)) skipped
            ∙ ap (λ items. skipped_items opts (without_return l) ++ items) (rows-open lines line (n + 1) None header (sym (ap (λ s. left s (fields_now row l)) skipped) ∙ is))
            ∙ ap (λ s. prefix s (fields_now row l)) (sym skipped)
        | inr taken ↦
            elim (cases_Option (fields_now row l)) as (λ _. whole (skips row l) (fields_now row l) ≡ prefix (skips row l) (fields_now row l)) [
              | inl none ↦
                  ap₂ whole taken none
                  ∙ rows-open lines line (n + 1) (Some (begins_at row n, goes_on row l)) header (sym (ap₂ left taken none) ∙ is)
                  ∙ ap₂ prefix (sym taken) (sym none)
              | inr some ↦
                  let found = some.0 in
                  ap₂ whole taken some.1
                  ∙ ap (λ items. closed_items opts file (begins_at row n) header found ++ items) (rows-open lines line (n + 1) None (header_after opts header found) (sym (ap₂ left taken some.1) ∙ is))
                  ∙ ap₂ prefix (sym taken) (sym some.1)
            ]
      ]

  -- after a line ending outside quotes, the end of the file gives no items
  module _ (sound : is_comment opts.comments [] ≡ false) where
    nothing-last : (n : ℕ) (row : Begun) (header : Option (List (List ℕ))) → is_some row ≡ false → end_items opts file n row header [] ≡ []
    nothing-last n None header is = rw sound refl
    nothing-last n (Some row) header is = absurd (true≢false is)

    rows-closed : (lines : List (List ℕ)) (n : ℕ) (row : Begun) (header : Option (List (List ℕ)))
        → is_some (open_row opts n row lines) ≡ false → rows_from opts file (Some []) n row header lines ≡ rows_from opts file None n row header lines
    rows-closed [] n row header is = nothing-last n row header is
    rows-closed (line ∷ lines) n row header is =
        let whole = rows_by (Some []) n row header line lines in
        let prefix = rows_by None n row header line lines in
        let left = λ (s : Bool) (f : Option (List Field)). is_some (open_row opts (n + 1) (open_by n row line s f) lines) in
        elim (cases_Bool (skips row line)) as (λ _. whole (skips row line) (fields_now row line) ≡ prefix (skips row line) (fields_now row line)) [
          | inl skipped ↦
              ap (λ s. whole s (fields_now row line)) skipped
              ∙ ap (λ items. skipped_items opts (without_return line) ++ items) (rows-closed lines (n + 1) None header (sym (ap (λ s. left s (fields_now row line)) skipped) ∙ is))
              ∙ ap (λ s. prefix s (fields_now row line)) (sym skipped)
          | inr taken ↦
              elim (cases_Option (fields_now row line)) as (λ _. whole (skips row line) (fields_now row line) ≡ prefix (skips row line) (fields_now row line)) [
                | inl none ↦
                    ap₂ whole taken none
                    ∙ rows-closed lines (n + 1) (Some (begins_at row n, goes_on row line)) header (sym (ap₂ left taken none) ∙ is)
                    ∙ ap₂ prefix (sym taken) (sym none)
                | inr some ↦
                    let found = some.0 in
                    ap₂ whole taken some.1
                    ∙ ap (λ items. closed_items opts file (begins_at row n) header found ++ items) (rows-closed lines (n + 1) None (header_after opts header found) (sym (ap₂ left taken some.1) ∙ is))
                    ∙ ap₂ prefix (sym taken) (sym some.1)
              ]
        ]

    -- one more byte
    ends-byte : (bytes : List ℕ) (b : ℕ) → ends_line (bytes ++ b ∷ []) ≡ eqb b 10
    ends-byte bytes b =
        let last : length (bytes ++ b ∷ []) - 1 ≡ length bytes = omega (arith, length-append bytes (b ∷ [])) in
        ap (λ k. eqb (get_or (bytes ++ b ∷ []) k 0) 10) last ∙ ap (λ c. eqb c 10) (get_or-append_seam bytes b [] 0)

    unmarked-nothing : (first : Bool) → unmarked_line first [] ≡ []
    unmarked-nothing true = refl
    unmarked-nothing false = refl

    unmarked-none : (first : Bool) → unmarked_lines first [] ≡ []
    unmarked-none true = refl
    unmarked-none false = refl

    unmarked-one : (first : Bool) (line : List ℕ) → unmarked_lines first (line ∷ []) ≡ unmarked_line first line ∷ []
    unmarked-one true line = refl
    unmarked-one false line = refl

    -- a byte that ends no line, or that is within quotes, fixes nothing
    open-byte : (start : Ctx) (bytes : List ℕ) (b : ℕ) → is_closed opts (bytes ++ b ∷ []) ≡ false → fed_by start (bytes ++ b ∷ []) ≡ fed_by start bytes
    open-byte start bytes b is =
        let ended = ended_lines bytes in
        let first = are_none ended in
        let begun = begun_after [] bytes in
        let lines = λ (t : Bool). ended ++ unmarked_lines first (cond t (begun ∷ []) []) in
        let gives = λ (all : List (List ℕ)). events_of start (rows_from opts file None 1 None None all) in
        let open_at = λ (all : List (List ℕ)). is_some (open_row opts 1 None all) in
        let all : ended_lines (bytes ++ b ∷ []) ≡ lines (eqb b 10) = ended_lines-append bytes (b ∷ []) in
        elim (cases_Bool (eqb b 10)) as (λ _. fed_by start (bytes ++ b ∷ []) ≡ fed_by start bytes) [
          | inl feed ↦
              let line = unmarked_line first begun in
              let more : ended_lines (bytes ++ b ∷ []) ≡ ended ++ line ∷ [] = all ∙ ap lines feed ∙ ap (λ m. ended ++ m) (unmarked-one first begun) in
              let left : open_at (ended_lines (bytes ++ b ∷ [])) ≡ true =
              not-false (open_at (ended_lines (bytes ++ b ∷ []))) (sym (ap (λ t. t && not (open_at (ended_lines (bytes ++ b ∷ [])))) (ends-byte bytes b ∙ feed)) ∙ is) in
              ap gives more ∙ ap (events_of start) (rows-open ended line 1 None None (ap open_at (sym more) ∙ left))
          | inr other ↦ ap gives (all ∙ ap lines other ∙ ap (λ m. ended ++ m) (unmarked-none first) ∙ append-nil ended)
        ]

    -- a prefix that ends with a line ending outside quotes gives the same as a whole file
    closed-byte : (start : Ctx) (bytes : List ℕ) (b : ℕ) → is_closed opts (bytes ++ b ∷ []) ≡ true → fed_by start (bytes ++ b ∷ []) ≡ read_by start (bytes ++ b ∷ [])
    closed-byte start bytes b is =
        let prefix = bytes ++ b ∷ [] in
        let ended = ended_lines prefix in
        let left = is_some (open_row opts 1 None ended) in
        let parts = and_parts (ends_line prefix) (not left) is in
        let feed : eqb b 10 ≡ true = sym (ends-byte bytes b) ∙ parts.0 in
        let raw : begun_after [] prefix ≡ [] = begun-append [] bytes (b ∷ []) ∙ ap (λ t. cond t [] (begun_after [] bytes ++ b ∷ [])) feed in
        let begun : begun_line prefix ≡ [] = begun_line-is prefix ∙ ap (unmarked_line (are_none ended)) raw ∙ unmarked-nothing (are_none ended) in
        ap (events_of start) (sym (rows-closed ended 1 None None (not-true left parts.1)))
        ∙ ap (λ last. events_of start (rows_from opts file (Some last) 1 None None ended)) (sym begun)

    prefix-within : (start : Ctx) (bytes : List ℕ) (n : ℕ) → n ≤ length bytes → fed_by start (take n bytes) ≡ read_by start (closed_within opts bytes n)
    prefix-within start bytes zero fits = sym (ap (events_of start) (nothing-last 1 None None refl))
    prefix-within start bytes (suc n) fits =
        let prefix = take (suc n) bytes in
        let shorter = take n bytes in
        let b = get_or bytes n 0 in
        let more : prefix ≡ shorter ++ b ∷ [] = ap (λ k. take k bytes) (sym (add-one n)) ∙ take_more bytes n 0 (omega arith) in
        let by = λ (t : Bool). read_by start (cond t prefix (closed_within opts bytes n)) in
        elim (cases_Bool (is_closed opts prefix)) as (λ _. fed_by start prefix ≡ by (is_closed opts prefix)) [
          | inl closed ↦
              subst (λ t. is_closed opts t ≡ true → fed_by start t ≡ read_by start t) (sym more) (closed-byte start shorter b) closed
              ∙ ap by (sym closed)
          | inr goes_on ↦
              subst (λ t. is_closed opts t ≡ false → fed_by start t ≡ fed_by start shorter) (sym more) (open-byte start shorter b) goes_on
              ∙ prefix-within start bytes n (omega arith)
              ∙ ap by (sym goes_on)
        ]

    prefix-fed : (start : Ctx) (bytes : List ℕ) → fed_by start bytes ≡ read_by start (closed_prefix opts bytes)
    prefix-fed start bytes = ap (fed_by start) (sym (take-length bytes)) ∙ prefix-within start bytes (length bytes) (omega arith)

    pub fed-prefix : (start : Ctx) (bytes : List ℕ) → csv_fed opts file start bytes ≡ csv_read opts file start (closed_prefix opts bytes)
    fed-prefix start bytes = sym (fed-same start bytes) ∙ prefix-fed start bytes ∙ read-same start (closed_prefix opts bytes)
