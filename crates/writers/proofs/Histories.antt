-- What a writer knows after records and texts is what they come to, so that it writes what each gives after those before it.
use Rattle.std.proofs.Common.{◌≡◌, ℕ, Bool, true, false, not, ◌&&◌, if◌then◌else◌, List, [], ◌∷◌, ◌++◌, codes, refl, ap, ap₂, sym, ◌∙◌, append_assoc}
use Rattle.std.proofs.lemmas.List.{append-nil}
use Rattle.mlr_event.specs.declared.event.Body.{Body}
use Rattle.mlr_event.specs.declared.event.Body.TheVariants.{Rec, Text}
use Rattle.mlr_event.specs.declared.options.Format.{Format}
use Rattle.mlr_event.specs.declared.options.Format.TheVariants.{Csv, Tsv, Json, Jsonl, Dkvp, Nidx, Xtab, Pprint, Markdown}
use Rattle.writers.specs.declared.form.Part.TheVariants.{Keys, Values}
use Rattle.writers.specs.declared.options.WriteOpts.{WriteOpts}
use Rattle.writers.specs.Before.{last_or, records_in}
use Rattle.writers.specs.Cells.{same_texts, shaped, texts}
use Rattle.writers.specs.Csv.{csv_line}
use Rattle.writers.specs.Headed.{gap, headed, unless_empty}
use Rattle.writers.specs.Joined.{are_any}
use Rattle.writers.specs.Json.{is_listed}
use Rattle.writers.specs.Markdown.{markdown_header, markdown_line}
use Rattle.writers.specs.Pprint.{block, block_end, lines_of, pprint_record}
use Rattle.writers.specs.Running as running
use Rattle.writers.specs.Running.{Run, run_after, start}
use Rattle.writers.specs.Runs.{Record, all_but_last, filled, line_end_after, runs_of}
use Rattle.writers.specs.Tsv.{tsv_line}
use Rattle.writers.specs.Written.{end_text, given, gives, record_text, written}
use Rattle.writers.proofs.Blocks.{ends-empty}
use Rattle.writers.proofs.Bodies.{after-record, after-text, any-line_end, records-append}
use Rattle.writers.proofs.Known.{headed-step, known, pprint-step, xtab-step}
use Rattle.writers.proofs.Lasts.{any-append}

-- whether a line end is missing, in a list or not
abbrev mid_known : Bool → List Body → Bool
mid_known listed bodies = if listed then are_any (line_end_after bodies) else false

mid-missing : (listed : Bool) (bodies : List Body) → (if mid_known listed bodies then 10 ∷ [] else []) ≡ (if listed then line_end_after bodies else [])
mid-missing true bodies = any-line_end bodies
mid-missing false bodies = refl

mid-text : (listed : Bool) (before : List Body) (text : List ℕ) → mid_known listed (before ++ Text text ∷ []) ≡ false
mid-text true before text = ap are_any (after-text before text)
mid-text false before text = refl

mid-record : (listed : Bool) (before : List Body) (r : Record) → mid_known listed (before ++ Rec r ∷ []) ≡ listed
mid-record true before r = ap are_any (after-record before r)
mid-record false before r = refl

mid-none : (listed : Bool) → mid_known listed [] ≡ false
mid-none true = refl
mid-none false = refl

abbrev block_gap : List Record → List ℕ
block_gap rs = if are_any (filled (all_but_last (runs_of rs))) then 10 ∷ [] else []

-- what a block gives at its end
block-is : (opts : WriteOpts) (mid : Bool) (rs : List Record) → running.block_end opts (known Pprint mid rs) ≡ block_end opts rs
block-is opts mid rs = by (last_or [] (runs_of rs))
  where
    by : (run : List Record) → (if are_any (lines_of run) then block_gap rs ++ block opts run else []) ≡ (if are_any run then block_gap rs ++ block opts run else [])
    by [] = refl
    by (first ∷ run) = refl

pprint-gives : (opts : WriteOpts) (mid : Bool) (rs : List Record) (r : Record) → running.pprint_record opts (known Pprint mid rs) r ≡ pprint_record opts rs r
pprint-gives opts mid rs [] = block-is opts mid rs ∙ ends-empty opts rs
pprint-gives opts mid rs (field ∷ r) = by (same_texts (texts Keys (last_or [] rs)) (texts Keys (field ∷ r)))
  where
    by : (same : Bool) → (if same then [] else running.block_end opts (known Pprint mid rs)) ≡ (if not same then block_end opts rs else [])
    by true = refl
    by false = block-is opts mid rs

-- a header where a run begins
headed-gives : (headerless mid : Bool) (rs : List Record) (r : Record) (header row : List ℕ) → running.headed headerless (known Csv mid rs) r header row ≡ headed headerless rs r header row
headed-gives headerless mid rs r header row = by (same_texts (texts Keys (last_or [] rs)) (texts Keys r)) headerless
  where
    by : (same headerless : Bool) → unless_empty r ((if same then [] else (if headerless then [] else gap rs ++ header)) ++ row)
        ≡ unless_empty r ((if not same && not headerless then gap rs ++ header else []) ++ row)
    by true headerless = refl
    by false true = refl
    by false false = refl

module _ (opts : WriteOpts) where
  record-gives : (f : Format) (mid : Bool) (rs : List Record) (r : Record) → running.record_text f opts (known f mid rs) r ≡ record_text f opts rs r
  record-gives Csv mid rs r = headed-gives opts.headerless mid rs r (csv_line opts (texts Keys r)) (csv_line opts (texts Values r))
  record-gives Tsv mid rs r = headed-gives opts.headerless mid rs r (tsv_line opts (texts Keys r)) (tsv_line opts (texts Values r))
  record-gives Json mid rs r = refl
  record-gives Jsonl mid rs r = refl
  record-gives Dkvp mid rs r = refl
  record-gives Nidx mid rs r = refl
  record-gives Xtab mid rs r = refl
  record-gives Pprint mid rs r = pprint-gives opts mid rs r
  record-gives Markdown mid rs r = headed-gives false mid rs r (markdown_header (texts Keys r)) (markdown_line (texts Values r))

  record-step : (f : Format) (before : List Body) (rs : List Record) (r : Record)
      → running.record_after f opts (known f (mid_known (is_listed f opts) before) rs) r ≡ known f (is_listed f opts) (rs ++ r ∷ [])
  record-step Csv before rs r = headed-step false rs r
  record-step Tsv before rs r = headed-step false rs r
  record-step Json before rs r = ap (λ any. record { any = any; mid = opts.listwrap; keys = []; lines = [] }) (sym (any-append r rs))
  record-step Jsonl before rs r = refl
  record-step Dkvp before rs r = refl
  record-step Nidx before rs r = refl
  record-step Xtab before rs r = xtab-step false rs r
  record-step Pprint before rs r = pprint-step false rs r
  record-step Markdown before rs r = headed-step false rs r

  none-known : (f : Format) → known f false [] ≡ start
  none-known Csv = refl
  none-known Tsv = refl
  none-known Json = refl
  none-known Jsonl = refl
  none-known Dkvp = refl
  none-known Nidx = refl
  none-known Xtab = refl
  none-known Pprint = refl
  none-known Markdown = refl

  abbrev run_from : List Body → Run
  run_from before = known opts.format (mid_known (is_listed opts.format opts) before) (records_in opts before)

  step-is : (before : List Body) (body : Body) → running.after opts (run_from before) body ≡ run_from (before ++ body ∷ [])
  step-is before (Rec r) =
      record-step opts.format before (records_in opts before) (shaped opts r)
      ∙ ap₂ (known opts.format) (sym (mid-record (is_listed opts.format opts) before r)) (sym (records-append opts before (Rec r ∷ [])))
  step-is before (Text text) =
      ap₂ (known opts.format) (sym (mid-text (is_listed opts.format opts) before text)) (sym (records-append opts before (Text text ∷ []) ∙ append-nil (records_in opts before)))

  gives-from : (before : List Body) (body : Body) → running.gives opts (run_from before) body ≡ gives opts before body
  gives-from before (Rec r) = record-gives opts.format (mid_known (is_listed opts.format opts) before) (records_in opts before) (shaped opts r)
  gives-from before (Text text) = ap (λ t. t ++ text) (mid-missing (is_listed opts.format opts) before)

  end-from : (f : Format) (bodies : List Body) → running.end_text f opts (known f (mid_known (is_listed f opts) bodies) (records_in opts bodies)) ≡ end_text f opts bodies
  end-from Csv bodies = refl
  end-from Tsv bodies = refl
  end-from Json bodies = by opts.listwrap
    where
      by : (listed : Bool)
          → (if listed then (if are_any (records_in opts bodies) then (if mid_known listed bodies then 10 ∷ [] else []) else codes "[\n") ++ codes "]\n" else [])
          ≡ (if listed then (if are_any (records_in opts bodies) then line_end_after bodies else codes "[\n") ++ codes "]\n" else [])
      by true = ap (λ t. (if are_any (records_in opts bodies) then t else codes "[\n") ++ codes "]\n") (any-line_end bodies)
      by false = refl
  end-from Jsonl bodies = refl
  end-from Dkvp bodies = refl
  end-from Nidx bodies = refl
  end-from Xtab bodies = refl
  end-from Pprint bodies = block-is opts false (records_in opts bodies)
  end-from Markdown bodies = refl

  run-from : (before bodies : List Body) → run_after opts (run_from before) bodies ≡ run_from (before ++ bodies)
  run-from before [] = ap run_from (sym (append-nil before))
  run-from before (body ∷ bodies) =
      ap (λ run. run_after opts run bodies) (step-is before body)
      ∙ run-from (before ++ body ∷ []) bodies
      ∙ ap run_from (append_assoc before (body ∷ []) bodies)

  begins : start ≡ run_from []
  begins = sym (ap (λ mid. known opts.format mid []) (mid-none (is_listed opts.format opts)) ∙ none-known opts.format)

  -- how far an output has come
  run-is : (bodies : List Body) → run_after opts start bodies ≡ run_from bodies
  run-is bodies = ap (λ run. run_after opts run bodies) begins ∙ run-from [] bodies

  pub gives-is : (before : List Body) (body : Body) → running.gives opts (run_after opts start before) body ≡ gives opts before body
  gives-is before body = ap (λ run. running.gives opts run body) (run-is before) ∙ gives-from before body

  pub end-is : (bodies : List Body) → running.end_text opts.format opts (run_after opts start bodies) ≡ end_text opts.format opts bodies
  end-is bodies = ap (running.end_text opts.format opts) (run-is bodies) ∙ end-from opts.format bodies

  given-is : (before bodies : List Body) → running.given opts (run_from before) bodies ≡ given opts before bodies
  given-is before [] = refl
  given-is before (body ∷ bodies) =
      ap₂ (λ text run. text ++ running.given opts run bodies) (gives-from before body) (step-is before body)
      ∙ ap (λ t. gives opts before body ++ t) (given-is (before ++ body ∷ []) bodies)

  pub written-is : (bodies : List Body) (ended : Bool) → written opts bodies ended ≡ running.written opts bodies ended
  written-is bodies ended =
      sym (ap₂ (λ text last. text ++ (if ended then last else [])) (ap (λ run. running.given opts run bodies) begins ∙ given-is [] bodies) (end-is bodies))
