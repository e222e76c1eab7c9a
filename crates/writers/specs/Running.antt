-- How a writer goes from one record or text to the next: what it appends by what it knows of those before, and what it
-- knows after. That this is what is written (Written.antt) is shown in proofs/Histories.antt; of the public clauses the
-- relation Represents alone cites this module.
use Rattle.std.specs.Prelude.{ℕ, Bool, true, false, ◌||◌, if◌then◌else◌, List, [], ◌∷◌, ◌++◌, codes}
use Rattle.mlr_spec.specs.Ascii.{line_feed}
use Rattle.mlr_spec.specs.Json.{json_record}
use Rattle.mlr_spec.specs.Tree.{Tree}
use Rattle.mlr_event.specs.declared.event.Body.{Body}
use Rattle.mlr_event.specs.declared.event.Body.TheVariants.{Rec, Text}
use Rattle.mlr_event.specs.declared.options.Format.{Format}
use Rattle.mlr_event.specs.declared.options.Format.TheVariants.{Csv, Tsv, Json, Jsonl, Dkvp, Nidx, Xtab, Pprint, Markdown}
use Rattle.text_columns.specs.Pprint as columns
use Rattle.text_columns.specs.Xtab.{xtab_lines}
use Rattle.writers.specs.declared.form.Part.TheVariants.{Keys, Values}
use Rattle.writers.specs.declared.options.WriteOpts.{WriteOpts}
use Rattle.writers.specs.Cells.{same_texts, shaped, texts}
use Rattle.writers.specs.Csv.{csv_line}
use Rattle.writers.specs.Tsv.{tsv_line}
use Rattle.writers.specs.Markdown.{markdown_header, markdown_line}
use Rattle.writers.specs.Dkvp.{dkvp_record}
use Rattle.writers.specs.Nidx.{nidx_record}
use Rattle.writers.specs.Headed.{unless_empty}
use Rattle.writers.specs.Joined.{are_any}
use Rattle.writers.specs.Json.{style_of}
use Rattle.writers.specs.Jsonl.{jsonl_record}

pub record Run : Type 0 where
  -- whether a record was written
  pub any : Bool
  -- whether the last thing was a record whose line end is missing
  pub mid : Bool
  -- the keys of the records since the last header; none where the next record begins a run
  pub keys : List (List ℕ)
  -- the lines of the run that are held back
  pub lines : List (List (List ℕ))

abbrev pub start : Run
start = record { any = false; mid = false; keys = []; lines = [] }

-- a header or a block that isn't the first follows an empty line
abbrev pub after_gap : Run → List ℕ → List ℕ
after_gap run text = (if run.any then line_feed ∷ [] else []) ++ text

-- what a record gives before its row: nothing under the header of its run, else a header, if headers are written
abbrev pub header_text : Bool → Run → List ℕ → List ℕ
header_text headerless run header = if headerless then [] else after_gap run header

abbrev pub heading : Bool → Run → List (List ℕ × Tree) → List ℕ → List ℕ
heading headerless run r header = if same_texts run.keys (texts Keys r) then [] else header_text headerless run header

abbrev pub headed : Bool → Run → List (List ℕ × Tree) → List ℕ → List ℕ → List ℕ
headed headerless run r header row = unless_empty r (heading headerless run r header ++ row)

-- a record under the header of its run leaves the run as it is, another begins one
abbrev pub headed_after : Run → List (List ℕ × Tree) → Run
headed_after run [] = record run { keys = [] }
headed_after run (field ∷ r) =
    if same_texts run.keys (texts Keys (field ∷ r)) then run else record run { any = true; keys = texts Keys (field ∷ r) }

abbrev pub csv_record : WriteOpts → Run → List (List ℕ × Tree) → List ℕ
csv_record opts run r = headed opts.headerless run r (csv_line opts (texts Keys r)) (csv_line opts (texts Values r))

abbrev pub tsv_record : WriteOpts → Run → List (List ℕ × Tree) → List ℕ
tsv_record opts run r = headed opts.headerless run r (tsv_line opts (texts Keys r)) (tsv_line opts (texts Values r))

abbrev pub markdown_record : Run → List (List ℕ × Tree) → List ℕ
markdown_record run r = headed false run r (markdown_header (texts Keys r)) (markdown_line (texts Values r))

-- the bracket that begins the list, or the comma after another record
abbrev pub list_lead : Run → List ℕ
list_lead run = if run.any then codes ",\n" else codes "[\n"

abbrev pub json_written : WriteOpts → Run → List (List ℕ × Tree) → List ℕ
json_written opts run r =
    if opts.listwrap then list_lead run ++ json_record (style_of opts) r else json_record (style_of opts) r ++ line_feed ∷ []

abbrev pub json_after : WriteOpts → Run → Run
json_after opts run = record run { any = true; mid = opts.listwrap }

-- the line end that is missing after a record
abbrev pub line_end_missing : Run → List ℕ
line_end_missing run = if run.mid then line_feed ∷ [] else []

-- the end of the list, which begins here if there was no record
abbrev pub json_end : WriteOpts → Run → List ℕ
json_end opts run =
    if opts.listwrap then (if run.any then line_end_missing run else codes "[\n") ++ codes "]\n" else []

abbrev pub xtab_record : Run → List (List ℕ × Tree) → List ℕ
xtab_record run r = unless_empty r (after_gap run (xtab_lines r))

abbrev pub xtab_after : Run → List (List ℕ × Tree) → Run
xtab_after run [] = run
xtab_after run (field ∷ r) = record run { any = true }

-- the text of the open block, after an empty line if it isn't the first; nothing where none is open
abbrev pub block_end : WriteOpts → Run → List ℕ
block_end opts run = if are_any run.lines then after_gap run (columns.block opts.barred opts.headerless run.lines) else []

-- no block is open
abbrev pub block_ended : Run → Run
block_ended run = record { any = run.any || are_any run.lines; mid = run.mid; keys = []; lines = [] }

-- the block that a record joins: the open one, if that has its keys, else another; and what is written before that begins
abbrev pub block_for : Run → List (List ℕ × Tree) → Run
block_for run r = if same_texts run.keys (texts Keys r) then run else record (block_ended run) { keys = texts Keys r; lines = texts Keys r ∷ [] }

abbrev pub text_before : WriteOpts → Run → List (List ℕ × Tree) → List ℕ
text_before opts run r = if same_texts run.keys (texts Keys r) then [] else block_end opts run

-- a record without fields ends the block
abbrev pub pprint_record : WriteOpts → Run → List (List ℕ × Tree) → List ℕ
pprint_record opts run [] = block_end opts run
pprint_record opts run (field ∷ r) = text_before opts run (field ∷ r)

abbrev pub with_row : Run → List (List ℕ × Tree) → Run
with_row run r = record run { lines = run.lines ++ texts Values r ∷ [] }

abbrev pub pprint_after : Run → List (List ℕ × Tree) → Run
pprint_after run [] = block_ended run
pprint_after run (field ∷ r) = with_row (block_for run (field ∷ r)) (field ∷ r)

-- what is written when a record comes, and the state of the output after it
abbrev pub record_text : Format → WriteOpts → Run → List (List ℕ × Tree) → List ℕ
record_text Csv opts run r = csv_record opts run r
record_text Tsv opts run r = tsv_record opts run r
record_text Json opts run r = json_written opts run r
record_text Jsonl opts run r = jsonl_record r
record_text Dkvp opts run r = dkvp_record opts r
record_text Nidx opts run r = nidx_record opts r
record_text Xtab opts run r = xtab_record run r
record_text Pprint opts run r = pprint_record opts run r
record_text Markdown opts run r = markdown_record run r

abbrev pub record_after : Format → WriteOpts → Run → List (List ℕ × Tree) → Run
record_after Csv opts run r = headed_after run r
record_after Tsv opts run r = headed_after run r
record_after Json opts run r = json_after opts run
record_after Jsonl opts run r = run
record_after Dkvp opts run r = run
record_after Nidx opts run r = run
record_after Xtab opts run r = xtab_after run r
record_after Pprint opts run r = pprint_after run r
record_after Markdown opts run r = headed_after run r

-- what is written at the end
abbrev pub end_text : Format → WriteOpts → Run → List ℕ
end_text Csv opts run = []
end_text Tsv opts run = []
end_text Json opts run = json_end opts run
end_text Jsonl opts run = []
end_text Dkvp opts run = []
end_text Nidx opts run = []
end_text Xtab opts run = []
end_text Pprint opts run = block_end opts run
end_text Markdown opts run = []

-- a text is written at once, as it is, after the missing line end
abbrev pub gives : WriteOpts → Run → Body → List ℕ
gives opts run (Rec r) = record_text opts.format opts run (shaped opts r)
gives opts run (Text text) = line_end_missing run ++ text

abbrev pub after : WriteOpts → Run → Body → Run
after opts run (Rec r) = record_after opts.format opts run (shaped opts r)
after opts run (Text text) = record run { mid = false }

-- what records and texts give one after another, from where an output has come, and how far it comes
abbrev pub given : WriteOpts → Run → List Body → List ℕ
given opts run [] = []
given opts run (body ∷ bodies) = gives opts run body ++ given opts (after opts run body) bodies

abbrev pub run_after : WriteOpts → Run → List Body → Run
run_after opts run [] = run
run_after opts run (body ∷ bodies) = run_after opts (after opts run body) bodies

-- what is written of these records and texts, before the end or with it
abbrev pub written : WriteOpts → List Body → Bool → List ℕ
written opts bodies ended =
    given opts start bodies ++ (if ended then end_text opts.format opts (run_after opts start bodies) else [])
