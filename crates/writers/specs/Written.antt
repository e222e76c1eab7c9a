-- What is written of records and texts, in each format: what each of them gives after those before it, and what the end
-- adds.
use Rattle.std.specs.Prelude.{ℕ, Bool, if◌then◌else◌, List, [], ◌∷◌, ◌++◌}
use Rattle.mlr_event.specs.declared.event.Body.{Body}
use Rattle.mlr_event.specs.declared.event.Body.TheVariants.{Rec, Text}
use Rattle.mlr_event.specs.declared.options.Format.{Format}
use Rattle.mlr_event.specs.declared.options.Format.TheVariants.{Csv, Tsv, Json, Jsonl, Dkvp, Nidx, Xtab, Pprint, Markdown}
use Rattle.writers.specs.declared.options.WriteOpts.{WriteOpts}
use Rattle.writers.specs.Before.{records_in}
use Rattle.writers.specs.Cells.{shaped}
use Rattle.writers.specs.Csv.{csv_record}
use Rattle.writers.specs.Tsv.{tsv_record}
use Rattle.writers.specs.Markdown.{markdown_record}
use Rattle.writers.specs.Dkvp.{dkvp_record}
use Rattle.writers.specs.Nidx.{nidx_record}
use Rattle.writers.specs.Json.{is_listed, json_end, json_written}
use Rattle.writers.specs.Jsonl.{jsonl_record}
use Rattle.writers.specs.Xtab.{xtab_record}
use Rattle.writers.specs.Pprint.{block_end, pprint_record}
use Rattle.writers.specs.Runs.{Record, line_end_after}

-- what a record gives after the records before it
abbrev pub record_text : Format → WriteOpts → List Record → Record → List ℕ
record_text Csv opts before r = csv_record opts before r
record_text Tsv opts before r = tsv_record opts before r
record_text Json opts before r = json_written opts before r
record_text Jsonl opts before r = jsonl_record r
record_text Dkvp opts before r = dkvp_record opts r
record_text Nidx opts before r = nidx_record opts r
record_text Xtab opts before r = xtab_record before r
record_text Pprint opts before r = pprint_record opts before r
record_text Markdown opts before r = markdown_record before r

-- what a record or a text gives after those before it; a text is written as it is, in a list after the missing line end
abbrev pub gives : WriteOpts → List Body → Body → List ℕ
gives opts before (Rec r) = record_text opts.format opts (records_in opts before) (shaped opts r)
gives opts before (Text text) = (if is_listed opts.format opts then line_end_after before else []) ++ text

-- what each of them gives, after others
abbrev pub given : WriteOpts → List Body → List Body → List ℕ
given opts before [] = []
given opts before (body ∷ bodies) = gives opts before body ++ given opts (before ++ body ∷ []) bodies

-- what the end adds
abbrev pub end_text : Format → WriteOpts → List Body → List ℕ
end_text Json opts bodies = json_end opts bodies
end_text Pprint opts bodies = block_end opts (records_in opts bodies)
end_text _ opts bodies = []

-- what is written of these records and texts, before the end or with it
abbrev pub written : WriteOpts → List Body → Bool → List ℕ
written opts bodies ended = given opts [] bodies ++ (if ended then end_text opts.format opts bodies else [])
