-- What the bytes of an input give, and the inputs of a run one after another.
use Rattle.std.specs.Prelude.{ℕ, ◌+◌, Bool, true, false, not, ◌&&◌, if◌then◌else◌, List, [], ◌∷◌, ◌++◌, is_some}
use Rattle.std.specs.List.{list_any}
use Rattle.mlr_event.specs.declared.event.Ctx.{Ctx}
use Rattle.mlr_event.specs.declared.event.Event.{Event}
use Rattle.mlr_event.specs.declared.event.Event.TheVariants.{Rec, Text, Out, End, Fault}
use Rattle.mlr_event.specs.declared.names.FileRef.{FileRef}
use Rattle.mlr_event.specs.declared.names.FileRef.TheVariants.{Main}
use Rattle.mlr_event.specs.declared.names.InputName.{InputName}
use Rattle.mlr_event.specs.declared.options.Format.{Format}
use Rattle.mlr_event.specs.declared.options.Format.TheVariants as format
use Rattle.mlr_event.specs.declared.options.ReadOpts.{ReadOpts}
use Rattle.mlr_event.specs.Verb.{is_fault}
use Rattle.mlr_world.specs.Taken.{Take}
use Rattle.read_csv.specs.Rows.{csv_fed, csv_read}
use Rattle.read_dkvp_nidx.specs.Lines.{line_fed, line_read}
use Rattle.read_xtab_pprint.specs.Blocks.{block_fed, block_read}
use Rattle.read_json_lines.specs.Json.{json_fed, json_read}
use Rattle.read_files.specs.Takes.{stops_at}

-- a file that is read: with which options, as which input, and after which record
pub record Source : Type 0 where
  pub opts : ReadOpts
  pub file : FileRef
  pub ctx : Ctx

-- the events of bytes that were taken: of a whole file if its end was met, else those that the bytes fix
abbrev pub Gives : Type 0
Gives = Bool → List ℕ → List Event

abbrev pub gives_by : (ReadOpts → FileRef → Ctx → List ℕ → List Event) → (ReadOpts → FileRef → Ctx → List ℕ → List Event) → Source → Gives
gives_by fed whole source true bytes = whole source.opts source.file source.ctx bytes
gives_by fed whole source false bytes = fed source.opts source.file source.ctx bytes

-- what a source gives by the reader of a format
abbrev pub gives_as : Format → Source → Gives
gives_as format.Csv source = gives_by csv_fed csv_read source
gives_as format.Tsv source = gives_by csv_fed csv_read source
gives_as format.Dkvp source = gives_by line_fed line_read source
gives_as format.Nidx source = gives_by line_fed line_read source
gives_as format.Markdown source = gives_by line_fed line_read source
gives_as format.Xtab source = gives_by block_fed block_read source
gives_as format.Pprint source = gives_by block_fed block_read source
gives_as format.Json source = gives_by json_fed json_read source
gives_as format.Jsonl source = gives_by json_fed json_read source

-- before the first input
abbrev pub zero_context : Ctx
zero_context = record { nr = 0; fnr = 0; filenum = 0 }

-- before the first record of the next input
abbrev pub next_file : Ctx → Ctx
next_file ctx = record { nr = ctx.nr; fnr = 0; filenum = ctx.filenum + 1 }

-- what is taken of the next input gives
abbrev pub take_gives : ReadOpts → Ctx → Take → List Event
take_gives opts ctx take = gives_as opts.format (record { opts = opts; file = Main (ctx.filenum + 1); ctx = next_file ctx }) take.ended take.bytes

-- the context of the last record, or the first context
abbrev pub ctx_after_events : Ctx → List Event → Ctx
ctx_after_events ctx [] = ctx
ctx_after_events ctx (Rec fields at ∷ events) = ctx_after_events at events
ctx_after_events ctx (Text text ∷ events) = ctx_after_events ctx events
ctx_after_events ctx (Out target piece ∷ events) = ctx_after_events ctx events
ctx_after_events ctx (End at ∷ events) = ctx_after_events ctx events
ctx_after_events ctx (Fault fault ∷ events) = ctx_after_events ctx events

-- the context after the next input: the number of the last record, how many records this input has, and how
-- many inputs there were
abbrev pub ctx_after_take : ReadOpts → Ctx → Take → Ctx
ctx_after_take opts ctx take = ctx_after_events (next_file ctx) (take_gives opts ctx take)

-- what inputs give one after another, and the context after them
abbrev pub events_from : ReadOpts → Ctx → List Take → List Event
events_from opts ctx [] = []
events_from opts ctx (take ∷ takes) = take_gives opts ctx take ++ events_from opts (ctx_after_take opts ctx take) takes

abbrev pub ctx_from : ReadOpts → Ctx → List Take → Ctx
ctx_from opts ctx [] = ctx
ctx_from opts ctx (take ∷ takes) = ctx_from opts (ctx_after_take opts ctx take) takes

-- events up to the first fault
abbrev pub until_fault : List Event → List Event
until_fault [] = []
until_fault (e ∷ events) = e ∷ (if is_fault e then [] else until_fault events)

-- what the inputs give so far
abbrev pub events_taken : ReadOpts → List Take → List Event
events_taken opts takes = until_fault (events_from opts zero_context takes)

-- all inputs were read whole, without a fault
abbrev pub is_whole : ReadOpts → List InputName → List Take → Bool
is_whole opts names takes = not (is_some (stops_at names takes)) && not (list_any is_fault (events_taken opts takes))

-- the same with the end, which follows all of them
abbrev pub source : ReadOpts → List InputName → List Take → List Event
source opts names takes = events_taken opts takes ++ (if is_whole opts names takes then End (ctx_from opts zero_context takes) ∷ [] else [])
