-- What a file gives in each format.
use Rattle.std.proofs.Common.{◌≡◌, ℕ, Bool, true, false, not, ◌&&◌, List, [], ◌∷◌, ◌++◌, Some, None, refl, ap, ap₂, ◌∙◌}
use Rattle.std.specs.List.{list_any}
use Rattle.mlr_event.specs.declared.event.Ctx.{Ctx}
use Rattle.mlr_event.specs.declared.event.Event.{Event}
use Rattle.mlr_event.specs.declared.event.Event.TheVariants as event
use Rattle.mlr_event.specs.declared.names.FileRef.{FileRef}
use Rattle.mlr_event.specs.declared.options.Format.{Format}
use Rattle.mlr_event.specs.declared.options.Format.TheVariants as format
use Rattle.mlr_event.specs.declared.options.ReadOpts.{ReadOpts}
use Rattle.mlr_event.specs.Reading.{Item, comment, fields, fault, next, events_of, ctx_after}
use Rattle.mlr_event.specs.Verb.{is_end, is_last, is_list, is_part}
use Rattle.mlr_json.specs.Reading.{lexemes_left}
use Rattle.mlr_lines.specs.Lines.{begun_line, ended_lines, fixed_lines, whole_lines}
use Rattle.mlr_spec.specs.JsonTokens.{lexeme_outside}
use Rattle.read_csv.specs.Rows.{csv_fed, csv_items, csv_read}
use Rattle.read_dkvp_nidx.specs.Lines.{items_of_lines, line_fed, line_read}
use Rattle.read_xtab_pprint.specs.Blocks.{block_fed, block_read, items_fixed, items_whole}
use Rattle.read_json_lines.specs.Json.{file_items, json_fed, json_read}
use Rattle.read_files.specs.Sources.{Source, ctx_after_events, gives_as}

-- the events of items are a part
no-end : (at : Ctx) (items : List Item) → list_any is_end (events_of at items) ≡ false
no-end at [] = refl
no-end at (comment text ∷ items) = no-end at items
no-end at (fields pairs ∷ items) = no-end (next at) items
no-end at (fault f ∷ items) = refl

then-list : (e : Event) (events : List Event) → is_last e ≡ false → is_list events ≡ true → is_list (e ∷ events) ≡ true
then-list e [] inner list = refl
then-list e (f ∷ events) inner list = ap₂ (λ a b. not a && b) inner list

events-list : (at : Ctx) (items : List Item) → is_list (events_of at items) ≡ true
events-list at [] = refl
events-list at (comment text ∷ items) = then-list (event.Text text) (events_of at items) refl (events-list at items)
events-list at (fields pairs ∷ items) = then-list (event.Rec pairs (next at)) (events_of (next at) items) refl (events-list (next at) items)
events-list at (fault f ∷ items) = refl

events-part : (at : Ctx) (items : List Item) → is_part (events_of at items) ≡ true
events-part at items = ap₂ (λ a b. not a && b) (no-end at items) (events-list at items)

-- the context after them, which keeps the number of the file
pub events-ctx : (at : Ctx) (items : List Item) → ctx_after at items ≡ ctx_after_events at (events_of at items)
events-ctx at [] = refl
events-ctx at (comment text ∷ items) = events-ctx at items
events-ctx at (fields pairs ∷ items) = events-ctx (next at) items
events-ctx at (fault f ∷ items) = refl

events-filenum : (at : Ctx) (items : List Item) → (ctx_after_events at (events_of at items)).filenum ≡ at.filenum
events-filenum at [] = refl
events-filenum at (comment text ∷ items) = events-filenum at items
events-filenum at (fields pairs ∷ items) = events-filenum (next at) items
events-filenum at (fault f ∷ items) = refl

-- every format gives the events of some items
abbrev Items : Source → List Event → Type 0
Items source events = (items : List Item) × (events ≡ events_of source.ctx items)

csv-items : (source : Source) (all : Bool) (bytes : List ℕ) → Items source (gives_as format.Csv source all bytes)
csv-items source true bytes = (csv_items source.opts source.file (Some (begun_line bytes)) (ended_lines bytes), refl)
csv-items source false bytes = (csv_items source.opts source.file None (ended_lines bytes), refl)

line-items : (source : Source) (all : Bool) (bytes : List ℕ) → Items source (gives_as format.Dkvp source all bytes)
line-items source true bytes = (items_of_lines source.opts source.file source.opts.format (whole_lines bytes), refl)
line-items source false bytes = (items_of_lines source.opts source.file source.opts.format (fixed_lines bytes), refl)

block-items : (source : Source) (all : Bool) (bytes : List ℕ) → Items source (gives_as format.Xtab source all bytes)
block-items source true bytes = (items_whole source.opts source.file source.opts.format (whole_lines bytes), refl)
block-items source false bytes = (items_fixed source.opts source.file source.opts.format (fixed_lines bytes), refl)

json-items : (source : Source) (all : Bool) (bytes : List ℕ) → Items source (gives_as format.Json source all bytes)
json-items source true bytes = (file_items true source.opts.infer source.file bytes, refl)
json-items source false bytes = (file_items false source.opts.infer source.file bytes, refl)

items-as : (fmt : Format) (source : Source) (all : Bool) (bytes : List ℕ) → Items source (gives_as fmt source all bytes)
items-as format.Csv source all bytes = csv-items source all bytes
items-as format.Tsv source all bytes = csv-items source all bytes
items-as format.Json source all bytes = json-items source all bytes
items-as format.Jsonl source all bytes = json-items source all bytes
items-as format.Dkvp source all bytes = line-items source all bytes
items-as format.Nidx source all bytes = line-items source all bytes
items-as format.Xtab source all bytes = block-items source all bytes
items-as format.Pprint source all bytes = block-items source all bytes
items-as format.Markdown source all bytes = line-items source all bytes

pub gives-part : (fmt : Format) (source : Source) (all : Bool) (bytes : List ℕ) → is_part (gives_as fmt source all bytes) ≡ true
gives-part fmt source all bytes = let found = items-as fmt source all bytes in ap is_part found.1 ∙ events-part source.ctx found.0

pub gives-filenum : (fmt : Format) (source : Source) (all : Bool) (bytes : List ℕ) → (ctx_after_events source.ctx (gives_as fmt source all bytes)).filenum ≡ source.ctx.filenum
gives-filenum fmt source all bytes =
    let found = items-as fmt source all bytes in ap (λ e. (ctx_after_events source.ctx e).filenum) found.1 ∙ events-filenum source.ctx found.0

-- no bytes give nothing
no-lines : (opts : ReadOpts) (file : FileRef) (fmt : Format) → items_of_lines opts file fmt [] ≡ []
no-lines opts file format.Csv = refl
no-lines opts file format.Tsv = refl
no-lines opts file format.Json = refl
no-lines opts file format.Jsonl = refl
no-lines opts file format.Dkvp = refl
no-lines opts file format.Nidx = refl
no-lines opts file format.Xtab = refl
no-lines opts file format.Pprint = refl
no-lines opts file format.Markdown = refl

no-blocks : (opts : ReadOpts) (file : FileRef) (fmt : Format) → items_fixed opts file fmt [] ≡ []
no-blocks opts file format.Csv = refl
no-blocks opts file format.Tsv = refl
no-blocks opts file format.Json = refl
no-blocks opts file format.Jsonl = refl
no-blocks opts file format.Dkvp = refl
no-blocks opts file format.Nidx = refl
no-blocks opts file format.Xtab = refl
no-blocks opts file format.Pprint = refl
no-blocks opts file format.Markdown = refl

line-none : (source : Source) → line_fed source.opts source.file source.ctx [] ≡ []
line-none source = ap (events_of source.ctx) (no-lines source.opts source.file source.opts.format)

block-none : (source : Source) → block_fed source.opts source.file source.ctx [] ≡ []
block-none source = ap (events_of source.ctx) (no-blocks source.opts source.file source.opts.format)

json-none : (source : Source) → json_fed source.opts source.file source.ctx [] ≡ []
unfolding lexemes_left lexeme_outside
json-none source = refl

pub gives-none : (fmt : Format) (source : Source) → gives_as fmt source false [] ≡ []
gives-none format.Csv source = refl
gives-none format.Tsv source = refl
gives-none format.Json source = json-none source
gives-none format.Jsonl source = json-none source
gives-none format.Dkvp source = line-none source
gives-none format.Nidx source = line-none source
gives-none format.Xtab source = block-none source
gives-none format.Pprint source = block-none source
gives-none format.Markdown source = line-none source

-- the laws of a reader, and what they say of each format: more bytes, or the end, give more events
abbrev pub Law : (ReadOpts → FileRef → Ctx → List ℕ → List Event) → (ReadOpts → FileRef → Ctx → List ℕ → List Event) → Type 0
Law fed later = (opts : ReadOpts) (file : FileRef) (start : Ctx) (bytes rest : List ℕ) → (more : List Event) × (later opts file start (bytes ++ rest) ≡ fed opts file start bytes ++ more)

abbrev pub Growth : Type 0
Growth = (fmt : Format) (source : Source) (all : Bool) (bytes rest : List ℕ) → (more : List Event) × (gives_as fmt source all (bytes ++ rest) ≡ gives_as fmt source false bytes ++ more)

module _ (csv-fed : Law csv_fed csv_fed) (csv-read : Law csv_fed csv_read) (line-fed : Law line_fed line_fed) (line-read : Law line_fed line_read)
    (block-fed : Law block_fed block_fed) (block-read : Law block_fed block_read) (json-fed : Law json_fed json_fed) (json-read : Law json_fed json_read) where
  abbrev Grows : Format → Type 0
  Grows fmt = (source : Source) (all : Bool) (bytes rest : List ℕ) → (more : List Event) × (gives_as fmt source all (bytes ++ rest) ≡ gives_as fmt source false bytes ++ more)

  csv : Grows format.Csv
  csv source true bytes rest = csv-read source.opts source.file source.ctx bytes rest
  csv source false bytes rest = csv-fed source.opts source.file source.ctx bytes rest

  line : Grows format.Dkvp
  line source true bytes rest = line-read source.opts source.file source.ctx bytes rest
  line source false bytes rest = line-fed source.opts source.file source.ctx bytes rest

  block : Grows format.Xtab
  block source true bytes rest = block-read source.opts source.file source.ctx bytes rest
  block source false bytes rest = block-fed source.opts source.file source.ctx bytes rest

  json : Grows format.Json
  json source true bytes rest = json-read source.opts source.file source.ctx bytes rest
  json source false bytes rest = json-fed source.opts source.file source.ctx bytes rest

  pub growth : Growth
  growth format.Csv = csv
  growth format.Tsv = csv
  growth format.Json = json
  growth format.Jsonl = json
  growth format.Dkvp = line
  growth format.Nidx = line
  growth format.Xtab = block
  growth format.Pprint = block
  growth format.Markdown = line
