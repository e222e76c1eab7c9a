-- What is written of worked examples: each computes to the text beside it.
use Rattle.std.specs.Prelude.{◌≡◌, ℕ, Bool, true, false, List, [], ◌∷◌, ◌++◌, map, codes, refl, pos}
use Rattle.bstr.specs.Utf8.{pieces_from}
use Rattle.mlr_spec.specs.declared.json.JsonStyle.TheVariants.{Single}
use Rattle.mlr_spec.specs.Json.{json_record}
use Rattle.mlr_spec.specs.Tree.{string, int, empty, map_of}
use Rattle.mlr_event.specs.declared.event.Body.{Body}
use Rattle.mlr_event.specs.declared.event.Body.TheVariants.{Rec, Text}
use Rattle.mlr_event.specs.declared.options.Format.{Format}
use Rattle.mlr_event.specs.declared.options.Format.TheVariants.{Csv, Tsv, Json, Jsonl, Dkvp, Nidx, Xtab, Pprint, Markdown}
use Rattle.writers.specs.declared.options.WriteOpts.{WriteOpts}
use Rattle.writers.specs.declared.form.Part.TheVariants.{Keys, Values}
use Rattle.writers.specs.Cells.{texts}
use Rattle.writers.specs.Csv.{csv_line}
use Rattle.writers.specs.Pprint.{block}
use Rattle.writers.specs.Runs.{Record, all_but_last, line_end_after, list_begun, list_of, runs_of, sheet, tables, wants_line_end}
use Rattle.text_columns.specs.Xtab.{xtab_lines}
use Rattle.writers.specs.Written.{written}

abbrev opts : Format → WriteOpts
opts format = record {
  format = format;
  ofs = codes ",";
  ops = codes "=";
  headerless = false;
  quote_all = false;
  barred = false;
  stacked = false;
  listwrap = true;
  flatten = false;
  unflatten = false;
  flatsep = codes ".";
}

-- `a=1,bcd=`, `a=20,bcd=5`, a text, `e=6`
abbrev bodies : List Body
bodies =
    Rec ((codes "a", int (pos 1) (codes "1")) ∷ (codes "bcd", empty) ∷ [])
    ∷ Rec ((codes "a", int (pos 20) (codes "20")) ∷ (codes "bcd", int (pos 5) (codes "5")) ∷ [])
    ∷ Text (codes "[text]\n")
    ∷ Rec ((codes "e", int (pos 6) (codes "6")) ∷ []) ∷ []

csv : written (opts Csv) bodies true ≡ codes "a,bcd\n1,\n20,5\n[text]\n\ne\n6\n"
csv = refl

csv_open : written (opts Csv) bodies false ≡ codes "a,bcd\n1,\n20,5\n[text]\n\ne\n6\n"
csv_open = refl

csv_quotes : written (opts Csv) (Rec ((codes "a,b", string (codes "say \"x\"")) ∷ (codes "c", string (13 ∷ [])) ∷ []) ∷ []) true
    ≡ codes "\"a,b\",c\n\"say \"\"x\"\"\",\"\r\"\n"
csv_quotes = refl

csv_empty_line : written (opts Csv) (Rec ((codes "a", empty) ∷ []) ∷ Rec [] ∷ Rec ((codes "a", empty) ∷ []) ∷ []) true
    ≡ codes "a\n\"\"\n\na\n\"\"\n"
csv_empty_line = refl

csv_collection : written (opts Csv) (Rec ((codes "a", map_of ((codes "b", int (pos 1) (codes "1")) ∷ [])) ∷ []) ∷ []) true
    ≡ codes "a\n\"{\"\"b\"\": 1}\"\n"
csv_collection = refl

tsv : written (opts Tsv) (Rec ((codes "a", string (codes "x\ty\\z")) ∷ (codes "b", empty) ∷ []) ∷ []) true ≡ codes "a,b\nx\\ty\\\\z,\n"
tsv = refl

dkvp : written (opts Dkvp) (Rec [] ∷ bodies) true ≡ codes "\na=1,bcd=\na=20,bcd=5\n[text]\ne=6\n"
dkvp = refl

nidx : written (opts Nidx) bodies true ≡ codes "1,\n20,5\n[text]\n6\n"
nidx = refl

json : written (opts Json) bodies true ≡ codes "[\n{\"a\": 1, \"bcd\": \"\"},\n{\"a\": 20, \"bcd\": 5}\n[text]\n,\n{\"e\": 6}\n]\n"
json = refl

json_open : written (opts Json) bodies false ≡ codes "[\n{\"a\": 1, \"bcd\": \"\"},\n{\"a\": 20, \"bcd\": 5}\n[text]\n,\n{\"e\": 6}"
json_open = refl

json_without_records : written (opts Json) (Text (codes "[text]\n") ∷ []) true ≡ codes "[text]\n[\n]\n"
json_without_records = refl

jsonl : written (opts Jsonl) bodies true ≡ codes "{\"a\": 1, \"bcd\": \"\"}\n{\"a\": 20, \"bcd\": 5}\n[text]\n{\"e\": 6}\n"
jsonl = refl

xtab : written (opts Xtab) bodies true ≡ codes "a   1\nbcd \n\na   20\nbcd 5\n[text]\n\ne 6\n"
unfolding pieces_from
xtab = refl

pprint : written (opts Pprint) bodies true ≡ codes "[text]\na  bcd\n1  -\n20 5\n\ne\n6\n"
unfolding pieces_from
pprint = refl

-- the last block is open
pprint_open : written (opts Pprint) bodies false ≡ codes "[text]\na  bcd\n1  -\n20 5\n"
unfolding pieces_from
pprint_open = refl

pprint_barred : written (record (opts Pprint) { barred = true }) (Rec ((codes "a", string (195 ∷ 169 ∷ [])) ∷ (codes "b c", empty) ∷ []) ∷ []) true
    ≡ codes "+---+-----+\n| a | b c |\n+---+-----+\n| " ++ 195 ∷ 169 ∷ codes " | -   |\n+---+-----+\n"
unfolding pieces_from
pprint_barred = refl

markdown : written (opts Markdown) bodies true
    ≡ codes "| a | bcd |\n| --- | --- |\n| 1 |  |\n| 20 | 5 |\n[text]\n\n| e |\n| --- |\n| 6 |\n"
markdown = refl

markdown_bar : written (opts Markdown) (Rec ((codes "a", string (codes "x|y")) ∷ []) ∷ []) true ≡ codes "| a |\n| --- |\n| x\\|y |\n"
markdown_bar = refl

-- `a=1`, `a=2`, no fields, `a=3`, `b=4`: runs, and what the laws say of them
abbrev one : ℕ → ℕ → Record
one key digit = (key ∷ [], string (digit ∷ [])) ∷ []

abbrev records : List Record
records = one 97 49 ∷ one 97 50 ∷ [] ∷ one 97 51 ∷ one 98 52 ∷ []

runs : runs_of records ≡ (one 97 49 ∷ one 97 50 ∷ []) ∷ [] ∷ (one 97 51 ∷ []) ∷ (one 98 52 ∷ []) ∷ []
runs = refl

csv_sheet : Bool → List ℕ
csv_sheet headerless = sheet headerless (λ r. csv_line (opts Csv) (texts Keys r)) (λ r. csv_line (opts Csv) (texts Values r)) records

csv_tables : csv_sheet false ≡ codes "a\n1\n2\n\na\n3\n\nb\n4\n"
unfolding csv_sheet
csv_tables = refl

csv_rows : csv_sheet true ≡ codes "1\n2\n3\n4\n"
unfolding csv_sheet
csv_rows = refl

csv_written : written (opts Csv) (map Rec records) false ≡ codes "a\n1\n2\n\na\n3\n\nb\n4\n"
csv_written = refl

pprint_blocks : tables (block (opts Pprint)) (runs_of records) ≡ codes "a\n1\n2\n\na\n3\n\nb\n4\n"
unfolding pieces_from
pprint_blocks = refl

pprint_held : tables (block (opts Pprint)) (all_but_last (runs_of records)) ≡ codes "a\n1\n2\n\na\n3\n"
unfolding pieces_from
pprint_held = refl

xtab_tables : tables xtab_lines records ≡ codes "a 1\n\na 2\n\na 3\n\nb 4\n"
unfolding pieces_from
xtab_tables = refl

json_list : list_of (json_record Single) (one 97 49 ∷ one 98 52 ∷ []) ≡ codes "[\n{\"a\": \"1\"},\n{\"b\": \"4\"}\n]\n"
json_list = refl

json_begun : list_begun (json_record Single) (one 97 49 ∷ one 98 52 ∷ []) ≡ codes "[\n{\"a\": \"1\"},\n{\"b\": \"4\"}"
json_begun = refl

json_none : (list_of (json_record Single) [] ≡ codes "[\n]\n") × (list_begun (json_record Single) [] ≡ [])
json_none = (refl, refl)

-- a line end is missing after a record of a list, and a text or the end writes it
line_ends : (line_end_after bodies ≡ codes "\n") × (line_end_after (bodies ++ Text [] ∷ []) ≡ []) × (wants_line_end bodies true ≡ false) × (wants_line_end [] true ≡ true)
line_ends = (refl, refl, refl, refl)
