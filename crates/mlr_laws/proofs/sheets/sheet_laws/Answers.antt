use Rattle.std.proofs.Common.{◌≡◌, false, List, ◌∷◌, ◌++◌, [], map, refl, ap, ap₂, ◌∙◌}
use Rattle.mlr_spec.specs.Ascii.{comma, tab}
use Rattle.mlr_spec.specs.Json.{joined}
use Rattle.mlr_spec.specs.Pairs.{keys_of}
use Rattle.mlr_event.specs.declared.options.Format.TheVariants.{Csv, Tsv}
use Rattle.mlr_event.specs.Defaults.{default_read}
use Rattle.read_csv.specs.Rows.{csv_read}
use Rattle.writers.specs.declared.options.WriteOpts.{WriteOpts}
use Rattle.writers.specs.Cells.{shaped}
use Rattle.writers.specs.Csv.{csv_field, csv_line, never_empty}
use Rattle.writers.specs.Tsv.{tsv_field, tsv_line}
use Rattle.writers.specs.Runs.{Record, sheet}
use Rattle.mlr_laws.specs.Sheets.{as_data, csv_text, csv_value, fits_csv, fits_tsv, texts_of, tsv_text}
use Rattle.mlr_laws.proofs.Reading.{sheet-read}
use Rattle.mlr_laws.proofs.Csv.{csv-format, csv_found}
use Rattle.mlr_laws.proofs.Tsv.{plain_fields, tsv-format}
use Rattle.mlr_laws.proofs.sheets.sheet_laws.Goals as goal

-- the sheet of TSV, by these options
tsv-sheet : (opts : WriteOpts) (rs : List Record) → opts.ofs ≡ tab ∷ [] → opts.headerless ≡ false
    → sheet opts.headerless (λ r. tsv_line opts (keys_of r)) (λ r. tsv_line opts (texts_of r)) rs
    ≡ sheet false (λ r. tsv_text (keys_of r) ++ 10 ∷ []) (λ r. tsv_text (texts_of r) ++ 10 ∷ []) rs
tsv-sheet opts rs separator headers =
    ap₂ (λ none ofs. sheet none (λ r. joined ofs (map tsv_field (keys_of r)) ++ 10 ∷ []) (λ r. joined ofs (map tsv_field (texts_of r)) ++ 10 ∷ []) rs) headers separator

-- the sheet of CSV, by these options
csv-sheet : (opts : WriteOpts) (rs : List Record) → opts.ofs ≡ comma ∷ [] → opts.headerless ≡ false
    → sheet opts.headerless (λ r. csv_line opts (keys_of r)) (λ r. csv_line opts (texts_of r)) rs
    ≡ sheet false (λ r. csv_text opts (keys_of r) ++ 10 ∷ []) (λ r. csv_text opts (texts_of r) ++ 10 ∷ []) rs
csv-sheet opts rs separator headers =
    ap₂ (λ none ofs. sheet none (λ r. never_empty (joined ofs (map (csv_field opts) (keys_of r))) ++ 10 ∷ []) (λ r. never_empty (joined ofs (map (csv_field opts) (texts_of r))) ++ 10 ∷ []) rs)
    headers separator

pub returns-clause-csv : goal.returns-clause-csv
returns-clause-csv c = λ opts rs ended file start is_csv separator headers sound.
    ap (csv_read (default_read Csv) file start) (c.table_laws.ensures.csv opts rs ended is_csv ∙ csv-sheet opts (map (shaped opts) rs) separator headers)
    ∙ sheet-read Csv file (csv_value opts) fits_csv (csv_text opts) (csv_found opts separator) (csv-format opts separator) (record { quoted = false; text = [] } ∷ []) refl start (map (shaped opts) rs) sound

pub returns-clause-tsv : goal.returns-clause-tsv
returns-clause-tsv c = λ opts rs ended file start is_tsv separator headers sound.
    ap (csv_read (default_read Tsv) file start) (c.table_laws.ensures.tsv opts rs ended is_tsv ∙ tsv-sheet opts (map (shaped opts) rs) separator headers)
    ∙ sheet-read Tsv file as_data fits_tsv tsv_text plain_fields tsv-format (plain_fields ([] ∷ [])) refl start (map (shaped opts) rs) sound
