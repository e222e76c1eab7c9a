use Rattle.std.proofs.Common.{◌∙◌, ℕ, List, map, false}
use Rattle.mlr_event.specs.declared.options.Format.TheVariants.{Csv, Tsv, Markdown}
use Rattle.writers.specs.declared.form.Part.TheVariants.{Keys, Values}
use Rattle.writers.specs.Cells.{shaped, texts}
use Rattle.writers.specs.Csv.{csv_line}
use Rattle.writers.specs.Markdown.{markdown_header, markdown_line}
use Rattle.writers.specs.Runs.{Record, sheet}
use Rattle.writers.specs.Tsv.{tsv_line}
use Rattle.writers.proofs.Tables.{sheet-grows, sheet-none}
use Rattle.writers.proofs.Wholes.{no-end, written-whole}
use Rattle.writers.proofs.laws.table_laws.Goals as goal

pub returns-clause-csv : goal.returns-clause-csv
returns-clause-csv c = λ opts rs ended format_is.
    let header : Record → List ℕ = λ r. csv_line opts (texts Keys r) in
    let row : Record → List ℕ = λ r. csv_line opts (texts Values r) in
    let whole = sheet opts.headerless header row in
    written-whole Csv opts format_is whole (sheet-none header row opts.headerless) (sheet-grows header row opts.headerless) rs ended ∙ no-end ended (whole (map (shaped opts) rs))

pub returns-clause-tsv : goal.returns-clause-tsv
returns-clause-tsv c = λ opts rs ended format_is.
    let header : Record → List ℕ = λ r. tsv_line opts (texts Keys r) in
    let row : Record → List ℕ = λ r. tsv_line opts (texts Values r) in
    let whole = sheet opts.headerless header row in
    written-whole Tsv opts format_is whole (sheet-none header row opts.headerless) (sheet-grows header row opts.headerless) rs ended ∙ no-end ended (whole (map (shaped opts) rs))

pub returns-clause-markdown : goal.returns-clause-markdown
returns-clause-markdown c = λ opts rs ended format_is.
    let header : Record → List ℕ = λ r. markdown_header (texts Keys r) in
    let row : Record → List ℕ = λ r. markdown_line (texts Values r) in
    let whole = sheet false header row in
    written-whole Markdown opts format_is whole (sheet-none header row false) (sheet-grows header row false) rs ended ∙ no-end ended (whole (map (shaped opts) rs))
