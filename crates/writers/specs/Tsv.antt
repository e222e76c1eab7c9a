-- TSV: tab, newline and backslash are written as `\t`, `\n` and `\\`.
use Rattle.std.specs.Prelude.{ℕ, ◌==◌, if◌then◌else◌, List, [], ◌∷◌, ◌++◌, map, codes}
use Rattle.std.specs.List.{flat_map}
use Rattle.mlr_spec.specs.Ascii.{tab, line_feed, backslash}
use Rattle.mlr_spec.specs.Json.{joined}
use Rattle.writers.specs.declared.form.Part.TheVariants.{Keys, Values}
use Rattle.writers.specs.declared.options.WriteOpts.{WriteOpts}
use Rattle.writers.specs.Cells.{texts}
use Rattle.writers.specs.Headed.{headed}
use Rattle.writers.specs.Runs.{Record}

abbrev pub tsv_escaped : ℕ → List ℕ
tsv_escaped b =
    if b == tab then codes "\\t" else (
    if b == line_feed then codes "\\n" else (
    if b == backslash then codes "\\\\" else b ∷ []))

abbrev pub tsv_field : List ℕ → List ℕ
tsv_field text = flat_map tsv_escaped text

abbrev pub tsv_line : WriteOpts → List (List ℕ) → List ℕ
tsv_line opts fields = joined opts.ofs (map tsv_field fields) ++ line_feed ∷ []

-- what a record gives after the records before it
abbrev pub tsv_record : WriteOpts → List Record → Record → List ℕ
tsv_record opts before r = headed opts.headerless before r (tsv_line opts (texts Keys r)) (tsv_line opts (texts Values r))
