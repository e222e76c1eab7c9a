-- The main flags of a command line.
use Rattle.std.specs.Prelude.{ℕ, pos, ◌^◌, true, false, List, [], ◌∷◌, codes, if◌then◌else◌, Option, Some, None}
use Rattle.std.specs.Str.{bytes_eq}
use Rattle.mlr_event.specs.declared.options.Format.TheVariants.{Csv, Tsv, Json, Jsonl, Dkvp, Nidx, Xtab, Pprint, Markdown}
use Rattle.cli_grammar.specs.declared.kind.Kind.{Kind}
use Rattle.cli_grammar.specs.declared.kind.Kind.TheVariants as kind
use Rattle.cli_grammar.specs.declared.flag_table.Setting.{Setting}
use Rattle.cli_grammar.specs.declared.flag_table.Setting.TheVariants as set

-- A main flag: its name, what the word after it is, and what it sets.
pub record FlagRow : Type 0 where
  pub name : List ℕ
  pub follows : Kind
  pub sets : Setting

-- the records of a batch, and the turns of a loop
abbrev pub batch : Kind
batch = kind.Number (pos 1) (pos (10 ^ 6))

abbrev pub turns : Kind
turns = kind.Number (pos 1) (pos (10 ^ 18))

abbrev pub row : List ℕ → Kind → Setting → FlagRow
row name follows sets = record { name = name; follows = follows; sets = sets }

abbrev pub flag_rows : List FlagRow
flag_rows =
    row (codes "--allow-ragged-csv-input") kind.Nothing set.Ragged ∷
    row (codes "--barred") kind.Nothing set.Barred ∷
    row (codes "--c2b") kind.Nothing (set.ToBarred Csv) ∷
    row (codes "--c2d") kind.Nothing (set.Both Csv Dkvp) ∷
    row (codes "--c2j") kind.Nothing (set.Both Csv Json) ∷
    row (codes "--c2l") kind.Nothing (set.Both Csv Jsonl) ∷
    row (codes "--c2m") kind.Nothing (set.Both Csv Markdown) ∷
    row (codes "--c2n") kind.Nothing (set.Both Csv Nidx) ∷
    row (codes "--c2p") kind.Nothing (set.Both Csv Pprint) ∷
    row (codes "--c2t") kind.Nothing (set.Both Csv Tsv) ∷
    row (codes "--c2x") kind.Nothing (set.Both Csv Xtab) ∷
    row (codes "--csv") kind.Nothing (set.Both Csv Csv) ∷
    row (codes "--dedupe-field-names") kind.Nothing (set.Dedupe true) ∷
    row (codes "--dkvp") kind.Nothing (set.Both Dkvp Dkvp) ∷
    row (codes "--dsl-turns") turns set.Turns ∷
    row (codes "--flatsep") kind.Separator set.Flatsep ∷
    row (codes "--from") kind.File set.From ∷
    row (codes "--fs") kind.Separator set.Fs ∷
    row (codes "--headerless-csv-output") kind.Nothing set.Headerless ∷
    row (codes "--hi") kind.Nothing set.Implicit ∷
    row (codes "--ho") kind.Nothing set.Headerless ∷
    row (codes "--icsv") kind.Nothing (set.Input Csv) ∷
    row (codes "--idkvp") kind.Nothing (set.Input Dkvp) ∷
    row (codes "--ifs") kind.Separator set.Ifs ∷
    row (codes "--ijson") kind.Nothing (set.Input Json) ∷
    row (codes "--ijsonl") kind.Nothing (set.Input Jsonl) ∷
    row (codes "--imd") kind.Nothing (set.Input Markdown) ∷
    row (codes "--implicit-csv-header") kind.Nothing set.Implicit ∷
    row (codes "--infer-none") kind.Nothing set.InferNone ∷
    row (codes "--infer-octal") kind.Nothing set.InferOctal ∷
    row (codes "--inidx") kind.Nothing (set.Input Nidx) ∷
    row (codes "--io") kind.Format set.BothNamed ∷
    row (codes "--ipprint") kind.Nothing (set.Input Pprint) ∷
    row (codes "--ips") kind.Separator set.Ips ∷
    row (codes "--itsv") kind.Nothing (set.Input Tsv) ∷
    row (codes "--ixtab") kind.Nothing (set.Input Xtab) ∷
    row (codes "--j2b") kind.Nothing (set.ToBarred Json) ∷
    row (codes "--j2c") kind.Nothing (set.Both Json Csv) ∷
    row (codes "--j2d") kind.Nothing (set.Both Json Dkvp) ∷
    row (codes "--j2l") kind.Nothing (set.Both Json Jsonl) ∷
    row (codes "--j2m") kind.Nothing (set.Both Json Markdown) ∷
    row (codes "--j2n") kind.Nothing (set.Both Json Nidx) ∷
    row (codes "--j2p") kind.Nothing (set.Both Json Pprint) ∷
    row (codes "--j2t") kind.Nothing (set.Both Json Tsv) ∷
    row (codes "--j2x") kind.Nothing (set.Both Json Xtab) ∷
    row (codes "--jlistwrap") kind.Nothing (set.Listwrap true) ∷
    row (codes "--json") kind.Nothing (set.Both Json Json) ∷
    row (codes "--jsonl") kind.Nothing (set.Both Jsonl Jsonl) ∷
    row (codes "--jvstack") kind.Nothing (set.Stacked true) ∷
    row (codes "--l2b") kind.Nothing (set.ToBarred Jsonl) ∷
    row (codes "--l2c") kind.Nothing (set.Both Jsonl Csv) ∷
    row (codes "--l2d") kind.Nothing (set.Both Jsonl Dkvp) ∷
    row (codes "--l2j") kind.Nothing (set.Both Jsonl Json) ∷
    row (codes "--l2m") kind.Nothing (set.Both Jsonl Markdown) ∷
    row (codes "--l2n") kind.Nothing (set.Both Jsonl Nidx) ∷
    row (codes "--l2p") kind.Nothing (set.Both Jsonl Pprint) ∷
    row (codes "--l2t") kind.Nothing (set.Both Jsonl Tsv) ∷
    row (codes "--l2x") kind.Nothing (set.Both Jsonl Xtab) ∷
    row (codes "--nidx") kind.Nothing (set.Both Nidx Nidx) ∷
    row (codes "--no-auto-flatten") kind.Nothing set.NoFlatten ∷
    row (codes "--no-auto-unflatten") kind.Nothing set.NoUnflatten ∷
    row (codes "--no-color") kind.Nothing set.NoEffect ∷
    row (codes "--no-dedupe-field-names") kind.Nothing (set.Dedupe false) ∷
    row (codes "--no-jlistwrap") kind.Nothing (set.Listwrap false) ∷
    row (codes "--no-jvstack") kind.Nothing (set.Stacked false) ∷
    row (codes "--ocsv") kind.Nothing (set.Output Csv) ∷
    row (codes "--odkvp") kind.Nothing (set.Output Dkvp) ∷
    row (codes "--ofs") kind.Separator set.Ofs ∷
    row (codes "--ojson") kind.Nothing (set.Output Json) ∷
    row (codes "--ojsonl") kind.Nothing (set.Output Jsonl) ∷
    row (codes "--omd") kind.Nothing (set.Output Markdown) ∷
    row (codes "--onidx") kind.Nothing (set.Output Nidx) ∷
    row (codes "--opprint") kind.Nothing (set.Output Pprint) ∷
    row (codes "--ops") kind.Separator set.Ops ∷
    row (codes "--otsv") kind.Nothing (set.Output Tsv) ∷
    row (codes "--oxtab") kind.Nothing (set.Output Xtab) ∷
    row (codes "--pass-comments") kind.Nothing set.Pass ∷
    row (codes "--pass-comments-with") kind.Prefix set.PassWith ∷
    row (codes "--pprint") kind.Nothing (set.Both Pprint Pprint) ∷
    row (codes "--ps") kind.Separator set.Ps ∷
    row (codes "--quote-all") kind.Nothing set.QuoteAll ∷
    row (codes "--ragged") kind.Nothing set.Ragged ∷
    row (codes "--records-per-batch") batch set.PerBatch ∷
    row (codes "--serial") kind.Nothing set.Serial ∷
    row (codes "--skip-comments") kind.Nothing set.Skip ∷
    row (codes "--skip-comments-with") kind.Prefix set.SkipWith ∷
    row (codes "--t2b") kind.Nothing (set.ToBarred Tsv) ∷
    row (codes "--t2c") kind.Nothing (set.Both Tsv Csv) ∷
    row (codes "--t2d") kind.Nothing (set.Both Tsv Dkvp) ∷
    row (codes "--t2j") kind.Nothing (set.Both Tsv Json) ∷
    row (codes "--t2l") kind.Nothing (set.Both Tsv Jsonl) ∷
    row (codes "--t2m") kind.Nothing (set.Both Tsv Markdown) ∷
    row (codes "--t2n") kind.Nothing (set.Both Tsv Nidx) ∷
    row (codes "--t2p") kind.Nothing (set.Both Tsv Pprint) ∷
    row (codes "--t2x") kind.Nothing (set.Both Tsv Xtab) ∷
    row (codes "--tsv") kind.Nothing (set.Both Tsv Tsv) ∷
    row (codes "--xtab") kind.Nothing (set.Both Xtab Xtab) ∷
    row (codes "-M") kind.Nothing set.NoEffect ∷
    row (codes "-O") kind.Nothing set.InferOctal ∷
    row (codes "-S") kind.Nothing set.InferNone ∷
    row (codes "-c") kind.Nothing (set.Both Csv Csv) ∷
    row (codes "-i") kind.Format set.InputNamed ∷
    row (codes "-j") kind.Nothing (set.Both Json Json) ∷
    row (codes "-n") kind.Nothing set.NoInput ∷
    row (codes "-o") kind.Format set.OutputNamed ∷
    row (codes "-t") kind.Nothing (set.Both Tsv Tsv) ∷
    []

-- the first of these flags with this name: what the word after it is, and what it sets
abbrev pub row_named : List FlagRow → List ℕ → Option (Kind × Setting)
row_named [] word = None
row_named (row ∷ rows) word = if bytes_eq row.name word then Some (row.follows, row.sets) else row_named rows word

-- the main flag with this name
abbrev pub flag_named : List ℕ → Option (Kind × Setting)
flag_named word = row_named flag_rows word
