-- What the main flags of a command line set.
use Rattle.std.specs.Prelude.{ℕ, ℤ, pos, ◌^◌, true, false, List, [], ◌∷◌, codes, Option, Some, None}
use Rattle.mlr_event.specs.declared.options.Format.{Format}
use Rattle.mlr_event.specs.declared.options.Format.TheVariants.{Dkvp, Pprint}
use Rattle.mlr_event.specs.declared.options.Comments.TheVariants as comment
use Rattle.cli_grammar.specs.declared.flag_table.Setting.{Setting}
use Rattle.cli_grammar.specs.declared.flag_table.Setting.TheVariants as set
use Rattle.cli_grammar.specs.declared.given.Given.{Given}
use Rattle.cli_grammar.specs.Kinds.{format_named}
use Rattle.cli_grammar.specs.Numbers.{int_in}
use Rattle.cli_grammar.specs.Separators.{separator_in}
use Rattle.cli_plan.specs.declared.settings.Settings.{Settings}
use Rattle.cli_plan.specs.Flags.{setting_of, word_of}

-- the settings of a command line without flags
abbrev pub plain : Settings
plain = record {
  input = Dkvp;
  output = Dkvp;
  ifs = None;
  ips = None;
  ofs = None;
  ops = None;
  flatsep = None;
  implicit = false;
  headerless = false;
  ragged = false;
  dedupe = true;
  quote_all = false;
  barred = false;
  stacked = true;
  listwrap = true;
  flattens = true;
  unflattens = true;
  comments = comment.Keep;
  infer = record { none = false; octal = false };
  no_input = false;
  per_batch = 500;
  turns = 10 ^ 9;
  serial = false;
}

-- the format that a word names, or else what came before
abbrev pub format_or : Format → List ℕ → Format
format_or before word = elim (format_named word) [ Some fmt ↦ fmt | None ↦ before ]

abbrev pub natural_or : ℕ → Option ℤ → ℕ
natural_or before (Some (pos n)) = n
natural_or before _ = before

-- the number in a word, or else what came before
abbrev pub number_or : ℕ → List ℕ → ℕ
number_or before word = natural_or before (int_in word)

-- what a flag sets that gives no format, no separator, no comments and no number
abbrev pub switched : Settings → Setting → Settings
switched settings set.Implicit = record settings { implicit = true }
switched settings set.Headerless = record settings { headerless = true }
switched settings set.Ragged = record settings { ragged = true }
switched settings (set.Dedupe dedupe) = record settings { dedupe = dedupe }
switched settings set.QuoteAll = record settings { quote_all = true }
switched settings set.Barred = record settings { barred = true }
switched settings (set.Stacked stacked) = record settings { stacked = stacked }
switched settings (set.Listwrap listwrap) = record settings { listwrap = listwrap }
switched settings set.NoFlatten = record settings { flattens = false }
switched settings set.NoUnflatten = record settings { unflattens = false }
switched settings set.InferNone = record settings { infer = record settings.infer { none = true } }
switched settings set.InferOctal = record settings { infer = record settings.infer { octal = true } }
switched settings set.NoInput = record settings { no_input = true }
switched settings set.Serial = record settings { serial = true }
switched settings _ = settings

-- what a flag that gives a number sets
abbrev pub numbered : Settings → Setting → List ℕ → Settings
numbered settings set.PerBatch word = record settings { per_batch = number_or settings.per_batch word }
numbered settings set.Turns word = record settings { turns = number_or settings.turns word }
numbered settings setting word = switched settings setting

-- what a flag of comments sets
abbrev pub commented : Settings → Setting → List ℕ → Settings
commented settings set.Skip word = record settings { comments = comment.Skip (codes "#") }
commented settings set.Pass word = record settings { comments = comment.Pass (codes "#") }
commented settings set.SkipWith word = record settings { comments = comment.Skip word }
commented settings set.PassWith word = record settings { comments = comment.Pass word }
commented settings setting word = numbered settings setting word

-- what a flag that gives a separator sets
abbrev pub separated : Settings → Setting → List ℕ → Settings
separated settings set.Ifs word = record settings { ifs = separator_in word }
separated settings set.Ofs word = record settings { ofs = separator_in word }
separated settings set.Fs word = record settings { ifs = separator_in word; ofs = separator_in word }
separated settings set.Ips word = record settings { ips = separator_in word }
separated settings set.Ops word = record settings { ops = separator_in word }
separated settings set.Ps word = record settings { ips = separator_in word; ops = separator_in word }
separated settings set.Flatsep word = record settings { flatsep = separator_in word }
separated settings setting word = commented settings setting word

-- the settings after one more flag, which sets this by the word after it
abbrev pub applied : Settings → Setting → List ℕ → Settings
applied settings (set.Input input) word = record settings { input = input }
applied settings (set.Output output) word = record settings { output = output }
applied settings (set.Both input output) word = record settings { input = input; output = output }
applied settings (set.ToBarred input) word = record settings { input = input; output = Pprint; barred = true }
applied settings set.InputNamed word = record settings { input = format_or settings.input word }
applied settings set.OutputNamed word = record settings { output = format_or settings.output word }
applied settings set.BothNamed word = record settings { input = format_or settings.input word; output = format_or settings.output word }
applied settings setting word = separated settings setting word

-- the settings after one more flag; a name that is no flag changes nothing
abbrev pub after_flag : Settings → Given → Settings
after_flag settings flag = elim (setting_of flag) [ Some setting ↦ applied settings setting (word_of flag) | None ↦ settings ]

-- the settings after more flags
abbrev pub after_flags : Settings → List Given → Settings
after_flags settings [] = settings
after_flags settings (flag ∷ flags) = after_flags (after_flag settings flag) flags

-- what the flags of a command line set: a later one wins
abbrev pub settings_in : List Given → Settings
settings_in flags = after_flags plain flags
