-- The options of `nest`.
use Rattle.std.specs.Prelude.{ℕ, ◌||◌, List, [], codes, if◌then◌else◌}
use Rattle.cli_grammar.specs.Options.{has}
use Rattle.cli_grammar.specs.declared.given.VerbWords.{VerbWords}
use Rattle.cli_choices.specs.Choices.{separator_or, word_or}
use Rattle.verbs_nest.specs.declared.nest.Nest.{Nest}
use Rattle.verbs_nest.specs.declared.nest.NestForm.{NestForm}
use Rattle.verbs_nest.specs.declared.nest.NestForm.TheVariants.{Implode, PairsAcrossFields, PairsAcrossRecords, ValuesAcrossFields, ValuesAcrossRecords}

-- the form of an explosion of values, and of pairs
abbrev pub form_of_values : VerbWords → NestForm
form_of_values given = if has (codes "--across-fields") given.options then ValuesAcrossFields else ValuesAcrossRecords

abbrev pub form_of_pairs : VerbWords → NestForm
form_of_pairs given = if has (codes "--across-fields") given.options then PairsAcrossFields else PairsAcrossRecords

-- the form that the options make together
abbrev pub form_of : VerbWords → NestForm
form_of given =
    if has (codes "--implode") given.options || has (codes "--ivar") given.options then Implode else (
    if has (codes "--pairs") given.options then form_of_pairs given else form_of_values given)

-- the option that names the separator of pieces
abbrev pub separator_option : VerbWords → List ℕ
separator_option given =
    if has (codes "--evar") given.options then codes "--evar" else (
    if has (codes "--ivar") given.options then codes "--ivar" else codes "--nested-fs")

abbrev pub nest_of : VerbWords → Nest
nest_of given = record {
  field = word_or [] (codes "-f") given.options;
  form = form_of given;
  separator = separator_or (codes ";") (separator_option given) given.options;
  pair_separator = separator_or (codes ":") (codes "--nested-ps") given.options;
}
