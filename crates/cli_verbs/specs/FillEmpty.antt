-- The options of `fill-empty`.
use Rattle.std.specs.Prelude.{codes}
use Rattle.cli_grammar.specs.Options.{has}
use Rattle.cli_grammar.specs.declared.given.VerbWords.{VerbWords}
use Rattle.verbs_values.specs.declared.fill_empty.FillEmpty.{FillEmpty}
use Rattle.cli_choices.specs.Choices.{word_or}

abbrev pub fill_empty_of : VerbWords → FillEmpty
fill_empty_of given = record {
  text = word_or (codes "N/A") (codes "-v") given.options;
  as_string = has (codes "-S") given.options;
}
