-- The options of `count`.
use Rattle.std.specs.Prelude.{codes}
use Rattle.cli_grammar.specs.Options.{has}
use Rattle.cli_grammar.specs.declared.given.VerbWords.{VerbWords}
use Rattle.cli_choices.specs.Choices.{word_or}
use Rattle.cli_choices.specs.Names.{given_names}
use Rattle.verbs_count.specs.declared.count.Count.{Count}

abbrev pub count_of : VerbWords → Count
count_of given = record {
  groups = given_names (codes "-g") given.options;
  number = has (codes "-n") given.options;
  output = word_or (codes "count") (codes "-o") given.options;
}
