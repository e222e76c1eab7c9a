-- The options of `count-distinct`.
use Rattle.std.specs.Prelude.{codes}
use Rattle.cli_grammar.specs.Options.{has}
use Rattle.cli_grammar.specs.declared.given.VerbWords.{VerbWords}
use Rattle.cli_choices.specs.Choices.{names_after, word_or}
use Rattle.verbs_count.specs.declared.count_distinct.CountDistinct.{CountDistinct}

abbrev pub count_distinct_of : VerbWords → CountDistinct
count_distinct_of given = record {
  names = names_after (codes "-f") given.options;
  number = has (codes "-n") given.options;
  output = word_or (codes "count") (codes "-o") given.options;
}
