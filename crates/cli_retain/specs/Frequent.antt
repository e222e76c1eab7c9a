-- The options of `most-frequent` and `least-frequent`.
use Rattle.std.specs.Prelude.{codes}
use Rattle.cli_grammar.specs.Options.{has}
use Rattle.cli_grammar.specs.declared.given.VerbWords.{VerbWords}
use Rattle.cli_choices.specs.Choices.{count_or, names_after, word_or}
use Rattle.verbs_count.specs.declared.frequent.Frequent.{Frequent}

abbrev pub frequent_of : VerbWords → Frequent
frequent_of given = record {
  names = names_after (codes "-f") given.options;
  brief = has (codes "-b") given.options;
  count = count_or 10 (codes "-n") given.options;
  output = word_or (codes "count") (codes "-o") given.options;
}
