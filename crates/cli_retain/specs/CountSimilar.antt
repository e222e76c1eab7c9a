-- The options of `count-similar`.
use Rattle.std.specs.Prelude.{codes}
use Rattle.cli_grammar.specs.declared.given.VerbWords.{VerbWords}
use Rattle.cli_choices.specs.Choices.{names_after, word_or}
use Rattle.verbs_hold.specs.declared.count_similar.CountSimilar.{CountSimilar}

abbrev pub count_similar_of : VerbWords → CountSimilar
count_similar_of given = record {
  groups = names_after (codes "-g") given.options;
  output = word_or (codes "count") (codes "-o") given.options;
}
