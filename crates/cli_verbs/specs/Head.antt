-- The options of `head`.
use Rattle.std.specs.Prelude.{codes}
use Rattle.cli_grammar.specs.declared.given.VerbWords.{VerbWords}
use Rattle.verbs_state.specs.declared.head.Head.{Head}
use Rattle.cli_choices.specs.Choices.{count_or}
use Rattle.cli_choices.specs.Names.{given_names}

abbrev pub head_of : VerbWords → Head
head_of given = record {
  count = count_or 10 (codes "-n") given.options;
  groups = given_names (codes "-g") given.options;
}
