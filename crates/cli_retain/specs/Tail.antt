-- The options of `tail`.
use Rattle.std.specs.Prelude.{codes}
use Rattle.cli_grammar.specs.declared.given.VerbWords.{VerbWords}
use Rattle.cli_choices.specs.Choices.{count_or}
use Rattle.cli_choices.specs.Names.{given_names}
use Rattle.verbs_hold.specs.declared.tail.Tail.{Tail}

abbrev pub tail_of : VerbWords → Tail
tail_of given = record {
  count = count_or 10 (codes "-n") given.options;
  groups = given_names (codes "-g") given.options;
}
