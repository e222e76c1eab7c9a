-- The options of `decimate`.
use Rattle.std.specs.Prelude.{codes}
use Rattle.cli_grammar.specs.Options.{has}
use Rattle.cli_grammar.specs.declared.given.VerbWords.{VerbWords}
use Rattle.verbs_state.specs.declared.decimate.Decimate.{Decimate}
use Rattle.cli_choices.specs.Choices.{count_or}
use Rattle.cli_choices.specs.Names.{given_names}

abbrev pub decimate_of : VerbWords → Decimate
decimate_of given = record {
  count = count_or 10 (codes "-n") given.options;
  first = has (codes "-b") given.options;
  groups = given_names (codes "-g") given.options;
}
