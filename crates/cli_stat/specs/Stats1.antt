-- The options of `stats1`.
use Rattle.std.specs.Prelude.{codes}
use Rattle.cli_grammar.specs.declared.given.VerbWords.{VerbWords}
use Rattle.cli_choices.specs.Choices.{names_after}
use Rattle.cli_choices.specs.Names.{given_names}
use Rattle.cli_stat.specs.Lists.{accumulators_after}
use Rattle.verbs_summary.specs.declared.stats1.Stats1.{Stats1}

abbrev pub stats1_of : VerbWords → Stats1
stats1_of given = record {
  accumulators = accumulators_after given.options;
  names = names_after (codes "-f") given.options;
  groups = given_names (codes "-g") given.options;
}
