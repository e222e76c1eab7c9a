-- The options of `fill-down`.
use Rattle.std.specs.Prelude.{codes}
use Rattle.cli_grammar.specs.Options.{has}
use Rattle.cli_grammar.specs.declared.given.VerbWords.{VerbWords}
use Rattle.verbs_state.specs.declared.fill_down.FillDown.{FillDown}
use Rattle.cli_choices.specs.Choices.{names_after}

abbrev pub fill_down_of : VerbWords → FillDown
fill_down_of given = record {
  names = names_after (codes "-f") given.options;
  blank = has (codes "-a") given.options;
}
