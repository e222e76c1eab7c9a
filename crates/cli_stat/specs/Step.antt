-- The options of `step`.
use Rattle.std.specs.Prelude.{codes}
use Rattle.cli_grammar.specs.declared.given.VerbWords.{VerbWords}
use Rattle.cli_choices.specs.Choices.{names_after}
use Rattle.cli_choices.specs.Names.{given_names}
use Rattle.cli_stat.specs.Lists.{steppers_after}
use Rattle.verbs_step.specs.declared.step.Step.{Step}

abbrev pub step_of : VerbWords → Step
step_of given = record {
  steppers = steppers_after given.options;
  names = names_after (codes "-f") given.options;
  groups = given_names (codes "-g") given.options;
}
