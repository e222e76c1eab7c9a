-- The options of `gap`.
use Rattle.std.specs.Prelude.{codes, if◌then◌else◌}
use Rattle.cli_grammar.specs.Options.{has}
use Rattle.cli_grammar.specs.declared.given.VerbWords.{VerbWords}
use Rattle.verbs_state.specs.declared.gap.Gap.{Gap}
use Rattle.verbs_state.specs.declared.gap.Gap.TheVariants.{Count, Groups}
use Rattle.cli_choices.specs.Choices.{count_or, names_after}

abbrev pub gap_of : VerbWords → Gap
gap_of given = if has (codes "-g") given.options then Groups (names_after (codes "-g") given.options) else Count (count_or 1 (codes "-n") given.options)
