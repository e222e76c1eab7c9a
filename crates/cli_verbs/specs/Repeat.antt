-- The options of `repeat`.
use Rattle.std.specs.Prelude.{[], codes, if◌then◌else◌}
use Rattle.cli_grammar.specs.Options.{has}
use Rattle.cli_grammar.specs.declared.given.VerbWords.{VerbWords}
use Rattle.verbs_state.specs.declared.repeat.Repeat.{Repeat}
use Rattle.verbs_state.specs.declared.repeat.Repeat.TheVariants.{Count, Field}
use Rattle.cli_choices.specs.Choices.{count_or, word_or}

abbrev pub repeat_of : VerbWords → Repeat
repeat_of given = if has (codes "-f") given.options then Field (word_or [] (codes "-f") given.options) else Count (count_or 0 (codes "-n") given.options)
