-- The fields that `sub`, `gsub` and `ssub` change.
use Rattle.std.specs.Prelude.{codes, if◌then◌else◌}
use Rattle.cli_grammar.specs.Options.{has}
use Rattle.cli_grammar.specs.declared.given.VerbWords.{VerbWords}
use Rattle.verbs_pattern.specs.declared.sub_fields.SubFields.{SubFields}
use Rattle.verbs_pattern.specs.declared.sub_fields.SubFields.TheVariants.{All, Named}
use Rattle.cli_choices.specs.Choices.{names_after}

abbrev pub sub_fields_of : VerbWords → SubFields
sub_fields_of given = if has (codes "-a") given.options then All else Named (names_after (codes "-f") given.options)
