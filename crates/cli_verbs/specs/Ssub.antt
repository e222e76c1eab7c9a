-- The options of `ssub`.
use Rattle.cli_grammar.specs.declared.given.VerbWords.{VerbWords}
use Rattle.verbs_pattern.specs.declared.ssub.Ssub.{Ssub}
use Rattle.cli_choices.specs.Choices.{own_word}
use Rattle.cli_verbs.specs.SubFields.{sub_fields_of}

abbrev pub ssub_of : VerbWords → Ssub
ssub_of given = record { fields = sub_fields_of given; old = own_word 0 given; by = own_word 1 given }
