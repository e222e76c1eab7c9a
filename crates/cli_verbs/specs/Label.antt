-- The options of `label`.
use Rattle.cli_grammar.specs.declared.given.VerbWords.{VerbWords}
use Rattle.verbs_fields.specs.declared.label.Label.{Label}
use Rattle.cli_choices.specs.Choices.{own_word}
use Rattle.cli_choices.specs.Names.{all_names}

abbrev pub label_of : VerbWords → Label
label_of given = record {
  names = all_names (own_word 0 given);
}
