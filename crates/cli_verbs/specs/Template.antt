-- The options of `template`.
use Rattle.std.specs.Prelude.{[], codes}
use Rattle.cli_grammar.specs.declared.given.VerbWords.{VerbWords}
use Rattle.verbs_fields.specs.declared.template.Template.{Template}
use Rattle.cli_choices.specs.Choices.{names_after, word_or}

abbrev pub template_of : VerbWords → Template
template_of given = record {
  names = names_after (codes "-f") given.options;
  fill = word_or [] (codes "--fill-with") given.options;
}
