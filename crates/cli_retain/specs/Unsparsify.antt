-- The options of `unsparsify`.
use Rattle.std.specs.Prelude.{[], codes}
use Rattle.cli_grammar.specs.declared.given.VerbWords.{VerbWords}
use Rattle.cli_choices.specs.Choices.{word_or}
use Rattle.cli_choices.specs.Names.{given_names}
use Rattle.verbs_hold.specs.declared.unsparsify.Unsparsify.{Unsparsify}

abbrev pub unsparsify_of : VerbWords → Unsparsify
unsparsify_of given = record {
  fill = word_or [] (codes "--fill-with") given.options;
  names = given_names (codes "-f") given.options;
}
