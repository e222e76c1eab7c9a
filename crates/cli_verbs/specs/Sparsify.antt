-- The options of `sparsify`.
use Rattle.std.specs.Prelude.{codes}
use Rattle.cli_grammar.specs.declared.given.VerbWords.{VerbWords}
use Rattle.verbs_fields.specs.declared.sparsify.Sparsify.{Sparsify}
use Rattle.cli_choices.specs.Names.{given_names}

abbrev pub sparsify_of : VerbWords → Sparsify
sparsify_of given = record {
  names = given_names (codes "-f") given.options;
}
