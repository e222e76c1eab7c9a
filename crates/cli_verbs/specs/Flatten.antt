-- The options of `flatten`.
use Rattle.std.specs.Prelude.{ℕ, List, codes}
use Rattle.cli_grammar.specs.declared.given.VerbWords.{VerbWords}
use Rattle.verbs_values.specs.declared.flatten.Flatten.{Flatten}
use Rattle.cli_choices.specs.Choices.{separator_or}
use Rattle.cli_choices.specs.Names.{given_names}

abbrev pub flatten_of : List ℕ → VerbWords → Flatten
flatten_of flatsep given = record {
  names = given_names (codes "-f") given.options;
  separator = separator_or flatsep (codes "-s") given.options;
}
