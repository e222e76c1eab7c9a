-- The options of `cat`.
use Rattle.std.specs.Prelude.{Bool, ◌||◌, codes}
use Rattle.cli_grammar.specs.Options.{has}
use Rattle.cli_grammar.specs.declared.given.VerbWords.{VerbWords}
use Rattle.verbs_state.specs.declared.cat.Cat.{Cat}
use Rattle.cli_choices.specs.Choices.{word_or}
use Rattle.cli_choices.specs.Names.{given_names}

-- whether each record gets its number: `-N` names the field, too
abbrev pub is_numbered : VerbWords → Bool
is_numbered given = has (codes "-n") given.options || has (codes "-N") given.options

abbrev pub cat_of : VerbWords → Cat
cat_of given = record {
  number = is_numbered given;
  name = word_or (codes "n") (codes "-N") given.options;
  groups = given_names (codes "-g") given.options;
}
