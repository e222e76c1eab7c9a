-- The names of `group-by`.
use Rattle.std.specs.Prelude.{ℕ, List}
use Rattle.cli_grammar.specs.declared.given.VerbWords.{VerbWords}
use Rattle.cli_choices.specs.Choices.{own_word}
use Rattle.cli_choices.specs.Names.{names_in}

abbrev pub group_by_of : VerbWords → List (List ℕ)
group_by_of given = names_in (own_word 0 given)
