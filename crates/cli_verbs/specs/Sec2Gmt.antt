-- The options of `sec2gmt`.
use Rattle.cli_grammar.specs.declared.given.VerbWords.{VerbWords}
use Rattle.verbs_values.specs.declared.sec2gmt.Sec2Gmt.{Sec2Gmt}
use Rattle.cli_choices.specs.Choices.{own_word}
use Rattle.cli_choices.specs.Names.{names_in}

abbrev pub sec2gmt_of : VerbWords → Sec2Gmt
sec2gmt_of given = record {
  names = names_in (own_word 0 given);
}
