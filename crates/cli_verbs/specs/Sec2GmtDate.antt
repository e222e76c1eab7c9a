-- The options of `sec2gmtdate`.
use Rattle.cli_grammar.specs.declared.given.VerbWords.{VerbWords}
use Rattle.verbs_values.specs.declared.sec2gmtdate.Sec2GmtDate.{Sec2GmtDate}
use Rattle.cli_choices.specs.Choices.{own_word}
use Rattle.cli_choices.specs.Names.{names_in}

abbrev pub sec2gmtdate_of : VerbWords → Sec2GmtDate
sec2gmtdate_of given = record {
  names = names_in (own_word 0 given);
}
