-- The options of `sort-within-records`.
use Rattle.std.specs.Prelude.{codes}
use Rattle.cli_grammar.specs.Options.{has}
use Rattle.cli_grammar.specs.declared.given.VerbWords.{VerbWords}
use Rattle.verbs_fields.specs.declared.sort_within_records.SortWithinRecords.{SortWithinRecords}

abbrev pub sort_within_records_of : VerbWords → SortWithinRecords
sort_within_records_of given = record { deep = has (codes "-r") given.options }
