-- The options of `json-parse`.
use Rattle.std.specs.Prelude.{codes}
use Rattle.cli_grammar.specs.declared.given.VerbWords.{VerbWords}
use Rattle.verbs_values.specs.declared.json_parse.JsonParse.{JsonParse}
use Rattle.cli_choices.specs.Names.{given_names}

abbrev pub json_parse_of : VerbWords → JsonParse
json_parse_of given = record {
  names = given_names (codes "-f") given.options;
}
