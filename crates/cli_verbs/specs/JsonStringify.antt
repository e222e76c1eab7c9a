-- The options of `json-stringify`.
use Rattle.std.specs.Prelude.{codes}
use Rattle.cli_grammar.specs.declared.given.VerbWords.{VerbWords}
use Rattle.verbs_values.specs.declared.json_stringify.JsonStringify.{JsonStringify}
use Rattle.cli_choices.specs.Names.{given_names}

abbrev pub json_stringify_of : VerbWords → JsonStringify
json_stringify_of given = record {
  names = given_names (codes "-f") given.options;
}
