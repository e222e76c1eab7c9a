-- The verb `json-parse`.
use Rattle.std.specs.Prelude.{Bool, true, if◌then◌else◌}
use Rattle.mlr_spec.specs.Tree.{Tree, string, is_number, text_of}
use Rattle.verbs_base.specs.Changing.{is_taken, changed}
use Rattle.verbs_base.specs.Records.{Fields}
use Rattle.verbs_values.specs.declared.json_parse.JsonParse.{JsonParse}
use Rattle.verbs_values.specs.JsonValues.{decoded}

-- whether a value is parsed: a string or a number
abbrev pub is_parsed : Tree → Bool
is_parsed (string text) = true
is_parsed value = is_number value

abbrev pub parsed : Tree → Tree
parsed value = if is_parsed value then decoded (text_of value) else value

abbrev pub json_parse : JsonParse → Fields → Fields
json_parse verb fields = changed (is_taken verb.names) parsed fields
