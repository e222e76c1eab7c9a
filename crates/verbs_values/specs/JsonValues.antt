-- Values as JSON texts and back.
use Rattle.std.specs.Prelude.{ℕ, ◌+◌, List, length}
use Rattle.mlr_spec.specs.declared.json.JsonStyle.TheVariants.{Single}
use Rattle.mlr_spec.specs.Json.{json_text}
use Rattle.mlr_spec.specs.JsonGrammar.{text_value}
use Rattle.mlr_spec.specs.JsonTokens.{tokens_of}
use Rattle.mlr_spec.specs.Tree.{Tree, error}
use Rattle.mlr_json.specs.Machine.{Outcome, read, syntax, deep, outcome_of}
use Rattle.mlr_json.specs.Readable.{plain}

-- the JSON text of a value, on one line, as a string
abbrev pub encoded : Tree → Tree
encoded value = text_value (json_text Single value)

-- the value that parsing gives; it is error if the text isn't one JSON value of at most 100 levels
abbrev pub value_or_error : Outcome → Tree
value_or_error (read value) = value
value_or_error (syntax place) = error
value_or_error (deep place) = error

unfoldable pub decoded : List ℕ → Tree
decoded text = value_or_error (outcome_of (length text + 1) (tokens_of plain text))
