-- The token of a word.
use Rattle.std.proofs.Common.{◌≡◌, ℕ, List, Option, Some, None, refl, ap, ◌∙◌}
use Rattle.std.specs.Option.{option_map}
use Rattle.mlr_spec.specs.declared.infer.InferOpts.{InferOpts}
use Rattle.mlr_spec.specs.Tree.{Tree}
use Rattle.mlr_spec.specs.JsonTokens.{Token, word_token, word_value, token_of_word}
use Rattle.mlr_value.specs.declared.value.Value.{Value}
use Rattle.mlr_value.specs.Value.{tree_of}
use Rattle.read_json_lines.specs.Streams.{token_of_value}

abbrev token_of : Option Tree → Option Token
token_of tree = elim tree [ Some value ↦ Some (word_token value) | None ↦ None ]

value-token : (value : Option Value) → token_of_value value ≡ token_of (option_map tree_of value)
value-token None = refl
value-token (Some value) = refl

pub word-token : (value : Option Value) (opts : InferOpts) (text : List ℕ) → option_map tree_of value ≡ word_value opts text → token_of_value value ≡ token_of_word opts text
word-token value opts text is = value-token value ∙ ap token_of is
