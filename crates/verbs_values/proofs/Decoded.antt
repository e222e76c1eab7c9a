-- The value that a text is decoded to, by the grammar.
use Rattle.std.proofs.Common.{◌≡◌, ℕ, ◌+◌, List, length, refl, ap, sym}
use Rattle.mlr_spec.specs.JsonGrammar.{IsJson, HasSyntaxFault, HasDeepFault}
use Rattle.mlr_spec.specs.JsonTokens.{tokens_of}
use Rattle.mlr_spec.specs.Tree.{Tree, error}
use Rattle.mlr_json.specs.Answer.{Says}
use Rattle.mlr_json.specs.Machine.{Outcome, read, syntax, deep, outcome_of}
use Rattle.mlr_json.specs.Readable.{plain}
use Rattle.mlr_json.proofs.GrammarAnswer.{outcome-says, outcome-only}
use Rattle.verbs_values.specs.JsonValues.{value_or_error, decoded}

said : (text : List ℕ) (outcome : Outcome) → Says plain text outcome → decoded text ≡ value_or_error outcome
unfolding decoded
said text outcome says = ap value_or_error (sym (outcome-only plain text outcome says))

pub decoded-value : (text : List ℕ) (value : Tree) → IsJson plain text value → decoded text ≡ value
decoded-value text value is = said text (read value) is

pub decoded-syntax : (text : List ℕ) (place : ℕ) → HasSyntaxFault plain text place → decoded text ≡ error
decoded-syntax text place fault = said text (syntax place) fault

pub decoded-deep : (text : List ℕ) (place : ℕ) → HasDeepFault plain text place → decoded text ≡ error
decoded-deep text place fault = said text (deep place) fault

module _ (text : List ℕ) (none : (value : Tree) → IsJson plain text value → ⊥) where
  no_value : (outcome : Outcome) → Says plain text outcome → value_or_error outcome ≡ error
  no_value (read value) says = absurd (none value says)
  no_value (syntax place) says = refl
  no_value (deep place) says = refl

  pub decoded-none : decoded text ≡ error
  unfolding decoded
  decoded-none = no_value (outcome_of (length text + 1) (tokens_of plain text)) (outcome-says plain text)
