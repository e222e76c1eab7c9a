-- What a text is, by the grammar: a value, or its first fault with the place of the fault.
use Rattle.std.specs.Prelude.{◌≡◌, ℕ, List}
use Rattle.mlr_spec.specs.declared.infer.InferOpts.{InferOpts}
use Rattle.mlr_spec.specs.JsonGrammar.{IsJson, HasSyntaxFault, HasDeepFault}
use Rattle.mlr_json.specs.Machine.{Outcome, read, syntax, deep}

abbrev pub Says : InferOpts → List ℕ → Outcome → Type 0
Says opts text (read value) = IsJson opts text value
Says opts text (syntax place) = HasSyntaxFault opts text place
Says opts text (deep place) = HasDeepFault opts text place

-- a text is one thing
pub record HasOneOutcome (opts : InferOpts) (text : List ℕ) : Type 0 where
  pub outcome : Outcome
  pub says : Says opts text outcome
  pub only : (other : Outcome) → Says opts text other → other ≡ outcome
