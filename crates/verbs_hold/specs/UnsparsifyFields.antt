-- `unsparsify -f`: each named field that a record lacks is appended.
use Rattle.std.specs.Prelude.{ℕ, List, [], ◌∷◌, ◌++◌, Some, None}
use Rattle.std.specs.List.{fold}
use Rattle.mlr_spec.specs.JsonGrammar.{text_value}
use Rattle.mlr_spec.specs.Pairs.{value_at}
use Rattle.verbs_base.specs.Records.{Fields}

abbrev pub fill_missing : List ℕ → Fields → List ℕ → Fields
fill_missing fill fields name = elim (value_at name fields) [ Some value ↦ fields | None ↦ fields ++ (name, text_value fill) ∷ [] ]

abbrev pub unsparsify_fields : List ℕ → List (List ℕ) → Fields → Fields
unsparsify_fields fill names fields = fold (fill_missing fill) fields names
