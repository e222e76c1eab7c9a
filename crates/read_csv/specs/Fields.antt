-- A field of a row of CSV or TSV, and its value.
use Rattle.std.specs.Prelude.{ℕ, if◌then◌else◌, Bool, List, [], ◌∷◌}
use Rattle.mlr_spec.specs.Infer.{tree_of_data}
use Rattle.mlr_spec.specs.declared.infer.InferOpts.{InferOpts}
use Rattle.mlr_spec.specs.Tree.{Tree, empty, string}

-- a field: its text, and whether it was quoted
pub record Field : Type 0 where
  pub quoted : Bool
  pub text : List ℕ

-- the value of a field: its type is inferred only if the field isn't quoted
abbrev pub quoted_value : List ℕ → Tree
quoted_value [] = empty
quoted_value (b ∷ text) = string (b ∷ text)

abbrev pub value_of : InferOpts → Field → Tree
value_of opts field = if field.quoted then quoted_value field.text else tree_of_data opts field.text
