-- The cells of the fields of a record.
use Rattle.std.proofs.Common.{◌≡◌, ℕ, ◌≤◌, suc, ◌∙◌, List, [], ◌∷◌, ◌++◌, append_assoc, drop, length, refl, ap, ap₂, sym}
use Rattle.std.specs.List.{flat_map}
use Rattle.std.proofs.lemmas.List.{append-nil}
use Rattle.mlr_record.specs.Fields.{pairs_of}
use Rattle.mlr_record.specs.declared.record.Field.{Field}
use Rattle.mlr_spec.specs.Pairs.{keys_of}
use Rattle.mlr_value.specs.Value.{tree_of}
use Rattle.text_forms.specs.Shown.{shown}
use Rattle.text_columns.specs.Chunks.{cell_code, length_code, line_code}
use Rattle.text_columns.specs.Pprint.{values_of}
use Rattle.text_columns.proofs.Walks.{drop-end}

abbrev pub key_cell : Field → List ℕ
key_cell field = cell_code field.name

abbrev pub value_cell : Field → List ℕ
value_cell field = cell_code (shown (tree_of field.value))

pub key-cells : (fields : List Field) → flat_map key_cell fields ≡ flat_map cell_code (keys_of (pairs_of fields))
key-cells [] = refl
key-cells (field ∷ fields) = ap (λ t. key_cell field ++ t) (key-cells fields)

pub value-cells : (fields : List Field) → flat_map value_cell fields ≡ flat_map cell_code (values_of (pairs_of fields))
value-cells [] = refl
value-cells (field ∷ fields) = ap (λ t. value_cell field ++ t) (value-cells fields)

-- a line whose cells have all been appended
module _ (cell : Field → List ℕ) (fields : List Field) (line : List (List ℕ)) (old : List ℕ) (many : length line ≡ length fields) (cells : flat_map cell fields ≡ flat_map cell_code line) where
  pub line-written : (place : ℕ) (begun new : List ℕ) → length fields ≤ place → begun ≡ old ++ length_code (length fields)
      → new ++ flat_map cell (drop place fields) ≡ begun ++ flat_map cell fields → new ≡ old ++ line_code line
  line-written place begun new all begins is =
      sym (append-nil new)
      ∙ ap (λ left. new ++ flat_map cell left) (sym (drop-end fields place all))
      ∙ is ∙ ap₂ (λ a b. a ++ b) begins cells
      ∙ append_assoc old (length_code (length fields)) (flat_map cell_code line)
      ∙ ap (λ n. old ++ (length_code n ++ flat_map cell_code line)) (sym many)

pub keys-many : (fields : List Field) → length (keys_of (pairs_of fields)) ≡ length fields
keys-many [] = refl
keys-many (field ∷ fields) = ap suc (keys-many fields)

pub values-many : (fields : List Field) → length (values_of (pairs_of fields)) ≡ length fields
values-many [] = refl
values-many (field ∷ fields) = ap suc (values-many fields)
