-- A row that is read under the names of a header, field by field.
use Rattle.std.specs.Prelude.{◌≡◌, ◌<◌, ◌^◌, ℕ, List, [], ◌∷◌, length, Option, Some, None}
use Rattle.std.specs.List.{zip}
use Rattle.mlr_spec.specs.Tree.{Tree}
use Rattle.mlr_event.specs.declared.names.FileRef.{FileRef}
use Rattle.mlr_event.specs.declared.options.ReadOpts.{ReadOpts}
use Rattle.mlr_event.specs.Reading.{distinct_names, fields}
use Rattle.read_csv.specs.Headers.{closed_values, values_header}
use Rattle.read_csv.specs.OpenRow.{Reading, RowState, csv_reading}

-- a row with these values, and no open quote
abbrev pub with_values : List Tree → RowState
with_values values = record { values = values; quotes = None }

-- the reading of the remaining text, if there is one
abbrev pub left_reading : List ℕ → Option (List ℕ) → Reading
left_reading separator None = record { fields = []; left_open = None }
left_reading separator (Some text) = csv_reading separator text

-- the record of a row that has a value for each name of the header, under the distinct names
pub record IsNamed (header : List (List ℕ)) (row : RowState) (made : List (List ℕ × Tree)) : Type 0 where
  pub closed : row.quotes ≡ None
  pub full : length row.values ≡ length header
  pub few : length header < 2 ^ 62
  pub pairs : made ≡ zip (distinct_names header) row.values

-- the record that an ended row gives under the header
pub record IsGiven (opts : ReadOpts) (header : Option (List (List ℕ))) (row : RowState) (made : List (List ℕ × Tree)) : Type 0 where
  pub closed : row.quotes ≡ None
  pub kept : values_header opts header row.values ≡ header
  pub items : (file : FileRef) (line : ℕ) → closed_values opts file line header row.values ≡ fields made ∷ []
