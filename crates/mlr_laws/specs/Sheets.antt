-- Records that a sheet, a header and a row for each, can carry, and what they are when they are read again.
use Rattle.std.specs.Prelude.{◌≡◌, ℕ, ◌==◌, if◌then◌else◌, Bool, true, false, not, ◌&&◌, ◌||◌, List, [], ◌∷◌, map, length, take, is_some}
use Rattle.std.specs.List.{list_any}
use Rattle.std.specs.Str.{bytes_eq}
use Rattle.mlr_spec.specs.Ascii.{comma, tab}
use Rattle.mlr_spec.specs.Infer.{tree_of_data}
use Rattle.mlr_spec.specs.Json.{joined}
use Rattle.mlr_spec.specs.Pairs.{are_distinct, keys_of}
use Rattle.mlr_spec.specs.Split.{place_in}
use Rattle.mlr_spec.specs.Tree.{Tree}
use Rattle.mlr_lines.specs.Lines.{without_return}
use Rattle.text_forms.specs.Shown.{shown}
use Rattle.read_csv.specs.Fields.{quoted_value}
use Rattle.writers.specs.declared.options.WriteOpts.{WriteOpts}
use Rattle.writers.specs.Csv.{csv_field, never_empty, wants_quotes}
use Rattle.writers.specs.Runs.{Record}
use Rattle.writers.specs.Tsv.{tsv_field}

-- a record as it is read again, each value by what a reader makes of its text
abbrev pub read_again : (List ℕ → Tree) → Record → Record
read_again value r = map (λ field. (field.0, value (shown field.1))) r

-- the texts of the values of a record
abbrev pub texts_of : Record → List (List ℕ)
texts_of r = map (λ field. shown field.1) r

-- a text as data
abbrev pub as_data : List ℕ → Tree
as_data text = tree_of_data (record { none = false; octal = false }) text

-- One record or more that a sheet carries: with fields of the same keys, no two of which are equal, so that each row fits, and
-- so that the header doesn't begin with the byte order mark of UTF-8.
abbrev pub AreRows : (List (List ℕ) → Bool) → List (List ℕ) → List Record → Type 0
AreRows fits keys [] = Unit {0}
AreRows fits keys (r ∷ rs) = (keys_of r ≡ keys) × (fits (texts_of r) ≡ true) × AreRows fits keys rs

abbrev pub is_unmarked : List ℕ → Bool
is_unmarked line = not (bytes_eq (take 3 line) (239 ∷ 187 ∷ 191 ∷ []))

abbrev pub IsSheet : (List (List ℕ) → Bool) → (List (List ℕ) → List ℕ) → List Record → Type 0
IsSheet fits line [] = ⊥
IsSheet fits line (r ∷ rs) =
    (are_distinct (keys_of r) ≡ true) × (fits (keys_of r) ≡ true) × (is_unmarked (line (keys_of r)) ≡ true) × AreRows fits (keys_of r) (r ∷ rs)

-- TSV: the line of texts, without its line ending; it fits if it isn't empty and no CR is its last byte
abbrev pub tsv_text : List (List ℕ) → List ℕ
tsv_text all = joined (tab ∷ []) (map tsv_field all)

abbrev pub fits_tsv : List (List ℕ) → Bool
fits_tsv all = not (length (tsv_text all) == 0) && bytes_eq (without_return (tsv_text all)) (tsv_text all)

-- CSV: the line of texts, without its line ending; every row with fields fits
abbrev pub csv_text : WriteOpts → List (List ℕ) → List ℕ
csv_text opts all = never_empty (joined (comma ∷ []) (map (csv_field opts) all))

abbrev pub fits_csv : List (List ℕ) → Bool
fits_csv all = not (length all == 0)

-- a text that is written in quotes is read as a text, and any other as data
abbrev pub is_quoted : WriteOpts → List ℕ → Bool
is_quoted opts text = opts.quote_all || list_any wants_quotes text || is_some (place_in opts.ofs text)

abbrev pub csv_value : WriteOpts → List ℕ → Tree
csv_value opts text = if is_quoted opts text then quoted_value text else as_data text
