-- A row that is read line by line: the values of its ended fields, and the text within an open quote.
use Rattle.std.specs.Prelude.{ℕ, zero, suc, ◌+◌, if◌then◌else◌, Bool, false, ◌&&◌, ◌==◌, List, [], ◌∷◌, ◌++◌, map, length, drop, Option, Some, None, unwrap_or}
use Rattle.std.specs.Option.{option_map}
use Rattle.mlr_spec.specs.Ascii.{quote_mark}
use Rattle.mlr_spec.specs.declared.infer.InferOpts.{InferOpts}
use Rattle.mlr_spec.specs.Tree.{Tree}
use Rattle.mlr_value.specs.Value.{tree_of}
use Rattle.mlr_record.specs.declared.record.Field.{Field as NamedField}
use Rattle.mlr_event.specs.declared.options.Format.TheVariants as format
use Rattle.mlr_event.specs.declared.options.ReadOpts.{ReadOpts}
use Rattle.read_csv.specs.Csv.{quoted_at, before_next, after_next, first_field}
use Rattle.read_csv.specs.Fields.{Field, quoted_value, value_of}
use Rattle.read_csv.specs.Tsv.{tsv_fields}

-- the text after an opening quote that isn't closed, where two quotes are one
abbrev pub open_text : List ℕ → List ℕ
open_text [] = []
open_text (b ∷ []) = b ∷ []
open_text (b ∷ c ∷ text) = if b == quote_mark && c == quote_mark then quote_mark ∷ open_text text else b ∷ open_text (c ∷ text)

-- the text after an opening quote, up to the closing quote or the end of the text
abbrev pub inside : List ℕ → List ℕ
inside text = elim (quoted_at text) [ Some q ↦ q.content | None ↦ open_text text ]

-- the text after the closing quote, if there is one
abbrev pub after_quotes : List ℕ → Option (List ℕ)
after_quotes text = option_map (λ q. q.following) (quoted_at text)

abbrev pub starts_quoted : List ℕ → Bool
starts_quoted [] = false
starts_quoted (b ∷ text) = b == quote_mark

-- the ended fields of a text, and the text within the last field's quote if it is open
pub record Reading : Type 0 where
  pub fields : List Field
  pub left_open : Option (List ℕ)

abbrev pub after_field : Field → Reading → Reading
after_field field more = record { fields = field ∷ more.fields; left_open = more.left_open }

abbrev pub reading_from : ℕ → List ℕ → List ℕ → Reading
reading_from zero separator text = record { fields = []; left_open = Some [] }
reading_from (suc n) separator text = elim (first_field separator text) [
  | None ↦ record { fields = []; left_open = Some (open_text (drop 1 text)) }
  | Some first ↦ elim first.following [
    | None ↦ record { fields = first.field ∷ []; left_open = None }
    | Some rest ↦ after_field first.field (reading_from n separator rest)
  ]
]

-- the reading of one line of a row, by the format
abbrev pub csv_reading : List ℕ → List ℕ → Reading
csv_reading separator text = reading_from (length text + 1) separator text

abbrev pub tsv_reading : List ℕ → List ℕ → Reading
tsv_reading separator text = record { fields = tsv_fields separator text; left_open = None }

abbrev pub row_reading : ReadOpts → List ℕ → Reading
row_reading opts text = elim opts.format [
  | format.Tsv ↦ tsv_reading opts.ifs text
  | _ ↦ csv_reading opts.ifs text
]

-- the value of a field of a record, and the values of such fields
abbrev pub value_in : NamedField → Tree
value_in field = tree_of field.value

abbrev pub values_in : List NamedField → List Tree
values_in fields = map value_in fields

-- a row that is being read: the values of the ended fields, and the text within an open quote
pub record RowState : Type 0 where
  pub values : List Tree
  pub quotes : Option (List ℕ)

abbrev pub no_row : RowState
no_row = record { values = []; quotes = None }

abbrev pub in_quotes : RowState → List ℕ
in_quotes row = unwrap_or row.quotes []

-- the row with one more value, and no open quote
abbrev pub with_value : RowState → Tree → RowState
with_value row value = record { values = row.values ++ value ∷ []; quotes = None }

-- the row with more text within its open quote
abbrev pub with_text : RowState → List ℕ → RowState
with_text row text = record { values = row.values; quotes = Some (in_quotes row ++ text) }

-- the row after the rest of a quoted field, which ends at the next separator after the closing quote
abbrev pub quoted_row : List ℕ → RowState → List ℕ → RowState
quoted_row separator row text = elim (quoted_at text) [
  | None ↦ with_text row (open_text text)
  | Some q ↦ with_value row (quoted_value (in_quotes row ++ (q.content ++ before_next separator q.following)))
]

abbrev pub after_quoted : List ℕ → List ℕ → Option (List ℕ)
after_quoted separator text = elim (quoted_at text) [ None ↦ None | Some q ↦ after_next separator q.following ]

-- the row after one more field, and the text after that field's separator
abbrev pub field_row : ReadOpts → RowState → List ℕ → RowState
field_row opts row text =
    if starts_quoted text then quoted_row opts.ifs row (drop 1 text) else with_value row (value_of opts.infer (record { quoted = false; text = before_next opts.ifs text }))

abbrev pub after_row_field : List ℕ → List ℕ → Option (List ℕ)
after_row_field separator text = if starts_quoted text then after_quoted separator (drop 1 text) else after_next separator text

-- a row without open quote, after one more reading
abbrev pub row_with : InferOpts → RowState → Reading → RowState
row_with opts row more = record { values = row.values ++ map (value_of opts) more.fields; quotes = more.left_open }

-- a row with an open quote, after a reading of the next line; its first field continues the open quote
abbrev pub row_on : InferOpts → RowState → Reading → RowState
row_on opts row more = elim more.fields [
  | [] ↦ record { values = row.values; quotes = option_map (λ text. in_quotes row ++ text) more.left_open }
  | field ∷ fields ↦ record { values = row.values ++ quoted_value (in_quotes row ++ field.text) ∷ map (value_of opts) fields; quotes = more.left_open }
]

-- the row after one more line; within an open quote, the line is read as if a quote preceded it
abbrev pub row_taken : ReadOpts → RowState → List ℕ → RowState
row_taken opts row text = elim row.quotes [
  | None ↦ row_with opts.infer row (row_reading opts text)
  | Some open_text ↦ row_on opts.infer row (csv_reading opts.ifs (quote_mark ∷ text))
]
