-- The rows that are read line by line are the rows of the file.
use Rattle.std.proofs.Common.{◌≡◌, ℕ, ◌+◌, ◌<◌, true, List, [], ◌∷◌, ◌++◌, map, length, Option, Some, None, ◌⊎◌, refl, ap, ap₂, sym, subst, ◌∙◌, append_assoc, arith, inl, inr}
use Rattle.std.specs.Option.{option_map}
use Rattle.std.proofs.lemmas.Bool.{true≢false}
use Rattle.std.proofs.lemmas.List.{map-append}
use Rattle.mlr_event.specs.declared.options.Format.{Format}
use Rattle.mlr_event.specs.declared.options.Format.TheVariants as format
use Rattle.mlr_event.specs.declared.options.ReadOpts.{ReadOpts}
use Rattle.mlr_lines.specs.Lines.{without_return}
use Rattle.read_csv.specs.Csv.{csv_fields}
use Rattle.read_csv.specs.Fields.{Field, value_of}
use Rattle.read_csv.specs.Tsv.{tsv_fields}
use Rattle.read_csv.specs.Rows.{Begun, goes_on, row_fields}
use Rattle.read_csv.specs.Rules.{line_end}
use Rattle.read_csv.specs.OpenRow.{Reading, RowState, csv_reading, no_row, row_on, row_reading, row_taken, row_with, with_text}
use Rattle.read_csv.specs.Usable.{is_usable, is_usable_as, has_bytes}
use Rattle.read_csv.proofs.Ends.{line_end-is, return-following}
use Rattle.read_csv.proofs.Opening.{Opens, fields_read, grown, joined, opens, opens-more, opens-text, csv-read}

-- the format has quotes, so that a row may be open
abbrev pub IsQuoting : ReadOpts → Type 0
IsQuoting opts = (text : List ℕ) → row_fields opts text ≡ csv_fields opts.ifs text

-- a text that leaves a quote open, and the row after it
pub record LeftOpen (opts : ReadOpts) (text : List ℕ) (row : RowState) : Type 0 where
  pub done : List Field
  pub content : List ℕ
  pub quoting : IsQuoting opts
  pub row_is : row ≡ record { values = map (value_of opts.infer) done; quotes = Some content }
  pub opens : Opens opts.ifs text done content

-- a text that ends a row, and the row after it
pub record Closed (opts : ReadOpts) (text : List ℕ) (row : RowState) : Type 0 where
  pub found : List Field
  pub row_is : row ≡ record { values = map (value_of opts.infer) found; quotes = None }
  pub fields_are : row_fields opts text ≡ Some found

-- the row so far represents the lines of the row that has begun
abbrev pub Fits : ReadOpts → Begun → ℕ → RowState → Type 0
Fits opts None begins row = row ≡ no_row
Fits opts (Some begun) begins row = (begins ≡ begun.0) × LeftOpen opts (begun.1 ++ 10 ∷ []) row

some-bytes : (text : List ℕ) → has_bytes text ≡ true → 0 < length text
some-bytes [] is = absurd (true≢false (sym is))
some-bytes (b ∷ text) is = omega arith

pub usable-some : (as_format : Format) (opts : ReadOpts) → is_usable_as as_format opts ≡ true → 0 < length opts.ifs
usable-some format.Csv opts is = some-bytes opts.ifs is
usable-some format.Tsv opts is = some-bytes opts.ifs is
usable-some format.Json opts is = absurd (true≢false (sym is))
usable-some format.Jsonl opts is = absurd (true≢false (sym is))
usable-some format.Dkvp opts is = absurd (true≢false (sym is))
usable-some format.Nidx opts is = absurd (true≢false (sym is))
usable-some format.Xtab opts is = absurd (true≢false (sym is))
usable-some format.Pprint opts is = absurd (true≢false (sym is))
usable-some format.Markdown opts is = absurd (true≢false (sym is))

-- the row after a reading that begins it
module _ (opts : ReadOpts) (some : 0 < length opts.ifs) where
  left-open : (text : List ℕ) → IsQuoting opts → (reading : Reading) → csv_reading opts.ifs text ≡ reading → (left : Option (List ℕ)) → reading.left_open ≡ left
      → LeftOpen opts text (row_with opts.infer no_row reading) ⊎ Closed opts text (row_with opts.infer no_row reading)
  left-open text quoting reading is None left = inr (record {
    found = reading.fields;
    row_is = ap (λ q. record { values = map (value_of opts.infer) reading.fields; quotes = q }) left;
    fields_are = quoting text ∙ csv-read opts.ifs text ∙ ap fields_read is ∙ ap (λ l. elim l [ None ↦ Some reading.fields | Some content ↦ None ]) left;
  })
  left-open text quoting reading is (Some content) left = inl (record {
    done = reading.fields;
    content = content;
    quoting = quoting;
    row_is = ap (λ q. record { values = map (value_of opts.infer) reading.fields; quotes = q }) left;
    opens = subst (λ (r : Reading). Opens opts.ifs text r.fields content) is (opens opts.ifs some (length text + 1) text (omega arith) content (ap (λ (r : Reading). r.left_open) is ∙ left));
  })

  quoting-as : (as_format : Format) → opts.format ≡ as_format → is_usable_as as_format opts ≡ true → (text : List ℕ)
      → LeftOpen opts text (row_with opts.infer no_row (row_reading opts text)) ⊎ Closed opts text (row_with opts.infer no_row (row_reading opts text))
  quoting-as format.Csv is usable text =
      let quoting : IsQuoting opts = λ t. ap (λ f. elim f [ format.Tsv ↦ Some (tsv_fields opts.ifs t) | _ ↦ csv_fields opts.ifs t ]) is in
      let reading : row_reading opts text ≡ csv_reading opts.ifs text = ap (λ f. elim f [ format.Tsv ↦ record { fields = tsv_fields opts.ifs text; left_open = None } | _ ↦ csv_reading opts.ifs text ]) is in
      left-open text quoting (row_reading opts text) (sym reading) (row_reading opts text).left_open refl
  quoting-as format.Tsv is usable text =
      let reading : row_reading opts text ≡ record { fields = tsv_fields opts.ifs text; left_open = None } = ap (λ f. elim f [ format.Tsv ↦ record { fields = tsv_fields opts.ifs text; left_open = None } | _ ↦ csv_reading opts.ifs text ]) is in
      inr (record {
        found = tsv_fields opts.ifs text;
        row_is = ap (row_with opts.infer no_row) reading;
        fields_are = ap (λ f. elim f [ format.Tsv ↦ Some (tsv_fields opts.ifs text) | _ ↦ csv_fields opts.ifs text ]) is;
      })
  quoting-as format.Json is usable text = absurd (true≢false (sym usable))
  quoting-as format.Jsonl is usable text = absurd (true≢false (sym usable))
  quoting-as format.Dkvp is usable text = absurd (true≢false (sym usable))
  quoting-as format.Nidx is usable text = absurd (true≢false (sym usable))
  quoting-as format.Xtab is usable text = absurd (true≢false (sym usable))
  quoting-as format.Pprint is usable text = absurd (true≢false (sym usable))
  quoting-as format.Markdown is usable text = absurd (true≢false (sym usable))

  map-same : (left : Option (List ℕ)) → left ≡ option_map (λ c. c) left
  map-same None = refl
  map-same (Some c) = refl

  -- a reading after an open quote, added to the row
  on-is : (done : List Field) (content : List ℕ) (fields : List Field) (left : Option (List ℕ))
      → row_on opts.infer (record { values = map (value_of opts.infer) done; quotes = Some content }) (record { fields = fields; left_open = left })
      ≡ record { values = map (value_of opts.infer) (joined done content fields); quotes = option_map (grown content fields) left }
  on-is done content [] left = refl
  on-is done content (f ∷ fields) left =
      ap₂ (λ values quotes. record { values = values; quotes = quotes })
      (sym (map-append (value_of opts.infer) done (record { quoted = true; text = content ++ f.text } ∷ fields))) (map-same left)

  on-more : (prefix text : List ℕ) (row : RowState) (open_row : LeftOpen opts prefix row) (reading : Reading) → csv_reading opts.ifs (34 ∷ text) ≡ reading → (left : Option (List ℕ)) → reading.left_open ≡ left
      → LeftOpen opts (prefix ++ text) (row_on opts.infer row reading) ⊎ Closed opts (prefix ++ text) (row_on opts.infer row reading)
  on-more prefix text row open_row reading is left left_is =
      let done = open_row.done in
      let content = open_row.content in
      let row_is : row_on opts.infer row reading ≡ record { values = map (value_of opts.infer) (joined done content reading.fields); quotes = option_map (grown content reading.fields) left } =
      ap (λ r. row_on opts.infer r reading) open_row.row_is ∙ on-is done content reading.fields reading.left_open
      ∙ ap (λ l. record { values = map (value_of opts.infer) (joined done content reading.fields); quotes = option_map (grown content reading.fields) l }) left_is in
      let fields_are : row_fields opts (prefix ++ text) ≡ option_map (joined done content) (elim left [ None ↦ Some reading.fields | Some c ↦ None ]) =
      open_row.quoting (prefix ++ text) ∙ open_row.opens.goes_on text
      ∙ ap (option_map (joined done content)) (csv-read opts.ifs (34 ∷ text) ∙ ap fields_read is ∙ ap (λ l. elim l [ None ↦ Some reading.fields | Some c ↦ None ]) left_is) in
      elim left as (λ l. reading.left_open ≡ l
      → row_on opts.infer row reading ≡ record { values = map (value_of opts.infer) (joined done content reading.fields); quotes = option_map (grown content reading.fields) l }
      → row_fields opts (prefix ++ text) ≡ option_map (joined done content) (elim l [ None ↦ Some reading.fields | Some c ↦ None ])
      → LeftOpen opts (prefix ++ text) (row_on opts.infer row reading) ⊎ Closed opts (prefix ++ text) (row_on opts.infer row reading)) [
        | None ↦ λ left_is row_is fields_are. inr (record { found = joined done content reading.fields; row_is = row_is; fields_are = fields_are })
        | Some c ↦ λ left_is row_is fields_are. inl (record {
          done = joined done content reading.fields;
          content = grown content reading.fields c;
          quoting = open_row.quoting;
          row_is = row_is;
          opens = opens-more opts.ifs some prefix text done content reading.fields c open_row.opens
              (subst (λ (r : Reading). Opens opts.ifs (34 ∷ text) r.fields c) is (opens opts.ifs some (length (34 ∷ text) + 1) (34 ∷ text) (omega arith) c (ap (λ (r : Reading). r.left_open) is ∙ left_is)));
        })
      ] left_is row_is fields_are

  -- one more line of a row
  pub took : is_usable opts ≡ true → (begun : Begun) (begins : ℕ) (row : RowState) → Fits opts begun begins row → (text : List ℕ)
      → LeftOpen opts (goes_on begun text) (row_taken opts row text) ⊎ Closed opts (goes_on begun text) (row_taken opts row text)
  took usable None begins row fits text =
      subst (λ r. LeftOpen opts text (row_taken opts r text) ⊎ Closed opts text (row_taken opts r text)) (sym fits) (quoting-as opts.format refl usable text)
  took usable (Some begun) begins row fits text =
      let open_row = fits.1 in
      let taken : row_taken opts row text ≡ row_on opts.infer row (csv_reading opts.ifs (34 ∷ text)) =
      ap (λ (r : RowState). elim r.quotes [ None ↦ row_with opts.infer row (row_reading opts text) | Some c ↦ row_on opts.infer row (csv_reading opts.ifs (34 ∷ text)) ]) open_row.row_is in
      let whole : (begun.1 ++ 10 ∷ []) ++ text ≡ begun.1 ++ 10 ∷ text = append_assoc begun.1 (10 ∷ []) text in
      subst (λ t. LeftOpen opts t (row_taken opts row text) ⊎ Closed opts t (row_taken opts row text)) whole
      (subst (λ r. LeftOpen opts ((begun.1 ++ 10 ∷ []) ++ text) r ⊎ Closed opts ((begun.1 ++ 10 ∷ []) ++ text) r) (sym taken)
      (on-more (begun.1 ++ 10 ∷ []) text row open_row (csv_reading opts.ifs (34 ∷ text)) refl (csv_reading opts.ifs (34 ∷ text)).left_open refl))

  -- a row that ends doesn't contain the CR before its line ending; an open quote contains the whole line
  -- ending
  pub return-on : (begun : Begun) (line : List ℕ) → without_return (goes_on begun line) ≡ goes_on begun (without_return line)
  return-on None line = refl
  return-on (Some begun) line = return-following begun.1 line

  end-on : (begun : Begun) (line : List ℕ) → goes_on begun (without_return line) ++ line_end line ≡ goes_on begun line ++ 10 ∷ []
  end-on None line = (line_end-is line).0
  end-on (Some begun) line =
      append_assoc begun.1 (10 ∷ without_return line) (line_end line) ∙ ap (λ t. begun.1 ++ 10 ∷ t) (line_end-is line).0 ∙ sym (append_assoc begun.1 (10 ∷ line) (10 ∷ []))

  pub ended-open : (begun : Begun) (line : List ℕ) (row : RowState) → LeftOpen opts (goes_on begun (without_return line)) row → LeftOpen opts (goes_on begun line ++ 10 ∷ []) (with_text row (line_end line))
  ended-open begun line row open_row = record {
    done = open_row.done;
    content = open_row.content ++ line_end line;
    quoting = open_row.quoting;
    row_is = ap (λ r. with_text r (line_end line)) open_row.row_is;
    opens = subst (λ t. Opens opts.ifs t open_row.done (open_row.content ++ line_end line)) (end-on begun line)
        (opens-text opts.ifs some (goes_on begun (without_return line)) open_row.done open_row.content (line_end line) open_row.opens (line_end-is line).1);
  }
