-- Reads a line of a row field by field.
use Rattle.std.proofs.Common.{◌≡◌, ℕ, zero, suc, ◌+◌, ◌<◌, ◌≤◌, true, false, eqb, List, [], ◌∷◌, ◌++◌, map, length, drop, Option, Some, None, refl, ap, ap₂, sym, ◌∙◌, append_assoc, arith, inl, inr, add-one, length-drop}
use Rattle.std.specs.Option.{option_map, unwrap_or, is_some}
use Rattle.std.proofs.lemmas.Bool.{cases_Bool}
use Rattle.std.proofs.lemmas.List.{append-nil}
use Rattle.mlr_spec.specs.declared.infer.InferOpts.{InferOpts}
use Rattle.mlr_spec.specs.Split.{place_in}
use Rattle.mlr_spec.proofs.Splitting.{cases_Option, place_in-fits}
use Rattle.mlr_event.specs.declared.options.ReadOpts.{ReadOpts}
use Rattle.read_csv.specs.Csv.{First, Quoted, quoted_at, with_byte, before_next, after_next, first_quoted, first_field}
use Rattle.read_csv.specs.Fields.{Field, quoted_value, value_of}
use Rattle.mlr_record.specs.Parts.{first_part, after_first}
use Rattle.read_csv.proofs.Quoting.{with_text-twice}
use Rattle.read_csv.specs.OpenRow.{Reading, RowState, open_text, inside, after_quotes, after_field, reading_from, csv_reading, in_quotes, with_value, with_text, quoted_row, after_quoted, field_row, after_row_field, row_with, row_on, row_reading, row_taken}

-- the text after the first field's separator
abbrev pub rest_of : Option First → Option (List ℕ)
rest_of found = elim found [ None ↦ None | Some first ↦ first.following ]

abbrev pub taken_row : ReadOpts → RowState → List ℕ → Option First → RowState
taken_row opts row text found = elim found [ None ↦ with_text row (open_text (drop 1 text)) | Some first ↦ with_value row (value_of opts.infer first.field) ]

-- the text after the separator that follows the closing quote
abbrev after_found : List ℕ → Option Quoted → Option (List ℕ)
after_found separator found = elim found [ None ↦ None | Some q ↦ after_next separator q.following ]

-- the text after the separator that was found
abbrev next_at : List ℕ → List ℕ → Option ℕ → Option (List ℕ)
next_at separator text found = elim found [ Some place ↦ Some (drop (place + length separator) text) | None ↦ None ]

rest_of-quoted : (separator : List ℕ) (found : Option Quoted) → rest_of (first_quoted separator found) ≡ after_found separator found
rest_of-quoted separator None = refl
rest_of-quoted separator (Some q) = refl

pub rest-is : (separator text : List ℕ) → after_row_field separator text ≡ rest_of (first_field separator text)
rest-is separator [] = refl
rest-is separator (b ∷ text) =
    elim (cases_Bool (eqb b 34)) as (λ _. after_row_field separator (b ∷ text) ≡ rest_of (first_field separator (b ∷ text))) [
      | inl here ↦ rw here (sym (rest_of-quoted separator (quoted_at text)))
      | inr other ↦ rw other refl
    ]

-- the row after the quoted text that was found
abbrev quotes_row : List ℕ → RowState → List ℕ → Option Quoted → RowState
quotes_row separator row text found = elim found [
  | None ↦ with_text row (open_text text)
  | Some q ↦ with_value row (quoted_value (in_quotes row ++ (q.content ++ before_next separator q.following)))
]

quoted-taken : (opts : ReadOpts) (row : RowState) (b : ℕ) (text : List ℕ) (found : Option Quoted) → row.quotes ≡ None
    → quotes_row opts.ifs row text found ≡ taken_row opts row (b ∷ text) (first_quoted opts.ifs found)
quoted-taken opts row b text None closed = refl
quoted-taken opts row b text (Some q) closed =
    ap (λ quotes. with_value row (quoted_value (unwrap_or quotes [] ++ (q.content ++ before_next opts.ifs q.following)))) closed

pub row-is : (opts : ReadOpts) (row : RowState) (text : List ℕ) → row.quotes ≡ None → field_row opts row text ≡ taken_row opts row text (first_field opts.ifs text)
row-is opts row [] closed = refl
row-is opts row (b ∷ text) closed =
    elim (cases_Bool (eqb b 34)) as (λ _. field_row opts row (b ∷ text) ≡ taken_row opts row (b ∷ text) (first_field opts.ifs (b ∷ text))) [
      | inl here ↦ rw here (quoted-taken opts row b text (quoted_at text) closed)
      | inr other ↦ rw other refl
    ]

-- the text after the first separator is shorter
pub next-shorter : (separator text rest : List ℕ) → 0 < length separator → after_next separator text ≡ Some rest → length rest < length text
next-shorter separator text rest some is =
    elim (cases_Option (place_in separator text)) as (λ _. length rest < length text) [
      | inl none ↦ absurd (let e : None ≡ Some rest = sym (ap (next_at separator text) none) ∙ is in cc)
      | inr found ↦
          let e : Some (drop (found.0 + length separator) text) ≡ Some rest = sym (ap (next_at separator text) found.1) ∙ is in
          let same : drop (found.0 + length separator) text ≡ rest = cc in
          omega (arith, ap length same, length-drop (found.0 + length separator) text, place_in-fits separator text found.0 found.1)
    ]

following-byte : (b : ℕ) (found : Option Quoted) (q : Quoted) → with_byte b found ≡ Some q → (p : Quoted) × (found ≡ Some p) × (p.following ≡ q.following)
following-byte b None q is = absurd (let e : None ≡ Some q = is in cc)
following-byte b (Some p) q is = let e : Some (record { content = b ∷ p.content; following = p.following }) ≡ Some q = is in (p, refl, cc)

-- the text after the closing quote isn't longer
pub quotes-shorter : (text : List ℕ) (q : Quoted) → quoted_at text ≡ Some q → length q.following ≤ length text
quotes-shorter [] q is = absurd (let e : None ≡ Some q = is in cc)
quotes-shorter (b ∷ []) q is =
    elim (cases_Bool (eqb b 34)) as (λ _. length q.following ≤ length (b ∷ [])) [
      | inl here ↦ let e : Some (record { content = []; following = [] }) ≡ Some q = rw here at is in let same : [] ≡ q.following = cc in omega (arith, ap length same)
      | inr other ↦ absurd (let e : None ≡ Some q = rw other at is in cc)
    ]
quotes-shorter (b ∷ c ∷ text) q is =
    elim (cases_Bool (eqb b 34)) as (λ _. length q.following ≤ length (b ∷ c ∷ text)) [
      | inl here ↦
          elim (cases_Bool (eqb c 34)) as (λ _. length q.following ≤ length (b ∷ c ∷ text)) [
            | inl twice ↦
                let e : with_byte 34 (quoted_at text) ≡ Some q = rw (here, twice) at is in
                let p = following-byte 34 (quoted_at text) q e in
                omega (arith, ap length p.2, quotes-shorter text p.0 p.1)
            | inr once ↦
                let e : Some (record { content = []; following = c ∷ text }) ≡ Some q = rw (here, once) at is in
                let same : c ∷ text ≡ q.following = cc in
                omega (arith, ap length same)
          ]
      | inr other ↦
          let e : with_byte b (quoted_at (c ∷ text)) ≡ Some q = rw other at is in
          let p = following-byte b (quoted_at (c ∷ text)) q e in
          omega (arith, ap length p.2, quotes-shorter (c ∷ text) p.0 p.1)
    ]

quoted-rest-shorter : (separator : List ℕ) (text rest : List ℕ) (found : Option Quoted) → 0 < length separator → quoted_at text ≡ found
    → after_found separator found ≡ Some rest → length rest < length text
quoted-rest-shorter separator text rest None some found is = absurd (let e : None ≡ Some rest = is in cc)
quoted-rest-shorter separator text rest (Some q) some found is = omega (arith, next-shorter separator q.following rest some is, quotes-shorter text q found)

pub rest-shorter : (separator text rest : List ℕ) → 0 < length separator → rest_of (first_field separator text) ≡ Some rest → length rest < length text
rest-shorter separator [] rest some is = next-shorter separator [] rest some is
rest-shorter separator (b ∷ text) rest some is =
    elim (cases_Bool (eqb b 34)) as (λ _. length rest < length (b ∷ text)) [
      | inl here ↦
          let e : rest_of (first_quoted separator (quoted_at text)) ≡ Some rest = rw here at is in
          omega (arith, quoted-rest-shorter separator text rest (quoted_at text) some refl (sym (rest_of-quoted separator (quoted_at text)) ∙ e))
      | inr other ↦ next-shorter separator (b ∷ text) rest some (rw other at is)
    ]

-- the reading of one field and of the rest
abbrev pub reading_after : Field → (List ℕ → Reading) → Option (List ℕ) → Reading
reading_after field more following = elim following [ None ↦ record { fields = field ∷ []; left_open = None } | Some rest ↦ after_field field (more rest) ]

-- the reading of a text, by its first field
abbrev pub reading_at : (List ℕ → Reading) → List ℕ → Option First → Reading
reading_at more text found = elim found [
  | None ↦ record { fields = []; left_open = Some (open_text (drop 1 text)) }
  | Some first ↦ elim first.following [
    | None ↦ record { fields = first.field ∷ []; left_open = None }
    | Some rest ↦ after_field first.field (more rest)
  ]
]

-- two readings are the same if they agree on the rest
reading_at-same : (more more_2 : List ℕ → Reading) (text : List ℕ) (found : Option First) → ((rest : List ℕ) → rest_of found ≡ Some rest → more rest ≡ more_2 rest)
    → reading_at more text found ≡ reading_at more_2 text found
reading_at-same more more_2 text None same = refl
reading_at-same more more_2 text (Some first) same =
    elim (cases_Option first.following) as (λ _. reading_at more text (Some first) ≡ reading_at more_2 text (Some first)) [
      | inl none ↦ ap (reading_after first.field more) none ∙ sym (ap (reading_after first.field more_2) none)
      | inr some ↦ ap (reading_after first.field more) some.1 ∙ ap (after_field first.field) (same some.0 some.1) ∙ sym (ap (reading_after first.field more_2) some.1)
    ]

-- the number of steps doesn't matter if it is large enough
reading-steps : (separator : List ℕ) (n m : ℕ) (text : List ℕ) → 0 < length separator → length text < n → length text < m → reading_from n separator text ≡ reading_from m separator text
reading-steps separator zero m text some enough enough_2 = absurd (omega arith)
reading-steps separator (suc n) zero text some enough enough_2 = absurd (omega arith)
reading-steps separator (suc n) (suc m) text some enough enough_2 =
    reading_at-same (reading_from n separator) (reading_from m separator) text (first_field separator text)
    (λ rest is. let shorter = rest-shorter separator text rest some is in reading-steps separator n m rest some (omega arith) (omega arith))

pub reading-is : (separator text : List ℕ) → 0 < length separator → csv_reading separator text ≡ reading_at (csv_reading separator) text (first_field separator text)
reading-is separator text some =
    ap (λ n. reading_from n separator text) (add-one (length text))
    ∙ reading_at-same (reading_from (length text) separator) (csv_reading separator) text (first_field separator text)
    (λ rest is. let shorter = rest-shorter separator text rest some is in reading-steps separator (length text) (length rest + 1) rest some (omega arith) (omega arith))

-- a row after one field, and then after the rest
with_value-more : (opts : InferOpts) (row : RowState) (field : Field) (more : Reading) → row_with opts (with_value row (value_of opts field)) more ≡ row_with opts row (after_field field more)
with_value-more opts row field more =
    ap (λ values. record { values = values; quotes = more.left_open }) (append_assoc row.values (value_of opts field ∷ []) (map (value_of opts) more.fields))

step-more : (opts : ReadOpts) (row : RowState) (text rest : List ℕ) (found : Option First) → rest_of found ≡ Some rest
    → row_with opts.infer (taken_row opts row text found) (csv_reading opts.ifs rest) ≡ row_with opts.infer row (reading_at (csv_reading opts.ifs) text found)
step-more opts row text rest None is = absurd (let e : None ≡ Some rest = is in cc)
step-more opts row text rest (Some first) is =
    with_value-more opts.infer row first.field (csv_reading opts.ifs rest)
    ∙ ap (λ following. row_with opts.infer row (reading_after first.field (csv_reading opts.ifs) following)) (sym is)

step-last : (opts : ReadOpts) (row : RowState) (text : List ℕ) (found : Option First) → row.quotes ≡ None → rest_of found ≡ None
    → taken_row opts row text found ≡ row_with opts.infer row (reading_at (csv_reading opts.ifs) text found)
step-last opts row text None closed is =
    ap₂ (λ values quotes. record { values = values; quotes = Some (unwrap_or quotes [] ++ open_text (drop 1 text)) }) (sym (append-nil row.values)) closed
step-last opts row text (Some first) closed is =
    ap (λ following. row_with opts.infer row (reading_after first.field (csv_reading opts.ifs) following)) (sym is)

taken-closed : (opts : ReadOpts) (row : RowState) (text rest : List ℕ) (found : Option First) → rest_of found ≡ Some rest → (taken_row opts row text found).quotes ≡ None
taken-closed opts row text rest None is = absurd (let e : None ≡ Some rest = is in cc)
taken-closed opts row text rest (Some first) is = refl

module _ (opts : ReadOpts) (row : RowState) (text : List ℕ) (some : 0 < length opts.ifs) (closed : row.quotes ≡ None) where
  pub field-more : (rest : List ℕ) → after_row_field opts.ifs text ≡ Some rest → row_with opts.infer (field_row opts row text) (csv_reading opts.ifs rest) ≡ row_with opts.infer row (csv_reading opts.ifs text)
  field-more rest is =
      ap (λ r. row_with opts.infer r (csv_reading opts.ifs rest)) (row-is opts row text closed)
      ∙ step-more opts row text rest (first_field opts.ifs text) (sym (rest-is opts.ifs text) ∙ is)
      ∙ ap (row_with opts.infer row) (sym (reading-is opts.ifs text some))

  pub field-last : after_row_field opts.ifs text ≡ None → field_row opts row text ≡ row_with opts.infer row (csv_reading opts.ifs text)
  field-last is =
      row-is opts row text closed
      ∙ step-last opts row text (first_field opts.ifs text) closed (sym (rest-is opts.ifs text) ∙ is)
      ∙ ap (row_with opts.infer row) (sym (reading-is opts.ifs text some))

  pub field-closed : (rest : List ℕ) → after_row_field opts.ifs text ≡ Some rest → (field_row opts row text).quotes ≡ None
  field-closed rest is = ap (λ r. r.quotes) (row-is opts row text closed) ∙ taken-closed opts row text rest (first_field opts.ifs text) (sym (rest-is opts.ifs text) ∙ is)

-- within an open quote, a line is read as if a quote preceded it
on-more : (opts : ReadOpts) (row : RowState) (text rest : List ℕ) (found : Option Quoted) → after_found opts.ifs found ≡ Some rest
    → row_with opts.infer (quotes_row opts.ifs row text found) (csv_reading opts.ifs rest) ≡ row_on opts.infer row (reading_at (csv_reading opts.ifs) (34 ∷ text) (first_quoted opts.ifs found))
on-more opts row text rest None is = absurd (let e : None ≡ Some rest = is in cc)
on-more opts row text rest (Some q) is =
    let field : Field = record { quoted = true; text = q.content ++ before_next opts.ifs q.following } in
    ap (λ values. record { values = values; quotes = (csv_reading opts.ifs rest).left_open })
    (append_assoc row.values (quoted_value (in_quotes row ++ field.text) ∷ []) (map (value_of opts.infer) (csv_reading opts.ifs rest).fields))
    ∙ ap (λ following. row_on opts.infer row (reading_after field (csv_reading opts.ifs) following)) (sym is)

on-last : (opts : ReadOpts) (row : RowState) (text : List ℕ) (found : Option Quoted) → after_found opts.ifs found ≡ None
    → quotes_row opts.ifs row text found ≡ row_on opts.infer row (reading_at (csv_reading opts.ifs) (34 ∷ text) (first_quoted opts.ifs found))
on-last opts row text None is = refl
on-last opts row text (Some q) is =
    let field : Field = record { quoted = true; text = q.content ++ before_next opts.ifs q.following } in
    ap (λ following. row_on opts.infer row (reading_after field (csv_reading opts.ifs) following)) (sym is)

on-closed : (opts : ReadOpts) (row : RowState) (text rest : List ℕ) (found : Option Quoted) → after_found opts.ifs found ≡ Some rest
    → (quotes_row opts.ifs row text found).quotes ≡ None
on-closed opts row text rest None is = absurd (let e : None ≡ Some rest = is in cc)
on-closed opts row text rest (Some q) is = refl

module _ (opts : ReadOpts) (row : RowState) (text : List ℕ) (some : 0 < length opts.ifs) where
  pub quoted-more : (rest : List ℕ) → after_quoted opts.ifs text ≡ Some rest → row_with opts.infer (quoted_row opts.ifs row text) (csv_reading opts.ifs rest) ≡ row_on opts.infer row (csv_reading opts.ifs (34 ∷ text))
  quoted-more rest is = on-more opts row text rest (quoted_at text) is ∙ ap (row_on opts.infer row) (sym (reading-is opts.ifs (34 ∷ text) some))

  pub quoted-last : after_quoted opts.ifs text ≡ None → quoted_row opts.ifs row text ≡ row_on opts.infer row (csv_reading opts.ifs (34 ∷ text))
  quoted-last is = on-last opts row text (quoted_at text) is ∙ ap (row_on opts.infer row) (sym (reading-is opts.ifs (34 ∷ text) some))

  pub quoted-closed : (rest : List ℕ) → after_quoted opts.ifs text ≡ Some rest → (quoted_row opts.ifs row text).quotes ≡ None
  quoted-closed rest is = on-closed opts row text rest (quoted_at text) is

-- the row after quotes that were closed
closed-row : (separator : List ℕ) (row : RowState) (text following : List ℕ) (found : Option Quoted) → option_map (λ q. q.following) found ≡ Some following
    → quotes_row separator row text found ≡ with_value row (quoted_value (in_quotes row ++ ((elim found [ Some q ↦ q.content | None ↦ open_text text ]) ++ before_next separator following)))
closed-row separator row text following None is = absurd (let e : None ≡ Some following = is in cc)
closed-row separator row text following (Some q) is =
    let e : Some q.following ≡ Some following = is in
    let same : q.following ≡ following = cc in
    ap (λ b. with_value row (quoted_value (in_quotes row ++ (q.content ++ before_next separator b)))) same

closed-following : (separator following : List ℕ) (found : Option Quoted) → option_map (λ q. q.following) found ≡ Some following
    → after_next separator following ≡ after_found separator found
closed-following separator following None is = absurd (let e : None ≡ Some following = is in cc)
closed-following separator following (Some q) is =
    let e : Some q.following ≡ Some following = is in
    let same : q.following ≡ following = cc in
    ap (after_next separator) (sym same)

module _ (separator : List ℕ) (row : RowState) (text following : List ℕ) (is : after_quotes text ≡ Some following) where
  pub closed-row-is : (row_1 row_2 row_3 : RowState) → row_1 ≡ with_text row (inside text) → row_2 ≡ with_text row_1 (before_next separator following) → row_3 ≡ with_value row_2 (quoted_value (in_quotes row_2))
      → row_3 ≡ quoted_row separator row text
  closed-row-is row_1 row_2 row_3 first second third =
      let quoted : row_2 ≡ with_text row (inside text ++ before_next separator following) =
      second ∙ ap (λ r. with_text r (before_next separator following)) first ∙ with_text-twice row (inside text) (before_next separator following) in
      third ∙ ap (λ r. with_value r (quoted_value (in_quotes r))) quoted ∙ sym (closed-row separator row text following (quoted_at text) is)

  pub closed-following-is : after_next separator following ≡ after_quoted separator text
  closed-following-is = closed-following separator following (quoted_at text) is

-- the search for a separator finds the part before it
pub part-is : (separator text : List ℕ) → first_part separator text ≡ before_next separator text
part-is separator text = refl

pub following-is : (separator text : List ℕ) → after_first separator text ≡ after_next separator text
following-is separator text =
    elim (cases_Option (place_in separator text)) as (λ _. after_first separator text ≡ after_next separator text) [
      | inl none ↦ ap (option_map (λ place. drop (place + length separator) text)) none ∙ sym (ap (next_at separator text) none)
      | inr some ↦ ap (option_map (λ place. drop (place + length separator) text)) some.1 ∙ sym (ap (next_at separator text) some.1)
    ]

-- a row with an open quote continues within it
pub taken-open : (opts : ReadOpts) (row : RowState) (text : List ℕ) → is_some row.quotes ≡ true → row_taken opts row text ≡ row_on opts.infer row (csv_reading opts.ifs (34 ∷ text))
taken-open opts row text is_open =
    elim (cases_Option row.quotes) as (λ _. row_taken opts row text ≡ row_on opts.infer row (csv_reading opts.ifs (34 ∷ text))) [
      | inl none ↦ absurd (let e : false ≡ true = sym (ap is_some none) ∙ is_open in cc)
      | inr some ↦ ap (λ quotes. elim quotes [ None ↦ row_with opts.infer row (row_reading opts text) | Some c ↦ row_on opts.infer row (csv_reading opts.ifs (34 ∷ text)) ]) some.1
    ]
