-- A row whose fields get their names while they are read.
use Rattle.std.proofs.Common.{◌≡◌, ℕ, ◌+◌, ◌<◌, Bool, true, false, ◌||◌, List, [], ◌∷◌, ◌++◌, length, length-take, get_or, take, drop, Option, Some, None, cond, eqb, refl, ap, ap₂, subst, sym, ◌∙◌, arith}
use Rattle.std.specs.Prelude.{MatchOption}
use Rattle.std.specs.List.{zip}
use Rattle.std.proofs.lemmas.Bool.{eq-eqb}
use Rattle.std.proofs.lemmas.List.{append-nil, take_more}
use Rattle.mlr_spec.specs.Infer.{tree_of_data}
use Rattle.mlr_spec.specs.Tree.{Tree}
use Rattle.mlr_event.specs.declared.options.ReadOpts.{ReadOpts}
use Rattle.mlr_event.specs.declared.options.Format.TheVariants as format
use Rattle.mlr_event.specs.declared.fault.Fault.TheVariants.{Length}
use Rattle.mlr_event.specs.Reading.{distinct_names, fault, fields, record_of}
use Rattle.mlr_spec.specs.Split.{place_in}
use Rattle.read_csv.specs.Csv.{after_next, before_next}
use Rattle.read_csv.specs.OpenRow.{RowState, after_quoted, after_row_field, csv_reading, field_row, no_row, quoted_row, row_taken, row_with, starts_quoted, tsv_reading, with_value}
use Rattle.read_csv.specs.Naming.{IsGiven, IsNamed, left_reading, with_values}
use Rattle.read_csv.specs.Rows.{row_keys}
use Rattle.read_csv.proofs.Readings.{field-last, field-more}
use Rattle.read_csv.proofs.Recording.{full-made}

-- names and values, and one more of each
pub zip-one : (names : List (List ℕ)) (values : List Tree) (name : List ℕ) (value : Tree) → length names ≡ length values
    → zip names values ++ (name, value) ∷ [] ≡ zip (names ++ name ∷ []) (values ++ value ∷ [])
zip-one [] [] name value same = refl
zip-one [] (v ∷ values) name value same = absurd (omega arith)
zip-one (n ∷ names) [] name value same = absurd (omega arith)
zip-one (n ∷ names) (v ∷ values) name value same = ap (λ more. (n, v) ∷ more) (zip-one names values name value (omega arith))

-- fields that have the first names, and one more field
pub named-more : (names : List (List ℕ)) (place : ℕ) (name : List ℕ) (value : Tree) (pairs more : List (List ℕ × Tree)) (values all : List Tree) → place < length names → length values ≡ place
    → name ≡ get_or names place name → pairs ≡ zip (take place names) values → more ≡ pairs ++ (name, value) ∷ [] → all ≡ values ++ value ∷ [] → more ≡ zip (take (place + 1) names) all
named-more names place name value pairs more values all below count is so_far more_is all_is =
    more_is ∙ ap (λ p. p ++ (name, value) ∷ []) so_far
    ∙ zip-one (take place names) values name value (omega (arith, length-take place names, below, count))
    ∙ ap₂ zip (ap (λ n. take place names ++ n ∷ []) is ∙ sym (take_more names place name below)) (sym all_is)

-- the row after a field that isn't quoted
module _ (opts : ReadOpts) (values : List Tree) (text : List ℕ) (some : 0 < length opts.ifs) (plain : starts_quoted text ≡ false) where
  plain-row : with_values (values ++ tree_of_data opts.infer (before_next opts.ifs text) ∷ []) ≡ field_row opts (with_values values) text
  plain-row =
      let row = with_values values in
      sym (ap (λ quoted. cond quoted (quoted_row opts.ifs row (drop 1 text)) (with_value row (tree_of_data opts.infer (before_next opts.ifs text)))) plain)

  pub plain-left : (left : Option (List ℕ)) → left ≡ after_row_field opts.ifs text
      → row_with opts.infer (with_values (values ++ tree_of_data opts.infer (before_next opts.ifs text) ∷ [])) (left_reading opts.ifs left)
      ≡ row_with opts.infer (with_values values) (csv_reading opts.ifs text)
  plain-left None is =
      ap (λ row. row_with opts.infer row (left_reading opts.ifs None)) plain-row
      ∙ row-ended (field_row opts (with_values values) text) (sym (ap (λ row. row.quotes) plain-row))
      ∙ field-last opts (with_values values) text some refl (sym is)
    where
      row-ended : (row : RowState) → row.quotes ≡ None → row_with opts.infer row (left_reading opts.ifs None) ≡ row
      row-ended row closed = sym (ap (λ q. record { values = row.values; quotes = q }) closed ∙ ap (λ v. record { values = v; quotes = None }) (sym (append-nil row.values)))
  plain-left (Some rest) is =
      ap (λ row. row_with opts.infer row (csv_reading opts.ifs rest)) plain-row
      ∙ field-more opts (with_values values) text some refl rest (sym is)

-- the row after a field of a text that isn't quoted, which the end or a separator follows
module _ (opts : ReadOpts) (values now : List Tree) (text : List ℕ) (some : 0 < length opts.ifs) (plain : starts_quoted text ≡ false) where
  after-plain : after_row_field opts.ifs text ≡ after_next opts.ifs text
  after-plain = ap (λ quoted. cond quoted (after_quoted opts.ifs (drop 1 text)) (after_next opts.ifs text)) plain

  abbrev before : Option ℕ → List ℕ
  before place = elim place [ Some n ↦ take n text | None ↦ text ]

  abbrev following : Option ℕ → Option (List ℕ)
  following place = elim place [ Some n ↦ Some (drop (n + length opts.ifs) text) | None ↦ None ]

  found : (place : Option ℕ) → place_in opts.ifs text ≡ place → now ≡ values ++ tree_of_data opts.infer (before place) ∷ []
      → row_with opts.infer (with_values now) (left_reading opts.ifs (following place)) ≡ row_with opts.infer (with_values values) (csv_reading opts.ifs text)
  found place is now_is =
      ap (λ v. row_with opts.infer (with_values v) (left_reading opts.ifs (following place))) (now_is ∙ ap (λ p. values ++ tree_of_data opts.infer (before p) ∷ []) (sym is))
      ∙ plain-left opts values text some plain (following place) (sym (after-plain ∙ ap following is))

  pub plain-last : place_in opts.ifs text ≡ None → now ≡ values ++ tree_of_data opts.infer text ∷ []
      → row_with opts.infer (with_values now) (left_reading opts.ifs None) ≡ row_with opts.infer (with_values values) (csv_reading opts.ifs text)
  plain-last = found None

  pub plain-more : (len : ℕ) → place_in opts.ifs text ≡ Some len → now ≡ values ++ tree_of_data opts.infer (take len text) ∷ []
      → row_with opts.infer (with_values now) (csv_reading opts.ifs (drop (len + length opts.ifs) text)) ≡ row_with opts.infer (with_values values) (csv_reading opts.ifs text)
  plain-more len = found (Some len)

-- the record of a row with a value for each name is what the row gives
or-true : (a b : Bool) → b ≡ true → (a || b) ≡ true
or-true true b is = refl
or-true false b is = is

pub named-given : (opts : ReadOpts) (header : List (List ℕ)) (row : RowState) (made : List (List ℕ × Tree)) (distinct : Bool) → (opts.dedupe || distinct) ≡ true
    → (distinct ≡ true → distinct_names header ≡ header) → IsNamed header row made → IsGiven opts (Some header) row made
named-given opts header row made distinct pushed is named =
    let values = row.values in
    let pairs = record_of opts.dedupe (row_keys header (length values)) values in
    record {
      closed = named.closed;
      kept = refl;
      items = λ file line.
          ap (λ b. cond b (fields pairs ∷ []) (fault (Length file line (length header) (length values)) ∷ [])) (or-true opts.ragged (eqb (length values) (length header)) (eq-eqb (length values) (length header) named.full))
          ∙ ap (λ p. fields p ∷ []) (sym (named.pairs ∙ full-made opts.dedupe distinct header values named.full named.few pushed is));
    }

-- a line that begins a row of CSV
pub given-taken : (opts : ReadOpts) (header : Option (List (List ℕ))) (names : List (List ℕ)) (row now : RowState) (text : List ℕ) (distinct : Bool) → opts.format ≡ format.Csv → header ≡ Some names → row ≡ no_row
    → (opts.dedupe || distinct) ≡ true → (distinct ≡ true → distinct_names names ≡ names) → (made : Option (List (List ℕ × Tree)))
    → MatchOption made (now ≡ row_with opts.infer no_row (csv_reading opts.ifs text)) (λ given. IsNamed names (row_with opts.infer no_row (csv_reading opts.ifs text)) given)
    → MatchOption made (now ≡ row_taken opts row text) (λ given. IsGiven opts header (row_taken opts row text) given)
given-taken opts header names row now text distinct csv some new pushed is made found =
    let reading = csv_reading opts.ifs text in
    let taken : row_taken opts row text ≡ row_with opts.infer no_row reading =
    ap (λ r. row_taken opts r text) new ∙ ap (λ f. row_with opts.infer no_row (elim f [ format.Tsv ↦ tsv_reading opts.ifs text | _ ↦ reading ])) csv in
    each made found taken
  where
    each : (made : Option (List (List ℕ × Tree)))
        → MatchOption made (now ≡ row_with opts.infer no_row (csv_reading opts.ifs text)) (λ given. IsNamed names (row_with opts.infer no_row (csv_reading opts.ifs text)) given)
        → row_taken opts row text ≡ row_with opts.infer no_row (csv_reading opts.ifs text)
        → MatchOption made (now ≡ row_taken opts row text) (λ given. IsGiven opts header (row_taken opts row text) given)
    each None found taken = found ∙ sym taken
    each (Some given) found taken =
        subst (λ h. IsGiven opts h (row_taken opts row text) given) (sym some)
        (subst (λ r. IsGiven opts (Some names) r given) (sym taken) (named-given opts names (row_with opts.infer no_row (csv_reading opts.ifs text)) given distinct pushed is found))
