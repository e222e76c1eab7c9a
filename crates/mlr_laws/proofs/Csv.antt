-- CSV: what is written of texts is read as these texts.
use Rattle.std.proofs.Common.{◌≡◌, ℕ, suc, ◌+◌, eqb, Bool, true, false, cond, not, ◌||◌, List, [], ◌∷◌, ◌++◌, map, length, take, drop, Option, Some, None, is_some, refl, ap, ap₂, sym, ◌∙◌, append_assoc, arith, inl, inr}
use Rattle.std.specs.List.{list_any}
use Rattle.std.specs.Option.{option_map}
use Rattle.std.proofs.lemmas.Bool.{cases_Bool, and_from, and_parts, not-true, or_parts, true≢false}
use Rattle.std.proofs.lemmas.List.{append-nil}
use Rattle.std.proofs.Math.Seq.{take-append_seam}
use Rattle.mlr_spec.specs.Json.{joined}
use Rattle.mlr_spec.specs.Split.{place_in}
use Rattle.mlr_lines.specs.Lines.{without_return}
use Rattle.read_csv.specs.Csv.{First, after_next, before_next, csv_fields, first_field, first_plain, first_quoted, quoted_at}
use Rattle.read_csv.specs.Fields.{Field, quoted_value, value_of}
use Rattle.read_csv.proofs.Opening.{csv-is}
use Rattle.writers.specs.declared.options.WriteOpts.{WriteOpts}
use Rattle.writers.specs.Csv.{csv_field, never_empty, quoted, wants_quotes}
use Rattle.mlr_event.specs.declared.options.Format.TheVariants.{Csv}
use Rattle.mlr_event.specs.Defaults.{default_read}
use Rattle.mlr_spec.specs.Tree.{empty}
use Rattle.std.proofs.lemmas.Bool.Decides.{nat_tests}
use Rattle.mlr_laws.specs.Sheets.{as_data, csv_text, csv_value, fits_csv, is_quoted}
use Rattle.mlr_laws.proofs.Rows.{IsFormat, IsRow}
use Rattle.mlr_laws.proofs.Bytes.{lacks, none-lacks, not-cut, place-none, place-some}
use Rattle.mlr_laws.proofs.Quotes.{closes-before, closes-last, escaped, open-until, quoted-again, same-first, same-rest}
use Rattle.mlr_laws.proofs.Returns.{return-append, return-more, return-none, return-one}

-- where a text that is cut at an LF is two texts, the LF is in one of them
data Cut (first second before following : List ℕ) : Type 0 where
  within : (more : List ℕ) → first ≡ before ++ 10 ∷ more → Cut first second before following
  after-it : (later : List ℕ) → before ≡ first ++ later → second ≡ later ++ 10 ∷ following → Cut first second before following

cut-more : (a b : ℕ) (first second before following : List ℕ) → a ≡ b → Cut first second before following → Cut (a ∷ first) second (b ∷ before) following
cut-more a b first second before following same (within more is) = within more (ap₂ (λ x xs. x ∷ xs) same is)
cut-more a b first second before following same (after-it later is here) = after-it later (ap₂ (λ x xs. x ∷ xs) (sym same) is) here

cut-of : (first second before following : List ℕ) → first ++ second ≡ before ++ 10 ∷ following → Cut first second before following
cut-of [] second before following is = after-it before refl is
cut-of (a ∷ first) second [] following is = within first (ap (λ x. x ∷ first) (same-first a 10 (first ++ second) following is))
cut-of (a ∷ first) second (b ∷ before) following is =
    cut-more a b first second before following (same-first a b (first ++ second) (before ++ 10 ∷ following) is)
    (cut-of first second before following (same-rest a b (first ++ second) (before ++ 10 ∷ following) is))

some-bytes : (text : List ℕ) (b : ℕ) (more : List ℕ) → text ++ b ∷ more ≡ [] → ⊥
some-bytes [] b more none = cc
some-bytes (a ∷ text) b more none = cc

comma-ends : (text : List ℕ) → without_return text ≡ text → without_return (44 ∷ text) ≡ 44 ∷ text
comma-ends [] is = return-one 44 refl
comma-ends (b ∷ text) is = return-more 44 b text ∙ ap (λ t. 44 ∷ t) is

-- a text without these bytes is written as it is
module _ (opts : WriteOpts) (comma : opts.ofs ≡ 44 ∷ []) where
  lacks-wanted : (text : List ℕ) → list_any wants_quotes text ≡ false → (lacks 34 text ≡ true) × (lacks 10 text ≡ true) × (lacks 13 text ≡ true)
  lacks-wanted [] none = (refl, refl, refl)
  lacks-wanted (b ∷ text) none =
      let parts = or_parts (wants_quotes b) (list_any wants_quotes text) none in
      let first = or_parts (eqb b 34 || eqb b 10) (eqb b 13) parts.0 in
      let both = or_parts (eqb b 34) (eqb b 10) first.0 in
      let later = lacks-wanted text parts.1 in (
        and_from (not (eqb b 34)) (lacks 34 text) (ap not both.0) later.0,
        and_from (not (eqb b 10)) (lacks 10 text) (ap not both.1) later.1,
        and_from (not (eqb b 13)) (lacks 13 text) (ap not first.1) later.2,
      )

  record IsPlain (text : List ℕ) : Type 0 where
    written : csv_field opts text ≡ text
    no_quote : lacks 34 text ≡ true
    no_feed : lacks 10 text ≡ true
    no_return : lacks 13 text ≡ true
    no_comma : lacks 44 text ≡ true

  -- a text is written as it is, or in quotes
  data Written (text : List ℕ) : Type 0 where
    plain : is_quoted opts text ≡ false → IsPlain text → Written text
    in_quotes : is_quoted opts text ≡ true → csv_field opts text ≡ quoted text → Written text

  written-as : (text : List ℕ) → Written text
  written-as text =
      elim (cases_Bool (is_quoted opts text)) as (λ _. Written text) [
        | inl is ↦ in_quotes is (ap (λ t. cond t (quoted text) text) is)
        | inr isnt ↦
            let parts = or_parts (opts.quote_all || list_any wants_quotes text) (is_some (place_in opts.ofs text)) isnt in
            let first = or_parts opts.quote_all (list_any wants_quotes text) parts.0 in
            let wanted = lacks-wanted text first.1 in
            plain isnt (record {
              written = ap (λ t. cond t (quoted text) text) isnt;
              no_quote = wanted.0;
              no_feed = wanted.1;
              no_return = wanted.2;
              no_comma = none-lacks 44 text (ap (λ ofs. is_some (place_in ofs text)) (sym comma) ∙ parts.1);
            })
      ]

  abbrev pub field_of : List ℕ → Field
  field_of text = record { quoted = is_quoted opts text; text = text }

  -- the first field, alone and before a comma
  abbrev sep : List ℕ
  sep = 44 ∷ []

  first-plain : (b : ℕ) (text : List ℕ) → eqb b 34 ≡ false → first_field sep (b ∷ text) ≡ first_plain sep (b ∷ text)
  first-plain b text isnt = rw isnt refl

  plain-first : (text rest : List ℕ) → lacks 34 text ≡ true → lacks 44 text ≡ true
      → first_field sep (text ++ 44 ∷ rest) ≡ Some (record { field = record { quoted = false; text = text }; following = Some rest })
  plain-first text rest no_quote no_comma = starts text no_quote ∙ ap₂ (λ b a. Some (record { field = record { quoted = false; text = b }; following = a })) before_it after_it
    where
      place : place_in sep (text ++ 44 ∷ rest) ≡ Some (length text)
      place = place-some 44 refl text rest no_comma

      before_it : before_next sep (text ++ 44 ∷ rest) ≡ text
      before_it = ap (λ p. elim p [ Some k ↦ take k (text ++ 44 ∷ rest) | None ↦ text ++ 44 ∷ rest ]) place ∙ take-append_seam text (44 ∷ rest)

      after-seam : (text : List ℕ) → drop (length text + 1) (text ++ 44 ∷ rest) ≡ rest
      after-seam [] = refl
      after-seam (b ∷ text) =
          let count : length (b ∷ text) + 1 ≡ suc (length text + 1) = omega arith in
          ap (λ n. drop n (b ∷ text ++ 44 ∷ rest)) count ∙ after-seam text

      after_it : after_next sep (text ++ 44 ∷ rest) ≡ Some rest
      after_it = ap (λ p. elim p [ Some k ↦ Some (drop (k + 1) (text ++ 44 ∷ rest)) | None ↦ None ]) place ∙ ap Some (after-seam text)

      starts : (t : List ℕ) → lacks 34 t ≡ true → first_field sep (t ++ 44 ∷ rest) ≡ first_plain sep (t ++ 44 ∷ rest)
      starts [] none = refl
      starts (b ∷ t) none = first-plain b (t ++ 44 ∷ rest) (not-true (eqb b 34) (and_parts (not (eqb b 34)) (lacks 34 t) none).0)

  plain-last : (text : List ℕ) → lacks 34 text ≡ true → lacks 44 text ≡ true → first_field sep text ≡ Some (record { field = record { quoted = false; text = text }; following = None })
  plain-last [] no_quote no_comma = refl
  plain-last (b ∷ text) no_quote no_comma =
      let none = place-none 44 (b ∷ text) no_comma in
      first-plain b text (not-true (eqb b 34) (and_parts (not (eqb b 34)) (lacks 34 text) no_quote).0)
      ∙ ap (λ p. Some (record {
        field = record { quoted = false; text = elim p [ Some k ↦ take k (b ∷ text) | None ↦ b ∷ text ] };
        following = elim p [ Some k ↦ Some (drop (k + 1) (b ∷ text)) | None ↦ None ];
      })) none

  quoted-first : (text rest : List ℕ) → first_field sep (quoted text ++ 44 ∷ rest) ≡ Some (record { field = record { quoted = true; text = text }; following = Some rest })
  quoted-first text rest =
      let place = place-some 44 refl [] rest refl in
      ap (λ t. first_quoted sep (quoted_at t)) (append_assoc (escaped text) (34 ∷ []) (44 ∷ rest))
      ∙ ap (first_quoted sep) (quoted-again (44 ∷ rest) (closes-before 44 rest refl) text)
      ∙ ap (λ p. Some (record {
        field = record { quoted = true; text = text ++ (elim p [ Some k ↦ take k (44 ∷ rest) | None ↦ 44 ∷ rest ]) };
        following = elim p [ Some k ↦ Some (drop (k + 1) (44 ∷ rest)) | None ↦ None ];
      })) place
      ∙ ap (λ t. Some (record { field = record { quoted = true; text = t }; following = Some rest })) (append-nil text)

  quoted-alone : (text : List ℕ) → first_field sep (quoted text) ≡ Some (record { field = record { quoted = true; text = text }; following = None })
  quoted-alone text =
      ap (first_quoted sep) (quoted-again [] closes-last text)
      ∙ ap (λ t. Some (record { field = record { quoted = true; text = t }; following = None })) (append-nil text)

  first-more : (text rest : List ℕ) → first_field sep (csv_field opts text ++ 44 ∷ rest) ≡ Some (record { field = field_of text; following = Some rest })
  first-more text rest =
      elim (written-as text) as (λ _. first_field sep (csv_field opts text ++ 44 ∷ rest) ≡ Some (record { field = field_of text; following = Some rest })) [
        | plain isnt is ↦
            ap (λ t. first_field sep (t ++ 44 ∷ rest)) is.written ∙ plain-first text rest is.no_quote is.no_comma
            ∙ ap (λ q. Some (record { field = record { quoted = q; text = text }; following = Some rest })) (sym isnt)
        | in_quotes is written ↦
            ap (λ t. first_field sep (t ++ 44 ∷ rest)) written ∙ quoted-first text rest
            ∙ ap (λ q. Some (record { field = record { quoted = q; text = text }; following = Some rest })) (sym is)
      ]

  first-last : (text : List ℕ) → first_field sep (csv_field opts text) ≡ Some (record { field = field_of text; following = None })
  first-last text =
      elim (written-as text) as (λ _. first_field sep (csv_field opts text) ≡ Some (record { field = field_of text; following = None })) [
        | plain isnt is ↦
            ap (first_field sep) is.written ∙ plain-last text is.no_quote is.no_comma
            ∙ ap (λ q. Some (record { field = record { quoted = q; text = text }; following = None })) (sym isnt)
        | in_quotes is written ↦
            ap (first_field sep) written ∙ quoted-alone text
            ∙ ap (λ q. Some (record { field = record { quoted = q; text = text }; following = None })) (sym is)
      ]

  -- the fields of a text, from its first field on
  abbrev fields_at : Option First → Option (List Field)
  fields_at found = elim found [ None ↦ None | Some first ↦ (elim first.following [ None ↦ Some (first.field ∷ []) | Some rest ↦ option_map (λ fields. first.field ∷ fields) (csv_fields sep rest) ]) ]

  fields-are : (text : List ℕ) → csv_fields sep text ≡ fields_at (first_field sep text)
  fields-are text = csv-is sep text (omega arith)

  fields-more : (text rest : List ℕ) → csv_fields sep (csv_field opts text ++ 44 ∷ rest) ≡ option_map (λ fields. field_of text ∷ fields) (csv_fields sep rest)
  fields-more text rest = fields-are (csv_field opts text ++ 44 ∷ rest) ∙ ap fields_at (first-more text rest)

  abbrev line_of : List ℕ → List (List ℕ) → List ℕ
  line_of text more = joined sep (map (csv_field opts) (text ∷ more))

  line-more : (text next : List ℕ) (more : List (List ℕ)) → line_of text (next ∷ more) ≡ csv_field opts text ++ 44 ∷ line_of next more
  line-more text next more = append_assoc (csv_field opts text) sep (line_of next more)

  all-fields : (text : List ℕ) (more : List (List ℕ)) → csv_fields sep (line_of text more) ≡ Some (map field_of (text ∷ more))
  all-fields text [] = fields-are (csv_field opts text) ∙ ap fields_at (first-last text)
  all-fields text (next ∷ more) =
      ap (csv_fields sep) (line-more text next more) ∙ fields-more text (line_of next more) ∙ ap (option_map (λ fields. field_of text ∷ fields)) (all-fields next more)

  -- an open quote
  quotes-open : (text : List ℕ) → quoted_at text ≡ None → csv_fields sep (34 ∷ text) ≡ None
  quotes-open text none = fields-are (34 ∷ text) ∙ ap (λ found. fields_at (first_quoted sep found)) none

  after-quote : (before : List ℕ) → quoted_at (without_return before) ≡ None → csv_fields sep (without_return (34 ∷ before)) ≡ None
  after-quote [] none = ap (csv_fields sep) (return-one 34 refl) ∙ quotes-open [] none
  after-quote (b ∷ before) none = ap (csv_fields sep) (return-more 34 b before) ∙ quotes-open (without_return (b ∷ before)) none

  field-open : (text before following : List ℕ) → csv_field opts text ≡ before ++ 10 ∷ following → csv_fields sep (without_return before) ≡ None
  field-open text before following is =
      elim (written-as text) as (λ _. csv_fields sep (without_return before) ≡ None) [
        | plain isnt plain_text ↦ absurd (not-cut 10 refl text before following plain_text.no_feed (sym plain_text.written ∙ is))
        | in_quotes quoted_is written ↦ up-to before (sym written ∙ is)
      ]
    where
      up-to : (before : List ℕ) → 34 ∷ (escaped text ++ 34 ∷ []) ≡ before ++ 10 ∷ following → csv_fields sep (without_return before) ≡ None
      up-to [] e = absurd (let f : 34 ≡ 10 = same-first 34 10 (escaped text ++ 34 ∷ []) following e in cc)
      up-to (b ∷ before) e =
          let first : 34 ≡ b = same-first 34 b (escaped text ++ 34 ∷ []) (before ++ 10 ∷ following) e in
          let none = open-until text before following (same-rest 34 b (escaped text ++ 34 ∷ []) (before ++ 10 ∷ following) e) in
          ap (λ x. csv_fields sep (without_return (x ∷ before))) (sym first) ∙ after-quote before none

  -- past a field and a comma
  past : (text later : List ℕ) → csv_fields sep (without_return later) ≡ None → csv_fields sep (without_return (csv_field opts text ++ 44 ∷ later)) ≡ None
  past text [] none = absurd (cc)
  past text (d ∷ later) none =
      ap (csv_fields sep) (return-append (csv_field opts text) 44 (d ∷ later) ∙ ap (λ t. csv_field opts text ++ t) (return-more 44 d later))
      ∙ fields-more text (without_return (d ∷ later)) ∙ ap (option_map (λ fields. field_of text ∷ fields)) none

  after-comma : (text next : List ℕ) (more : List (List ℕ)) (following : List ℕ)
      → ((later : List ℕ) → line_of next more ≡ later ++ 10 ∷ following → csv_fields sep (without_return later) ≡ None)
      → (later : List ℕ) → 44 ∷ line_of next more ≡ later ++ 10 ∷ following → csv_fields sep (without_return (csv_field opts text ++ later)) ≡ None
  after-comma text next more following open_rest [] here = absurd (let f : 44 ≡ 10 = same-first 44 10 (line_of next more) following here in cc)
  after-comma text next more following open_rest (c ∷ later) here =
      let byte : 44 ≡ c = same-first 44 c (line_of next more) (later ++ 10 ∷ following) here in
      let rest : line_of next more ≡ later ++ 10 ∷ following = same-rest 44 c (line_of next more) (later ++ 10 ∷ following) here in
      ap (λ x. csv_fields sep (without_return (csv_field opts text ++ x ∷ later))) (sym byte) ∙ past text later (open_rest later rest)

  -- up to an LF in a line of fields, a quote is open
  line-open : (text : List ℕ) (more : List (List ℕ)) (before following : List ℕ) → line_of text more ≡ before ++ 10 ∷ following → csv_fields sep (without_return before) ≡ None
  line-open text [] before following is = field-open text before following is
  line-open text (next ∷ more) before following is =
      let first = csv_field opts text in
      let rest = line_of next more in
      elim (cut-of first (44 ∷ rest) before following (sym (line-more text next more) ∙ is)) as (λ _. csv_fields sep (without_return before) ≡ None) [
        | within more_text here ↦ field-open text before more_text here
        | after-it later at here ↦ ap (λ t. csv_fields sep (without_return t)) at ∙ after-comma text next more following (λ l. line-open next more l following) later here
      ]

  -- no CR ends a line of fields
  field-ends : (text : List ℕ) → without_return (csv_field opts text) ≡ csv_field opts text
  field-ends text =
      elim (written-as text) as (λ _. without_return (csv_field opts text) ≡ csv_field opts text) [
        | plain isnt is ↦ ap without_return is.written ∙ return-none text is.no_return ∙ sym is.written
        | in_quotes is written ↦ ap without_return written ∙ return-append (34 ∷ escaped text) 34 [] ∙ ap (λ t. (34 ∷ escaped text) ++ t) (return-one 34 refl) ∙ sym written
      ]

  line-ends : (text : List ℕ) (more : List (List ℕ)) → without_return (line_of text more) ≡ line_of text more
  line-ends text [] = field-ends text
  line-ends text (next ∷ more) =
      let rest = line_of next more in
      ap without_return (line-more text next more) ∙ return-append (csv_field opts text) 44 rest
      ∙ ap (λ t. csv_field opts text ++ t) (comma-ends rest (line-ends next more)) ∙ sym (line-more text next more)

  -- a line without bytes is one field without bytes
  no-line : (text : List ℕ) (more : List (List ℕ)) → line_of text more ≡ [] → text ∷ more ≡ [] ∷ []
  no-line text [] none =
      elim (written-as text) as (λ _. text ∷ [] ≡ [] ∷ []) [
        | plain isnt is ↦ ap (λ t. t ∷ []) (sym is.written ∙ none)
        | in_quotes is written ↦ absurd (let e : 34 ∷ (escaped text ++ 34 ∷ []) ≡ [] = sym written ∙ none in cc)
      ]
  no-line text (next ∷ more) none = absurd (some-bytes (csv_field opts text) 44 (line_of next more) (sym (line-more text next more) ∙ none))

  -- the fields of a line
  abbrev pub fields_in : List ℕ → List (List ℕ) → List Field
  fields_in [] all = record { quoted = true; text = [] } ∷ []
  fields_in (b ∷ line) all = map field_of all

  abbrev pub csv_found : List (List ℕ) → List Field
  csv_found all = fields_in (joined sep (map (csv_field opts) all)) all

  row-for : (line text : List ℕ) (more : List (List ℕ)) → line_of text more ≡ line → IsRow (default_read Csv) (never_empty line) (fields_in line (text ∷ more))
  row-for [] text more is = record {
    closed = refl;
    ended = refl;
    some = refl;
    open_at = λ before following cut. absurd (not-cut 10 refl (34 ∷ 34 ∷ []) before following refl cut);
  }
  row-for (b ∷ line) text more is = record {
    closed = ap (csv_fields sep) (sym is) ∙ all-fields text more;
    ended = ap without_return (sym is) ∙ line-ends text more ∙ is;
    some = grind (arith, nat_tests);
    open_at = λ before following cut. line-open text more before following (is ∙ cut);
  }

  names-for : (line text : List ℕ) (more : List (List ℕ)) → line_of text more ≡ line → map (λ f. f.text) (fields_in line (text ∷ more)) ≡ text ∷ more
  names-for [] text more is = sym (no-line text more is)
  names-for (b ∷ line) text more is = all-texts (text ∷ more)
    where
      all-texts : (all : List (List ℕ)) → map (λ f. f.text) (map field_of all) ≡ all
      all-texts [] = refl
      all-texts (t ∷ all) = ap (λ rest. t ∷ rest) (all-texts all)

  values-for : (line text : List ℕ) (more : List (List ℕ)) → line_of text more ≡ line → map (value_of (record { none = false; octal = false })) (fields_in line (text ∷ more)) ≡ map (csv_value opts) (text ∷ more)
  values-for [] text more is = sym (ap (map (csv_value opts)) (no-line text more is) ∙ ap (λ v. v ∷ []) (nothing (is_quoted opts [])))
    where
      nothing : (t : Bool) → cond t (quoted_value []) (as_data []) ≡ empty
      nothing true = refl
      nothing false = refl
  values-for (b ∷ line) text more is = all-values (text ∷ more)
    where
      all-values : (all : List (List ℕ)) → map (value_of (record { none = false; octal = false })) (map field_of all) ≡ map (csv_value opts) all
      all-values [] = refl
      all-values (t ∷ all) = ap (λ rest. csv_value opts t ∷ rest) (all-values all)

  pub csv-format : IsFormat (default_read Csv) (csv_value opts) fits_csv (csv_text opts) csv_found
  csv-format = record {
    rows = λ all fit. rows all fit;
    names = λ all fit. names all fit;
    values = λ all fit. values all fit;
    none = refl;
  }
    where
      rows : (all : List (List ℕ)) → fits_csv all ≡ true → IsRow (default_read Csv) (csv_text opts all) (csv_found all)
      rows [] fit = absurd (true≢false (sym fit))
      rows (text ∷ more) fit = row-for (line_of text more) text more refl

      names : (all : List (List ℕ)) → fits_csv all ≡ true → map (λ f. f.text) (csv_found all) ≡ all
      names [] fit = absurd (true≢false (sym fit))
      names (text ∷ more) fit = names-for (line_of text more) text more refl

      values : (all : List (List ℕ)) → fits_csv all ≡ true → map (value_of (record { none = false; octal = false })) (csv_found all) ≡ map (csv_value opts) all
      values [] fit = absurd (true≢false (sym fit))
      values (text ∷ more) fit = values-for (line_of text more) text more refl
