-- TSV: what is written of texts is read as these texts.
use Rattle.std.proofs.Common.{◌≡◌, ℕ, eqb, true, false, not, ◌&&◌, List, [], ◌∷◌, ◌++◌, map, length, Some, refl, ap, ap₂, sym, ◌∙◌, inl, inr}
use Rattle.std.specs.List.{list_all}
use Rattle.std.proofs.lemmas.Bool.{cases_Bool, and_from, and_parts, eqb-true, not-true, true≢false}
use Rattle.std.specs.Str.{bytes_eq}
use Rattle.std.proofs.lemmas.Slice.Eq.{bytes_eq-Decides}
use Rattle.mlr_event.specs.declared.options.Format.TheVariants.{Tsv}
use Rattle.mlr_event.specs.Defaults.{default_read}
use Rattle.read_csv.specs.Fields.{Field, value_of}
use Rattle.read_csv.specs.Tsv.{tsv_fields, unescaped}
use Rattle.read_csv.specs.Rows.{row_fields}
use Rattle.mlr_lines.specs.Lines.{without_return}
use Rattle.writers.specs.Tsv.{tsv_escaped, tsv_field}
use Rattle.mlr_laws.specs.Sheets.{as_data, fits_tsv, tsv_text}
use Rattle.mlr_laws.proofs.Bytes.{lacks, lacks-append, lacks-joined, not-cut, split-joined}
use Rattle.mlr_laws.proofs.Rows.{IsFormat}

-- a byte as it is written, and the text after it
escape-tab : (b : ℕ) → eqb b 9 ≡ true → tsv_escaped b ≡ 92 ∷ 116 ∷ []
escape-tab b is = rw is refl

escape-feed : (b : ℕ) → eqb b 9 ≡ false → eqb b 10 ≡ true → tsv_escaped b ≡ 92 ∷ 110 ∷ []
escape-feed b isnt is = rw isnt (rw is refl)

escape-slash : (b : ℕ) → eqb b 9 ≡ false → eqb b 10 ≡ false → eqb b 92 ≡ true → tsv_escaped b ≡ 92 ∷ 92 ∷ []
escape-slash b isnt isnt_2 is = rw isnt (rw isnt_2 (rw is refl))

escape-other : (b : ℕ) → eqb b 9 ≡ false → eqb b 10 ≡ false → eqb b 92 ≡ false → tsv_escaped b ≡ b ∷ []
escape-other b isnt isnt_2 isnt_3 = rw isnt (rw isnt_2 (rw isnt_3 refl))

data Kind (b : ℕ) : Type 0 where
  is_tab : b ≡ 9 → tsv_escaped b ≡ 92 ∷ 116 ∷ [] → Kind b
  is_feed : b ≡ 10 → tsv_escaped b ≡ 92 ∷ 110 ∷ [] → Kind b
  is_slash : b ≡ 92 → tsv_escaped b ≡ 92 ∷ 92 ∷ [] → Kind b
  is_other : eqb b 9 ≡ false → eqb b 10 ≡ false → eqb b 92 ≡ false → tsv_escaped b ≡ b ∷ [] → Kind b

kind_of : (b : ℕ) → Kind b
kind_of b =
    elim (cases_Bool (eqb b 9)) as (λ _. Kind b) [
      | inl is ↦ is_tab (eqb-true b 9 is) (escape-tab b is)
      | inr isnt ↦ elim (cases_Bool (eqb b 10)) as (λ _. Kind b) [
        | inl is ↦ is_feed (eqb-true b 10 is) (escape-feed b isnt is)
        | inr isnt_2 ↦ elim (cases_Bool (eqb b 92)) as (λ _. Kind b) [
          | inl is ↦ is_slash (eqb-true b 92 is) (escape-slash b isnt isnt_2 is)
          | inr isnt_3 ↦ is_other isnt isnt_2 isnt_3 (escape-other b isnt isnt_2 isnt_3)
        ]
      ]
    ]

unescaped-other : (b : ℕ) (text : List ℕ) → eqb b 92 ≡ false → unescaped (b ∷ text) ≡ b ∷ unescaped text
unescaped-other b [] isnt = refl
unescaped-other b (c ∷ text) isnt = rw isnt refl

field-again : (text : List ℕ) → unescaped (tsv_field text) ≡ text
field-again [] = refl
field-again (b ∷ text) =
    elim (kind_of b) as (λ _. unescaped (tsv_field (b ∷ text)) ≡ b ∷ text) [
      | is_tab is escape ↦ ap (λ e. unescaped (e ++ tsv_field text)) escape ∙ ap₂ (λ c more. c ∷ more) (sym is) (field-again text)
      | is_feed is escape ↦ ap (λ e. unescaped (e ++ tsv_field text)) escape ∙ ap₂ (λ c more. c ∷ more) (sym is) (field-again text)
      | is_slash is escape ↦ ap (λ e. unescaped (e ++ tsv_field text)) escape ∙ ap₂ (λ c more. c ∷ more) (sym is) (field-again text)
      | is_other isnt isnt_2 isnt_3 escape ↦ ap (λ e. unescaped (e ++ tsv_field text)) escape ∙ unescaped-other b (tsv_field text) isnt_3 ∙ ap (λ more. b ∷ more) (field-again text)
    ]

-- no field has a tab or LF
lacks-escaped : (c : ℕ) → lacks c (92 ∷ 116 ∷ 110 ∷ []) ≡ true → (b : ℕ) → lacks c (92 ∷ 116 ∷ []) ≡ true → lacks c (92 ∷ 110 ∷ []) ≡ true → lacks c (92 ∷ 92 ∷ []) ≡ true
    → ((eqb b 9 ≡ false) → (eqb b 10 ≡ false) → lacks c (b ∷ []) ≡ true) → lacks c (tsv_escaped b) ≡ true
lacks-escaped c none b tab feed slash other =
    elim (kind_of b) as (λ _. lacks c (tsv_escaped b) ≡ true) [
      | is_tab is escape ↦ ap (lacks c) escape ∙ tab
      | is_feed is escape ↦ ap (lacks c) escape ∙ feed
      | is_slash is escape ↦ ap (lacks c) escape ∙ slash
      | is_other isnt isnt_2 isnt_3 escape ↦ ap (lacks c) escape ∙ other isnt isnt_2
    ]

no-tab : (text : List ℕ) → lacks 9 (tsv_field text) ≡ true
no-tab [] = refl
no-tab (b ∷ text) = lacks-append 9 (tsv_escaped b) (tsv_field text) (lacks-escaped 9 refl b refl refl refl (λ isnt isnt_2. ap (λ t. not t && true) isnt)) (no-tab text)

no-feed : (text : List ℕ) → lacks 10 (tsv_field text) ≡ true
no-feed [] = refl
no-feed (b ∷ text) = lacks-append 10 (tsv_escaped b) (tsv_field text) (lacks-escaped 10 refl b refl refl refl (λ isnt isnt_2. ap (λ t. not t && true) isnt_2)) (no-feed text)

no-tabs : (all : List (List ℕ)) → list_all (lacks 9) (map tsv_field all) ≡ true
no-tabs [] = refl
no-tabs (text ∷ all) = and_from (lacks 9 (tsv_field text)) (list_all (lacks 9) (map tsv_field all)) (no-tab text) (no-tabs all)

no-feeds : (all : List (List ℕ)) → list_all (lacks 10) (map tsv_field all) ≡ true
no-feeds [] = refl
no-feeds (text ∷ all) = and_from (lacks 10 (tsv_field text)) (list_all (lacks 10) (map tsv_field all)) (no-feed text) (no-feeds all)

line-lacks : (all : List (List ℕ)) → lacks 10 (tsv_text all) ≡ true
line-lacks all = lacks-joined 10 (9 ∷ []) (map tsv_field all) refl (no-feeds all)

-- the fields of a line of these texts
abbrev pub plain_fields : List (List ℕ) → List Field
plain_fields all = map (λ text. record { quoted = false; text = text }) all

fields-again : (all : List (List ℕ)) → map (λ part. record { quoted = false; text = unescaped part }) (map tsv_field all) ≡ plain_fields all
fields-again [] = refl
fields-again (text ∷ all) = ap₂ (λ t more. record { quoted = false; text = t } ∷ more) (field-again text) (fields-again all)

found : (text : List ℕ) (more : List (List ℕ)) → tsv_fields (9 ∷ []) (tsv_text (text ∷ more)) ≡ plain_fields (text ∷ more)
found text more =
    ap (map (λ part. record { quoted = false; text = unescaped part })) (split-joined 9 refl (tsv_field text) (map tsv_field more) (no-tabs (text ∷ more)))
    ∙ fields-again (text ∷ more)

plain-names : (all : List (List ℕ)) → map (λ f. f.text) (plain_fields all) ≡ all
plain-names [] = refl
plain-names (text ∷ all) = ap (λ more. text ∷ more) (plain-names all)

plain-values : (all : List (List ℕ)) → map (value_of (record { none = false; octal = false })) (plain_fields all) ≡ map as_data all
plain-values [] = refl
plain-values (text ∷ all) = ap (λ more. as_data text ∷ more) (plain-values all)

row-of : (all : List (List ℕ)) → fits_tsv all ≡ true → row_fields (default_read Tsv) (tsv_text all) ≡ Some (plain_fields all)
row-of [] fit = absurd (true≢false (sym fit))
row-of (text ∷ more) fit = ap Some (found text more)

pub tsv-format : IsFormat (default_read Tsv) as_data fits_tsv tsv_text plain_fields
tsv-format = record {
  rows = λ all fit.
      let parts = and_parts (not (eqb (length (tsv_text all)) 0)) (bytes_eq (without_return (tsv_text all)) (tsv_text all)) fit in
      record {
        closed = row-of all fit;
        ended = (bytes_eq-Decides (without_return (tsv_text all)) (tsv_text all)).0 parts.1;
        some = not-true (eqb (length (tsv_text all)) 0) parts.0;
        open_at = λ before following is. absurd (not-cut 10 refl (tsv_text all) before following (line-lacks all) is);
      };
  names = λ all fit. plain-names all;
  values = λ all fit. plain-values all;
  none = refl;
}
