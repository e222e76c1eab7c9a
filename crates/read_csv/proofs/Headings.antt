-- Rows of values agree with rows of fields.
use Rattle.std.proofs.Common.{◌≡◌, ℕ, Bool, true, false, cond, ◌||◌, eqb, List, [], ◌∷◌, map, length, drop, Option, Some, None, refl, ap, ap₂, ◌∙◌, inl, inr}
use Rattle.std.specs.Prelude.{nat_le, nat_lt, neg_ℤ, pos, ◌-ℤ◌, ◌^◌, not, ◌&&◌}
use Rattle.std.proofs.lemmas.Bool.{cases_Bool, true≢false}
use Rattle.std.proofs.lemmas.List.{length-map}
use Rattle.mlr_spec.specs.declared.infer.InferOpts.{InferOpts}
use Rattle.mlr_spec.specs.declared.infer.Kind.{Kind}
use Rattle.mlr_spec.specs.declared.infer.Kind.TheVariants.{Empty, Str, Int, Frac, Wide}
use Rattle.mlr_spec.specs.Infer.{kind_of, kind_after_sign, tree_of_kind, whole, word, is_octal, are_digits, is_based, is_fraction, number, base_of, is_negative, unsigned}
use Rattle.mlr_spec.specs.Tree.{text_of}
use Rattle.mlr_event.specs.declared.names.FileRef.{FileRef}
use Rattle.mlr_event.specs.declared.options.ReadOpts.{ReadOpts}
use Rattle.mlr_event.specs.declared.fault.Fault.TheVariants.{Length}
use Rattle.mlr_event.specs.Reading.{fields, fault, record_of}
use Rattle.read_csv.specs.Fields.{Field, quoted_value, value_of}
use Rattle.read_csv.specs.Headers.{header_of, values_items, closed_values, values_header}
use Rattle.read_csv.specs.Rows.{positions_from, row_keys, row_items, first_header}
use Rattle.read_csv.specs.RowLines.{closed_items, header_after}

abbrev is_empty_kind : Kind → Bool
is_empty_kind Empty = true
is_empty_kind _ = false

either-kind : (test : Bool) (kind other : Kind) → is_empty_kind kind ≡ false → is_empty_kind other ≡ false → is_empty_kind (cond test kind other) ≡ false
either-kind true kind other is is_other = is
either-kind false kind other is is_other = is_other

whole-kind : (negative : Bool) (n : ℕ) → is_empty_kind (whole negative n) ≡ false
whole-kind true n = either-kind (nat_le n (2 ^ 63)) (Int (neg_ℤ (pos n))) Wide refl refl
whole-kind false n = either-kind (nat_lt n (2 ^ 63)) (Int (pos n)) Wide refl refl

word-kind : (negative : Bool) (n : ℕ) → is_empty_kind (word negative n) ≡ false
word-kind negative n = either-kind (not negative && nat_le (2 ^ 63) n && nat_lt n (2 ^ 64)) (Int (pos n -ℤ pos (2 ^ 64))) (whole negative n) refl (whole-kind negative n)

sign-kind : (octal negative : Bool) (text : List ℕ) → is_empty_kind (kind_after_sign octal negative text) ≡ false
unfolding kind_after_sign
sign-kind octal negative text =
    let last : Kind = cond (is_fraction text) Frac Str in
    let based : Kind = cond (is_based text) (word negative (number (base_of text) (drop 2 text))) last in
    let decimals : Kind = cond (are_digits 10 text) (whole negative (number 10 text)) based in
    either-kind (octal && is_octal text) (whole negative (number 8 text)) decimals (whole-kind negative (number 8 text)) (
    either-kind (are_digits 10 text) (whole negative (number 10 text)) based (whole-kind negative (number 10 text)) (
    either-kind (is_based text) (word negative (number (base_of text) (drop 2 text))) last (word-kind negative (number (base_of text) (drop 2 text))) (
    either-kind (is_fraction text) Frac Str refl refl)))

text-kind : (kind : Kind) (b : ℕ) (text : List ℕ) → is_empty_kind kind ≡ false → text_of (tree_of_kind kind (b ∷ text)) ≡ b ∷ text
text-kind Empty b text is = absurd (true≢false is)
text-kind Str b text is = refl
text-kind (Int n) b text is = refl
text-kind Frac b text is = refl
text-kind Wide b text is = refl

text-data : (opts : InferOpts) (text : List ℕ) → text_of (tree_of_kind (kind_of opts text) text) ≡ text
text-data opts [] = refl
text-data opts (b ∷ text) = text-kind (kind_of opts (b ∷ text)) b text (either-kind opts.none Str (kind_after_sign opts.octal (is_negative (b ∷ text)) (unsigned (b ∷ text))) refl (sign-kind opts.octal (is_negative (b ∷ text)) (unsigned (b ∷ text))))

text-quoted : (text : List ℕ) → text_of (quoted_value text) ≡ text
text-quoted [] = refl
text-quoted (b ∷ text) = refl

-- a value prints the text from which it was read
text-value : (opts : InferOpts) (field : Field) → text_of (value_of opts field) ≡ field.text
text-value opts field =
    elim (cases_Bool field.quoted) as (λ _. text_of (value_of opts field) ≡ field.text) [
      | inl quoted ↦ ap (λ q. text_of (cond q (quoted_value field.text) (tree_of_kind (kind_of opts field.text) field.text))) quoted ∙ text-quoted field.text
      | inr plain ↦ ap (λ q. text_of (cond q (quoted_value field.text) (tree_of_kind (kind_of opts field.text) field.text))) plain ∙ text-data opts field.text
    ]

texts-are : (opts : InferOpts) (row : List Field) → map text_of (map (value_of opts) row) ≡ map (λ f. f.text) row
texts-are opts [] = refl
texts-are opts (field ∷ row) = ap₂ (λ text texts. text ∷ texts) (text-value opts field) (texts-are opts row)

module _ (opts : ReadOpts) (row : List Field) where
  header-is : header_of opts.implicit (map (value_of opts.infer) row) ≡ first_header opts row
  header-is = ap₂ (λ n texts. cond opts.implicit (positions_from 1 n) texts) (length-map row (value_of opts.infer)) (texts-are opts.infer row)

  items-are : (file : FileRef) (line : ℕ) (header : List (List ℕ)) → values_items opts file line header (map (value_of opts.infer) row) ≡ row_items opts file line header row
  items-are file line header = ap (λ n. cond (opts.ragged || eqb n (length header)) (fields (record_of opts.dedupe (row_keys header n) (map (value_of opts.infer) row)) ∷ []) (fault (Length file line (length header) n) ∷ [])) (length-map row (value_of opts.infer))

  pub closed-are : (file : FileRef) (line : ℕ) (header : Option (List (List ℕ))) → closed_values opts file line header (map (value_of opts.infer) row) ≡ closed_items opts file line header row
  closed-are file line (Some header) = items-are file line header
  closed-are file line None =
      ap (λ items. cond opts.implicit items [])
      (items-are file line (header_of opts.implicit (map (value_of opts.infer) row)) ∙ ap (λ header. row_items opts file line header row) header-is)

  pub header-following : (header : Option (List (List ℕ))) → values_header opts header (map (value_of opts.infer) row) ≡ header_after opts header row
  header-following (Some header) = refl
  header-following None = ap Some header-is
