-- The fields of a line of TSV.
use Rattle.std.proofs.Common.{◌≡◌, ℕ, suc, ◌<◌, false, eqb, List, [], ◌∷◌, ◌++◌, map, length, get_or, Option, Some, None, Bor, refl, ap, sym, ◌∙◌, append_assoc, arith}
use Rattle.std.specs.Option.{option_map}
use Rattle.std.proofs.lemmas.Bool.{false_from_ne_true}
use Rattle.memchr.specs.Find.{IsFirstByte, is_byte}
use Rattle.mlr_spec.specs.Infer.{tree_of_data}
use Rattle.mlr_spec.specs.Split.{split_by}
use Rattle.mlr_record.specs.Parts.{parts_of_rest}
use Rattle.mlr_event.specs.declared.options.ReadOpts.{ReadOpts}
use Rattle.read_csv.specs.Fields.{Field, value_of}
use Rattle.read_csv.specs.Tsv.{unescaped, tsv_fields}
use Rattle.read_csv.specs.OpenRow.{RowState, tsv_reading, with_value, row_with}

-- a byte that isn't a backslash is itself
unescaped-other : (b : ℕ) (text : List ℕ) → eqb b 92 ≡ false → unescaped (b ∷ text) ≡ b ∷ unescaped text
unescaped-other b [] other = refl
unescaped-other b (c ∷ text) other = rw other refl

unescaped-none : (text : List ℕ) → ((k : ℕ) → k < length text → eqb (get_or text k 0) 92 ≡ false) → unescaped text ≡ text
unescaped-none [] none = refl
unescaped-none (b ∷ text) none = unescaped-other b text (none 0 (omega arith)) ∙ ap (λ t. b ∷ t) (unescaped-none text (λ k below. none (suc k) (omega arith)))

pub unescaped-from : (text : List ℕ) → IsFirstByte (is_byte 92) text None → unescaped text ≡ text
unescaped-from text nowhere = unescaped-none text (λ k below. false_from_ne_true _ (nowhere k (omega arith) below))

abbrev escaped_field : List ℕ → Field
escaped_field part = record { quoted = false; text = unescaped part }

module _ (opts : ReadOpts) (row : RowState) (left part : List ℕ) where
  pub escaped-more : (rest : List ℕ) → split_by opts.ifs left ≡ part ∷ split_by opts.ifs rest
      → row_with opts.infer (with_value row (tree_of_data opts.infer (unescaped part))) (tsv_reading opts.ifs rest) ≡ row_with opts.infer row (tsv_reading opts.ifs left)
  escaped-more rest parts =
      ap (λ values. record { values = values; quotes = None })
      (append_assoc row.values (tree_of_data opts.infer (unescaped part) ∷ []) (map (value_of opts.infer) (tsv_fields opts.ifs rest))
      ∙ ap (λ ps. row.values ++ map (value_of opts.infer) (map escaped_field ps)) (sym parts))

  pub escaped-last : split_by opts.ifs left ≡ part ∷ [] → with_value row (tree_of_data opts.infer (unescaped part)) ≡ row_with opts.infer row (tsv_reading opts.ifs left)
  escaped-last parts = ap (λ ps. record { values = row.values ++ map (value_of opts.infer) (map escaped_field ps); quotes = None }) (sym parts)

-- a text that was cut at its first separator: the rest has the remaining parts
pub parts-more : (separator left part : List ℕ) (found : Option (Bor (List ℕ))) (rest : Bor (List ℕ)) → found ≡ Some rest
    → split_by separator left ≡ part ∷ parts_of_rest separator (option_map (λ r. r.now) found) → split_by separator left ≡ part ∷ split_by separator rest.now
parts-more separator left part found rest is parts = parts ∙ ap (λ f. part ∷ parts_of_rest separator (option_map (λ (r : Bor (List ℕ)). r.now) f)) is

pub parts-last : (separator left part : List ℕ) (found : Option (Bor (List ℕ))) → found ≡ None
    → split_by separator left ≡ part ∷ parts_of_rest separator (option_map (λ r. r.now) found) → split_by separator left ≡ part ∷ []
parts-last separator left part found is parts = parts ∙ ap (λ f. part ∷ parts_of_rest separator (option_map (λ (r : Bor (List ℕ)). r.now) f)) is
