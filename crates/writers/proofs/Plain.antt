-- Lines of CSV whose separator is one byte.
use Rattle.std.proofs.Common.{◌≡◌, ℕ, ◌+◌, ◌<◌, Bool, false, List, [], ◌∷◌, ◌++◌, length, map, get_or, refl, sym, ap, ap₂, ◌∙◌, arith}
use Rattle.std.proofs.lemmas.List.{length-append}
use Rattle.mlr_spec.specs.Json.{joined}
use Rattle.mlr_spec.specs.Tree.{Tree}
use Rattle.writers.specs.declared.form.Part.{Part}
use Rattle.writers.specs.declared.options.WriteOpts.{WriteOpts}
use Rattle.writers.specs.Cells.{part_text, texts}
use Rattle.writers.specs.Csv.{csv_field, csv_line, never_empty, unless_stop}
use Rattle.writers.proofs.Escapes.{csv-stops, one-item}

plain-cells : (opts : WriteOpts) (none : opts.quote_all ≡ false) (one : length opts.ofs ≡ 1) (part : Part) (r : List (List ℕ × Tree))
    → map (λ field. unless_stop (get_or opts.ofs 0 0) (part_text part field)) r ≡ map (csv_field opts) (texts part r)
plain-cells opts none one part [] = refl
plain-cells opts none one part (field ∷ r) =
    ap₂ (λ (cell : List ℕ) more. cell ∷ more) (sym (csv-stops opts none one (part_text part field))) (plain-cells opts none one part r)

-- a line that has a separator isn't empty
with-separator : (s : ℕ) (a b : List ℕ) (more : List (List ℕ)) → joined (s ∷ []) (a ∷ b ∷ more) ≡ never_empty (joined (s ∷ []) (a ∷ b ∷ more))
with-separator s [] b more = refl
with-separator s (x ∷ a) b more = refl

some-cells : (s : ℕ) (cells : List (List ℕ)) → 1 < length cells → joined (s ∷ []) cells ≡ never_empty (joined (s ∷ []) cells)
some-cells s [] many = absurd (omega (arith, many))
some-cells s (a ∷ []) many = absurd (omega (arith, many))
some-cells s (a ∷ b ∷ more) many = with-separator s a b more

module _ (opts : WriteOpts) (none : opts.quote_all ≡ false) (one : length opts.ofs ≡ 1) (part : Part) (r : List (List ℕ × Tree)) (many : 1 < length (map (csv_field opts) (texts part r))) where
  pub plain-line : (s : ℕ) → s ≡ get_or opts.ofs 0 0
      → joined (s ∷ []) (map (λ field. unless_stop s (part_text part field)) r) ++ 10 ∷ [] ≡ csv_line opts (texts part r)
  plain-line s is =
      let first : s ∷ [] ≡ opts.ofs = ap (λ b. b ∷ []) is ∙ sym (one-item opts.ofs 0 one) in
      let cells = map (csv_field opts) (texts part r) in
      let cells_are : map (λ field. unless_stop s (part_text part field)) r ≡ cells =
      ap (λ b. map (λ field. unless_stop b (part_text part field)) r) is ∙ plain-cells opts none one part r in
      ap (λ t. joined (s ∷ []) t ++ 10 ∷ []) cells_are
      ∙ ap (λ t. t ++ 10 ∷ []) (some-cells s cells many)
      ∙ ap (λ t. never_empty (joined t cells) ++ 10 ∷ []) first
