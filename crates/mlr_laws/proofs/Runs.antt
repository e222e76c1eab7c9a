-- Records with the same keys are one run, and so one table.
use Rattle.std.proofs.Common.{◌≡◌, ℕ, Bool, true, false, cond, List, [], ◌∷◌, ◌++◌, map, refl, ap, ap₂, sym, ◌∙◌}
use Rattle.std.specs.List.{flat_map}
use Rattle.std.specs.Str.{bytes_eq}
use Rattle.std.proofs.lemmas.Bool.{and_from, true≢false}
use Rattle.std.proofs.lemmas.Slice.Eq.{bytes_eq-Decides}
use Rattle.mlr_spec.specs.Pairs.{keys_of}
use Rattle.writers.specs.Cells.{same_texts}
use Rattle.writers.specs.Runs.{Record, runs_of, sheet, table_of, tables, with_first}
use Rattle.mlr_laws.specs.Sheets.{AreRows, texts_of}
use Rattle.mlr_laws.proofs.Bytes.{text_of_lines}

same_texts-self : (xs : List (List ℕ)) → same_texts xs xs ≡ true
same_texts-self [] = refl
same_texts-self (x ∷ xs) = and_from (bytes_eq x x) (same_texts xs xs) ((bytes_eq-Decides x x).1 refl) (same_texts-self xs)

-- records with fields, all with these keys
abbrev HaveKeys : List (List ℕ) → List Record → Type 0
HaveKeys keys [] = Unit {0}
HaveKeys keys ([] ∷ rs) = ⊥
HaveKeys keys ((field ∷ r) ∷ rs) = (keys_of (field ∷ r) ≡ keys) × HaveKeys keys rs

one-run : (keys : List (List ℕ)) (r : Record) (rs : List Record) → HaveKeys keys (r ∷ rs) → runs_of (r ∷ rs) ≡ (r ∷ rs) ∷ []
one-run keys [] rs have = absurd have
one-run keys (field ∷ r) [] have = refl
one-run keys (field ∷ r) (next ∷ rs) have =
    ap (with_first (field ∷ r)) (one-run keys next rs have.1) ∙ joins next (first-keys next rs have.1)
  where
    joins : (next : Record) → keys_of next ≡ keys → with_first (field ∷ r) ((next ∷ rs) ∷ []) ≡ ((field ∷ r) ∷ next ∷ rs) ∷ []
    joins next is =
        ap (λ t. cond t (((field ∷ r) ∷ next ∷ rs) ∷ []) (((field ∷ r) ∷ []) ∷ (next ∷ rs) ∷ []))
        (ap₂ (λ a b. same_texts a b) have.0 is ∙ same_texts-self keys)

    first-keys : (next : Record) (rs : List Record) → HaveKeys keys (next ∷ rs) → keys_of next ≡ keys
    first-keys [] rs have = absurd have
    first-keys (field ∷ r) rs have = have.0

module _ (fits : List (List ℕ) → Bool) (line : List (List ℕ) → List ℕ) (none : fits [] ≡ false) where
  -- rows that fit have fields
  have-keys : (keys : List (List ℕ)) (rs : List Record) → AreRows fits keys rs → HaveKeys keys rs
  have-keys keys [] all = tt
  have-keys keys ([] ∷ rs) all = absurd (true≢false (sym all.1 ∙ none))
  have-keys keys ((field ∷ r) ∷ rs) all = (all.0, have-keys keys rs all.2)

  -- the rows as lines
  row-lines : (rs : List Record) → flat_map (λ r. line (texts_of r) ++ 10 ∷ []) rs ≡ text_of_lines (map line (map texts_of rs))
  row-lines [] = refl
  row-lines (r ∷ rs) = ap (λ more. (line (texts_of r) ++ 10 ∷ []) ++ more) (row-lines rs)

  -- a sheet is a header and a line for each record
  pub sheet-lines : (r : Record) (rs : List Record) → AreRows fits (keys_of r) (r ∷ rs)
      → sheet false (λ r. line (keys_of r) ++ 10 ∷ []) (λ r. line (texts_of r) ++ 10 ∷ []) (r ∷ rs) ≡ text_of_lines (line (keys_of r) ∷ map line (map texts_of (r ∷ rs)))
  sheet-lines r rs all =
      let header = λ (r : Record). line (keys_of r) ++ 10 ∷ [] in
      let row = λ (r : Record). line (texts_of r) ++ 10 ∷ [] in
      ap (tables (table_of header row)) (one-run (keys_of r) r rs (have-keys (keys_of r) (r ∷ rs) all))
      ∙ ap (λ more. header r ++ more) (row-lines (r ∷ rs))
