-- What is written as a sheet is read as its records.
use Rattle.std.proofs.Common.{◌≡◌, ℕ, Bool, false, List, [], ◌∷◌, ◌++◌, map, Some, refl, ap, ap₂, ◌∙◌}
use Rattle.std.specs.List.{flat_map}
use Rattle.mlr_spec.specs.Pairs.{keys_of}
use Rattle.mlr_spec.specs.Tree.{Tree}
use Rattle.mlr_event.specs.declared.event.Ctx.{Ctx}
use Rattle.mlr_event.specs.declared.names.FileRef.{FileRef}
use Rattle.mlr_event.specs.declared.options.Format.{Format}
use Rattle.mlr_event.specs.Defaults.{default_read}
use Rattle.mlr_event.specs.Reading.{events_of, fields}
use Rattle.mlr_lines.specs.Lines.{ended_after}
use Rattle.read_csv.specs.Fields.{Field}
use Rattle.read_csv.specs.Rows.{csv_items, csv_read, row_fields}
use Rattle.writers.specs.Runs.{Record, sheet}
use Rattle.mlr_laws.specs.Sheets.{IsSheet, read_again, texts_of}
use Rattle.mlr_laws.proofs.Lines.{line-begun, lines-ended}
use Rattle.mlr_laws.proofs.Runs.{sheet-lines}
use Rattle.mlr_laws.proofs.Rows.{IsFormat, sheet-items}

module _ (fmt : Format) (file : FileRef) (value : List ℕ → Tree) (fits : List (List ℕ) → Bool) (line : List (List ℕ) → List ℕ) (fields_of : List (List ℕ) → List Field)
    (is : IsFormat (default_read fmt) value fits line fields_of) (empty : List Field) (empty_is : row_fields (default_read fmt) [] ≡ Some empty) where
  lines-are : (lists : List (List (List ℕ))) → flat_map (λ row. ended_after [] (row ++ 10 ∷ [])) (map line lists) ≡ flat_map (λ all. ended_after [] (line all ++ 10 ∷ [])) lists
  lines-are [] = refl
  lines-are (all ∷ lists) = ap (λ more. ended_after [] (line all ++ 10 ∷ []) ++ more) (lines-are lists)

  pub sheet-read : (start : Ctx) (rs : List Record) → IsSheet fits line rs
      → csv_read (default_read fmt) file start (sheet false (λ r. line (keys_of r) ++ 10 ∷ []) (λ r. line (texts_of r) ++ 10 ∷ []) rs)
      ≡ events_of start (map (λ r. fields (read_again value r)) rs)
  sheet-read start [] sound = absurd sound
  sheet-read start (r ∷ rs) sound =
      let lists = keys_of r ∷ map texts_of (r ∷ rs) in
      let header = line (keys_of r) in
      let rows = map line (map texts_of (r ∷ rs)) in
      ap (csv_read (default_read fmt) file start) (sheet-lines fits line is.none r rs sound.3)
      ∙ ap (events_of start) (
      ap₂ (λ last lines. csv_items (default_read fmt) file (Some last) lines) (line-begun header rows sound.2) (lines-ended header rows sound.2 ∙ lines-are lists)
      ∙ sheet-items fmt file value fits line fields_of is empty empty_is r rs sound.0 sound.1 sound.3
      )
