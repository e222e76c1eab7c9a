-- The items of the parts of a file, found line by line.
use Rattle.std.proofs.Common.{◌≡◌, ℕ, ◌+◌, List, [], ◌∷◌, ◌++◌, Option, Some, None, refl, ap, ap₂, sym, ◌∙◌, inl, inr}
use Rattle.std.specs.List.{filter_map}
use Rattle.std.proofs.lemmas.Bool.{cases_Bool}
use Rattle.std.proofs.lemmas.List.{append-nil}
use Rattle.std.proofs.lemmas.List.Elements.{filter_map-append}
use Rattle.mlr_lines.specs.Blocks.{each_after}
use Rattle.mlr_lines.specs.Lines.{without_return}
use Rattle.mlr_event.specs.declared.names.FileRef.{FileRef}
use Rattle.mlr_event.specs.declared.options.ReadOpts.{ReadOpts}
use Rattle.mlr_event.specs.declared.fault.Fault.TheVariants.{Quote}
use Rattle.mlr_event.specs.Reading.{Item, fault}
use Rattle.read_csv.specs.Fields.{Field}
use Rattle.read_csv.specs.Rows.{Begun, Part, begins_at, csv_items, first_header, goes_on, is_skipped, last_part, part_after, parts_from, row_after, row_fields, row_of, skipped, skipped_items, unclosed, whole}
use Rattle.read_csv.specs.RowLines.{closed_items, end_items, header_after, rows_from}

module _ (opts : ReadOpts) (file : FileRef) where
  -- the header among the rows so far
  abbrev header_in : List (List Field) → Option (List (List ℕ))
  header_in [] = None
  header_in (first ∷ rows) = Some (first_header opts first)

  abbrev header_of : List Part → Option (List (List ℕ))
  header_of before = header_in (filter_map row_of before)

  closed-same : (n : ℕ) (rows : List (List Field)) (found : List Field) → closed_items opts file n (header_in rows) found ≡ row_after opts file n rows found
  closed-same n [] found = refl
  closed-same n (first ∷ rows) found = refl

  header-more : (rows : List (List Field)) (found : List Field) → header_after opts (header_in rows) found ≡ header_in (rows ++ found ∷ [])
  header-more [] found = refl
  header-more (first ∷ rows) found = refl

  header-row : (before : List Part) (n : ℕ) (found : List Field) → header_after opts (header_of before) found ≡ header_of (before ++ whole n found ∷ [])
  header-row before n found = header-more (filter_map row_of before) found ∙ ap header_in (sym (filter_map-append row_of before (whole n found ∷ [])))

  header-skipped : (before : List Part) (line : List ℕ) → header_of before ≡ header_of (before ++ skipped line ∷ [])
  header-skipped before line = ap header_in (sym (filter_map-append row_of before (skipped line ∷ []) ∙ append-nil (filter_map row_of before)))

  -- the items of the parts that follow
  abbrev later : List Part → List Part → List Item
  later before parts = each_after (part_after opts file) before parts

  -- the part that a last line makes
  found-last : (before : List Part) (n : ℕ) (found : Option (List Field))
      → (elim found [ None ↦ fault (Quote file n) ∷ [] | Some fields ↦ closed_items opts file n (header_of before) fields ]) ≡ part_after opts file before (elim found [ None ↦ unclosed n | Some fields ↦ whole n fields ])
  found-last before n None = refl
  found-last before n (Some fields) = closed-same n (filter_map row_of before) fields

  last-same : (before : List Part) (n : ℕ) (begun : Begun) (line : List ℕ) → end_items opts file n begun (header_of before) line ≡ later before (last_part opts n begun line ∷ [])
  last-same before n begun line =
      elim (cases_Bool (is_skipped opts begun line)) as (λ _. end_items opts file n begun (header_of before) line ≡ later before (last_part opts n begun line ∷ [])) [
        | inl is ↦ rw is (sym (append-nil (skipped_items opts line)))
        | inr isnt ↦ rw isnt (found-last before (begins_at begun n) (row_fields opts (goes_on begun line)) ∙ sym (append-nil _))
      ]

  -- a line that ends a row, or doesn't, and the lines after it
  found-same : (last : Option (List ℕ)) (lines : List (List ℕ))
      → ((before : List Part) (n : ℕ) (begun : Begun) → rows_from opts file last n begun (header_of before) lines ≡ later before (parts_from opts last n begun lines))
      → (before : List Part) (n : ℕ) (begun : Begun) (line : List ℕ) (found : Option (List Field))
      → (elim found [
        | None ↦ rows_from opts file last (n + 1) (Some (begins_at begun n, goes_on begun line)) (header_of before) lines
        | Some fields ↦ closed_items opts file (begins_at begun n) (header_of before) fields ++ rows_from opts file last (n + 1) None (header_after opts (header_of before) fields) lines
      ])
      ≡ later before (elim found [
        | None ↦ parts_from opts last (n + 1) (Some (begins_at begun n, goes_on begun line)) lines
        | Some fields ↦ whole (begins_at begun n) fields ∷ parts_from opts last (n + 1) None lines
      ])
  found-same last lines same before n begun line None = same before (n + 1) (Some (begins_at begun n, goes_on begun line))
  found-same last lines same before n begun line (Some fields) =
      ap₂ (λ items more. items ++ more) (closed-same (begins_at begun n) (filter_map row_of before) fields)
      (ap (λ header. rows_from opts file last (n + 1) None header lines) (header-row before (begins_at begun n) fields)
      ∙ same (before ++ whole (begins_at begun n) fields ∷ []) (n + 1) None)

  rows-same : (last : Option (List ℕ)) (lines : List (List ℕ)) (before : List Part) (n : ℕ) (begun : Begun)
      → rows_from opts file last n begun (header_of before) lines ≡ later before (parts_from opts last n begun lines)
  rows-same None [] before n begun = refl
  rows-same (Some last) [] before n begun = last-same before n begun last
  rows-same last (line ∷ lines) before n begun =
      let text = without_return line in
      elim (cases_Bool (is_skipped opts begun text)) as (λ _. rows_from opts file last n begun (header_of before) (line ∷ lines) ≡ later before (parts_from opts last n begun (line ∷ lines))) [
        | inl is ↦ rw is (
            ap (λ items. skipped_items opts text ++ items)
            (ap (λ header. rows_from opts file last (n + 1) None header lines) (header-skipped before text) ∙ rows-same last lines (before ++ skipped text ∷ []) (n + 1) None)
            )
        | inr isnt ↦ rw isnt (found-same last lines (rows-same last lines) before n begun line (row_fields opts (without_return (goes_on begun line))))
      ]

  pub parts-same : (last : Option (List ℕ)) (lines : List (List ℕ)) → rows_from opts file last 1 None None lines ≡ csv_items opts file last lines
  parts-same last lines = rows-same last lines [] 1 None
