-- A sheet of whole lines, each of which is a row, is read as its records.
use Rattle.std.proofs.Common.{◌≡◌, ℕ, ◌+◌, ◌-◌, eqb, Bool, true, false, cond, List, [], ◌∷◌, ◌++◌, map, length, Option, Some, None, refl, ap, ap₂, sym, ◌∙◌, append_assoc, arith, inl, inr}
use Rattle.std.specs.List.{filter_map, flat_map, zip}
use Rattle.std.proofs.Math.Seq.{take-length}
use Rattle.std.proofs.lemmas.Bool.{cases_Bool, eqb-true, true≢false}
use Rattle.std.proofs.lemmas.Bool.Decides.{nat_tests}
use Rattle.std.proofs.lemmas.List.{append-nil, length-map}
use Rattle.std.proofs.lemmas.List.Elements.{filter_map-append}
use Rattle.mlr_spec.specs.Pairs.{are_distinct, keys_of}
use Rattle.mlr_spec.specs.Tree.{Tree}
use Rattle.text_forms.specs.Shown.{shown}
use Rattle.mlr_event.specs.declared.names.FileRef.{FileRef}
use Rattle.mlr_event.specs.declared.options.ReadOpts.{ReadOpts}
use Rattle.mlr_event.specs.declared.options.Format.{Format}
use Rattle.mlr_event.specs.declared.fault.Fault.TheVariants.{Length}
use Rattle.mlr_event.specs.Defaults.{default_read}
use Rattle.mlr_event.specs.Reading.{fault, fields, record_of}
use Rattle.mlr_lines.specs.Blocks.{each_after}
use Rattle.mlr_lines.specs.Lines.{ended_after, without_return}
use Rattle.read_csv.specs.Fields.{Field, value_of}
use Rattle.read_csv.specs.Rows.{Begun, Part, begins_at, csv_items, goes_on, is_skipped, part_after, parts_from, positions_from, row_after, row_fields, row_items, row_keys, row_of, skipped, whole}
use Rattle.writers.specs.Runs.{Record}
use Rattle.mlr_laws.specs.Sheets.{AreRows, read_again, texts_of}
use Rattle.mlr_laws.proofs.Names.{distinct-stay}

-- the values of a record under its keys
again-is : (value : List ℕ → Tree) (r : Record) → zip (keys_of r) (map value (texts_of r)) ≡ read_again value r
again-is value [] = refl
again-is value (field ∷ r) = ap (λ more. (field.0, value (shown field.1)) ∷ more) (again-is value r)

same-count : (n m : ℕ) → n ≡ m → eqb n m ≡ true
same-count n m is = grind (arith, nat_tests, is)

no-surplus : (n : ℕ) → positions_from (n + 1) (n - n) ≡ []
no-surplus n =
    let none : n - n ≡ 0 = omega arith in
    ap (positions_from (n + 1)) none

no-bytes : (text : List ℕ) → eqb (length text) 0 ≡ true → text ≡ []
no-bytes [] none = refl
no-bytes (b ∷ text) none = absurd (omega (arith, eqb-true (length (b ∷ text)) 0 none))

-- the text of a row: the lines up to each LF in it leave a quote open
pub record IsRow (opts : ReadOpts) (text : List ℕ) (found : List Field) : Type 0 where
  pub closed : row_fields opts text ≡ Some found
  pub ended : without_return text ≡ text
  pub some : eqb (length text) 0 ≡ false
  pub open_at : (before following : List ℕ) → text ≡ before ++ 10 ∷ following → row_fields opts (without_return before) ≡ None

-- what a format says of lines of texts
pub record IsFormat (opts : ReadOpts) (value : List ℕ → Tree) (fits : List (List ℕ) → Bool) (line : List (List ℕ) → List ℕ) (fields_of : List (List ℕ) → List Field) : Type 0 where
  pub rows : (all : List (List ℕ)) → fits all ≡ true → IsRow opts (line all) (fields_of all)
  pub names : (all : List (List ℕ)) → fits all ≡ true → map (λ f. f.text) (fields_of all) ≡ all
  pub values : (all : List (List ℕ)) → fits all ≡ true → map (value_of opts.infer) (fields_of all) ≡ map value all
  pub none : fits [] ≡ false

module _ (fmt : Format) where
  abbrev opts : ReadOpts
  opts = default_read fmt

  module _ (text : List ℕ) (found : List Field) (row : IsRow opts text found) (empty : List Field) (empty_is : row_fields opts [] ≡ Some empty) (last : Option (List ℕ)) (more : List (List ℕ)) where
    -- the part that a row is, and the parts of the lines after it
    abbrev Ends : ℕ → Begun → List (List ℕ) → Type 0
    Ends m begun lines = (k : ℕ) × (parts_from opts last m begun lines ≡ whole (begins_at begun m) found ∷ parts_from opts last k None more)

    not-skipped : (begun : Begun) (line : List ℕ) → (without_return (goes_on begun line) ≡ [] → ⊥) → is_skipped opts begun (without_return line) ≡ false
    not-skipped None line some =
        elim (cases_Bool (eqb (length (without_return line)) 0)) as (λ _. eqb (length (without_return line)) 0 ≡ false) [
          | inl none ↦ absurd (some (no-bytes (without_return line) none))
          | inr some_bytes ↦ some_bytes
        ]
    not-skipped (Some begun) line some = refl

    -- a line, by the fields of the row up to it
    abbrev by_fields : ℕ → Begun → List ℕ → List (List ℕ) → Bool → Option (List Field) → List Part
    by_fields m begun line lines skips looked = cond skips (skipped (without_return line) ∷ parts_from opts last (m + 1) None lines) (elim looked [
      | None ↦ parts_from opts last (m + 1) (Some (begins_at begun m, goes_on begun line)) lines
      | Some f ↦ whole (begins_at begun m) f ∷ parts_from opts last (m + 1) None lines
    ])

    last-line : (begun : Begun) (line : List ℕ) (m : ℕ) → text ≡ goes_on begun line → Ends m begun (line ∷ more)
    last-line begun line m is =
        let same : without_return (goes_on begun line) ≡ text = ap without_return (sym is) ∙ row.ended in
        let full = not-skipped begun line (λ none. true≢false (ap (λ t. eqb (length t) 0) (sym none ∙ same) ∙ row.some)) in (
          m + 1,
          ap (λ t. by_fields m begun line more t (row_fields opts (without_return (goes_on begun line)))) full
              ∙ ap (λ t. by_fields m begun line more false (row_fields opts t)) same ∙ ap (by_fields m begun line more false) row.closed,
        )

    open-line : (begun : Begun) (line rest : List ℕ) (lines : List (List ℕ)) (m : ℕ) → text ≡ goes_on begun line ++ 10 ∷ rest
        → parts_from opts last m begun (line ∷ lines) ≡ parts_from opts last (m + 1) (Some (begins_at begun m, goes_on begun line)) lines
    open-line begun line rest lines m is =
        let none = row.open_at (goes_on begun line) rest is in
        let full = not-skipped begun line (λ nothing. let e : Some empty ≡ None = sym (ap (row_fields opts) nothing ∙ empty_is) ∙ none in cc) in
        ap (λ t. by_fields m begun line lines t (row_fields opts (without_return (goes_on begun line)))) full ∙ ap (by_fields m begun line lines false) none

    goes-append : (begun : Begun) (line rest : List ℕ) → goes_on begun (line ++ rest) ≡ goes_on begun line ++ rest
    goes-append None line rest = refl
    goes-append (Some begun) line rest = sym (append_assoc begun.1 (10 ∷ line) rest)

    walk : (rest line : List ℕ) (begun : Begun) (m : ℕ) → text ≡ goes_on begun (line ++ rest) → Ends m begun (ended_after line (rest ++ 10 ∷ []) ++ more)
    walk [] line begun m is = last-line begun line m (is ∙ ap (goes_on begun) (append-nil line))
    walk (b ∷ rest) line begun m is =
        elim (cases_Bool (eqb b 10)) as (λ _. Ends m begun (ended_after line (b ∷ rest ++ 10 ∷ []) ++ more)) [
          | inl feed ↦
              let byte = eqb-true b 10 feed in
              let here : text ≡ goes_on begun line ++ 10 ∷ rest = is ∙ goes-append begun line (b ∷ rest) ∙ ap (λ c. goes_on begun line ++ c ∷ rest) byte in
              let later = walk rest [] (Some (begins_at begun m, goes_on begun line)) (m + 1) here in
              let lines = ended_after [] (rest ++ 10 ∷ []) ++ more in (
                later.0,
                ap (λ t. parts_from opts last m begun (cond t (line ∷ ended_after [] (rest ++ 10 ∷ [])) (ended_after (line ++ b ∷ []) (rest ++ 10 ∷ [])) ++ more)) feed
                    ∙ open-line begun line rest lines m here ∙ later.1,
              )
          | inr other ↦
              let later = walk rest (line ++ b ∷ []) begun m (is ∙ ap (goes_on begun) (sym (append_assoc line (b ∷ []) rest))) in (
                later.0,
                ap (λ t. parts_from opts last m begun (cond t (line ∷ ended_after [] (rest ++ 10 ∷ [])) (ended_after (line ++ b ∷ []) (rest ++ 10 ∷ [])) ++ more)) other ∙ later.1,
              )
        ]

    pub row-part : (m : ℕ) → Ends m None (ended_after [] (text ++ 10 ∷ []) ++ more)
    row-part m = walk text [] None m refl

  module _ (file : FileRef) (value : List ℕ → Tree) (fits : List (List ℕ) → Bool) (line : List (List ℕ) → List ℕ) (fields_of : List (List ℕ) → List Field) (is : IsFormat opts value fits line fields_of)
      (empty : List Field) (empty_is : row_fields opts [] ≡ Some empty) where
    abbrev Fit : List (List (List ℕ)) → Type 0
    Fit [] = Unit {0}
    Fit (all ∷ lists) = (fits all ≡ true) × Fit lists

    -- the lines of rows
    abbrev pub lines_of : List (List (List ℕ)) → List (List ℕ)
    lines_of lists = flat_map (λ all. ended_after [] (line all ++ 10 ∷ [])) lists

    -- the parts that these rows are
    abbrev AreParts : List Part → List (List (List ℕ)) → Type 0
    AreParts parts [] = parts ≡ skipped [] ∷ []
    AreParts parts (all ∷ lists) = (n : ℕ) × (more : List Part) × (parts ≡ whole n (fields_of all) ∷ more) × AreParts more lists

    parts-are : (lists : List (List (List ℕ))) (n : ℕ) → Fit lists → AreParts (parts_from opts (Some []) n None (lines_of lists)) lists
    parts-are [] n fit = refl
    parts-are (all ∷ lists) n fit =
        let part = row-part (line all) (fields_of all) (is.rows all fit.0) empty empty_is (Some []) (lines_of lists) n in
        (n, parts_from opts (Some []) part.0 None (lines_of lists), part.1, parts-are lists part.0 fit.1)

    count : (all : List (List ℕ)) → fits all ≡ true → length (fields_of all) ≡ length all
    count all fit = sym (length-map (fields_of all) (λ (f : Field). f.text)) ∙ ap length (is.names all fit)

    -- a row under a header of as many names
    row-is : (r : Record) (n : ℕ) → fits (texts_of r) ≡ true → are_distinct (keys_of r) ≡ true → row_items opts file n (keys_of r) (fields_of (texts_of r)) ≡ fields (read_again value r) ∷ []
    row-is r n fit distinct =
        let keys = keys_of r in
        let row = fields_of (texts_of r) in
        let same : length row ≡ length keys = count (texts_of r) fit ∙ length-map r (λ field. shown field.1) ∙ sym (length-map r (λ field. field.0)) in
        let whole_keys : row_keys keys (length row) ≡ keys =
        ap (row_keys keys) same ∙ ap₂ (λ kept more. kept ++ more) (take-length keys) (no-surplus (length keys)) ∙ append-nil keys in
        ap (λ t. cond t (fields (record_of true (row_keys keys (length row)) (map (value_of opts.infer) row)) ∷ []) (fault (Length file n (length keys) (length row)) ∷ [])) (same-count (length row) (length keys) same)
        ∙ ap (λ names. fields (record_of true names (map (value_of opts.infer) row)) ∷ []) whole_keys
        ∙ ap₂ (λ names values. fields (zip names values) ∷ []) (distinct-stay keys distinct) (is.values (texts_of r) fit)
        ∙ ap (λ pairs. fields pairs ∷ []) (again-is value r)

    -- the items of rows under the header
    items-are : (keys : List (List ℕ)) (rs : List Record) (before parts : List Part) (row : List Field) (later : List (List Field)) → are_distinct keys ≡ true → AreRows fits keys rs
        → AreParts parts (map texts_of rs) → filter_map row_of before ≡ row ∷ later → map (λ f. f.text) row ≡ keys
        → each_after (part_after opts file) before parts ≡ map (λ r. fields (read_again value r)) rs
    items-are keys [] before parts row later distinct all are header names = ap (each_after (part_after opts file) before) are
    items-are keys (r ∷ rs) before parts row later distinct all are header names =
        let found = fields_of (texts_of r) in
        let n = are.0 in
        let next = before ++ whole n found ∷ [] in
        let under : part_after opts file before (whole n found) ≡ row_items opts file n (keys_of r) found =
        ap (λ before_it. row_after opts file n before_it found) header ∙ ap (λ names. row_items opts file n names found) (names ∙ sym all.0) in
        ap (each_after (part_after opts file) before) are.2
        ∙ ap₂ (λ here more. here ++ more) (under ∙ row-is r n all.1 (ap are_distinct all.0 ∙ distinct))
        (items-are keys rs next are.1 row (later ++ found ∷ []) distinct all.2 are.3 (filter_map-append row_of before (whole n found ∷ []) ∙ ap (λ rows. rows ++ found ∷ []) header) names)

    rows-fit : (rs : List Record) (keys : List (List ℕ)) → AreRows fits keys rs → Fit (map texts_of rs)
    rows-fit [] keys all = tt
    rows-fit (r ∷ rs) keys all = (all.1, rows-fit rs keys all.2)

    pub sheet-items : (r : Record) (rs : List Record) → are_distinct (keys_of r) ≡ true → fits (keys_of r) ≡ true → AreRows fits (keys_of r) (r ∷ rs)
        → csv_items opts file (Some []) (lines_of (keys_of r ∷ map texts_of (r ∷ rs))) ≡ map (λ r. fields (read_again value r)) (r ∷ rs)
    sheet-items r rs distinct fit all =
        let keys = keys_of r in
        let parts = parts-are (keys ∷ map texts_of (r ∷ rs)) 1 (fit, rows-fit (r ∷ rs) keys all) in
        ap (each_after (part_after opts file) []) parts.2
        ∙ items-are keys (r ∷ rs) (whole parts.0 (fields_of keys) ∷ []) parts.1 (fields_of keys) [] distinct all parts.3 refl (is.names keys fit)
