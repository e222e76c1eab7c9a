-- CSV, TSV and Markdown: records under headers are tables of runs.
use Rattle.std.proofs.Common.{◌≡◌, ℕ, Bool, true, false, true≢false, not, ◌&&◌, if◌then◌else◌, List, [], ◌∷◌, ◌++◌, refl, ap, sym, ◌∙◌, append_assoc}
use Rattle.std.specs.List.{flat_map}
use Rattle.std.proofs.lemmas.Grind.{flat_map-append}
use Rattle.std.proofs.lemmas.List.{append-nil}
use Rattle.std.proofs.lemmas.List.Elements.{filter-append}
use Rattle.writers.specs.declared.form.Part.TheVariants.{Keys}
use Rattle.writers.specs.Before.{last_or}
use Rattle.writers.specs.Cells.{texts, same_texts}
use Rattle.writers.specs.Headed.{begins_run, gap, headed, unless_empty}
use Rattle.writers.specs.Joined.{are_any, separated}
use Rattle.writers.specs.Runs.{Record, all_but_last, filled, runs_of, sheet, table_of, tables}
use Rattle.writers.proofs.Lasts.{but_last-last}
use Rattle.writers.proofs.Lines.{lines-grow}
use Rattle.writers.proofs.Runs.{last_run-joined, runs-begin, runs-empty, runs-filled, runs-join}
use Rattle.writers.proofs.Separated.{tables-append}

module _ (header row : Record → List ℕ) where
  abbrev table : List Record → List ℕ
  table run = table_of header row run

  pub sheet-none : (headerless : Bool) → sheet headerless header row [] ≡ []
  sheet-none true = refl
  sheet-none false = refl

  -- a record more in the last table
  table-grows : (lists : List (List Record)) (run : List Record) (r : Record) → are_any run ≡ true
      → tables table (lists ++ (run ++ r ∷ []) ∷ []) ≡ tables table (lists ++ run ∷ []) ++ row r
  table-grows lists [] r some = absurd (true≢false (sym some))
  table-grows lists (first ∷ run) r some =
      let before = tables table lists in
      let gap = separated (10 ∷ []) (are_any (filled lists)) in
      let rows = flat_map row (first ∷ run) in
      tables-append table lists (first ∷ run ++ r ∷ [])
      ∙ ap (λ t. before ++ (gap ++ (header first ++ t))) (lines-grow row (first ∷ run) r)
      ∙ ap (λ t. before ++ (gap ++ t)) (sym (append_assoc (header first) rows (row r)))
      ∙ ap (λ t. before ++ t) (sym (append_assoc gap (header first ++ rows) (row r)))
      ∙ sym (append_assoc before (gap ++ (header first ++ rows)) (row r))
      ∙ ap (λ t. t ++ row r) (sym (tables-append table lists (first ∷ run)))

  last-grows : (runs : List (List Record)) (r : Record) → are_any (last_or [] runs) ≡ true
      → tables table (all_but_last runs ++ (last_or [] runs ++ r ∷ []) ∷ []) ≡ tables table runs ++ row r
  last-grows [] r some = absurd (true≢false (sym some))
  last-grows (run ∷ runs) r some =
      table-grows (all_but_last (run ∷ runs)) (last_or run runs) r some ∙ ap (λ t. tables table t ++ row r) (but_last-last run runs)

  tables-grow : (before : List Record) (r : Record) → tables table (runs_of (before ++ r ∷ [])) ≡ tables table (runs_of before) ++ headed false before r (header r) (row r)
  tables-grow before [] = ap (tables table) (runs-empty before) ∙ tables-append table (runs_of before) []
  tables-grow before (field ∷ others) = by (same_texts (texts Keys (last_or [] before)) (texts Keys (field ∷ others))) refl
    where
      by : (same : Bool) → same_texts (texts Keys (last_or [] before)) (texts Keys (field ∷ others)) ≡ same
          → tables table (runs_of (before ++ (field ∷ others) ∷ []))
          ≡ tables table (runs_of before) ++ ((if not same && not false then gap before ++ header (field ∷ others) else []) ++ row (field ∷ others))
      by true same =
          ap (tables table) (runs-join field others before same)
          ∙ last-grows (runs_of before) (field ∷ others) (last_run-joined field others before same)
      by false other =
          let r : Record = field ∷ others in
          let whole = tables table (runs_of before) in
          ap (tables table) (runs-begin field others before other)
          ∙ tables-append table (runs_of before) (r ∷ [])
          ∙ ap (λ any. whole ++ (separated (10 ∷ []) any ++ (header r ++ (row r ++ [])))) (runs-filled before)
          ∙ ap (λ t. whole ++ (gap before ++ (header r ++ t))) (append-nil (row r))
          ∙ ap (λ t. whole ++ t) (sym (append_assoc (gap before) (header r) (row r)))

  rows-grow : (before : List Record) (r : Record) → flat_map row (filled (before ++ r ∷ [])) ≡ flat_map row (filled before) ++ headed true before r (header r) (row r)
  rows-grow before r =
      ap (flat_map row) (filter-append are_any before (r ∷ []))
      ∙ flat_map-append row (filled before) (filled (r ∷ []))
      ∙ ap (λ t. flat_map row (filled before) ++ t) (by r (begins_run before r))
    where
      by : (r : Record) (begins : Bool) → flat_map row (filled (r ∷ [])) ≡ unless_empty r ((if begins && false then gap before ++ header r else []) ++ row r)
      by [] begins = refl
      by (field ∷ r) true = append-nil (row (field ∷ r))
      by (field ∷ r) false = append-nil (row (field ∷ r))

  pub sheet-grows : (headerless : Bool) (before : List Record) (r : Record)
      → sheet headerless header row (before ++ r ∷ []) ≡ sheet headerless header row before ++ headed headerless before r (header r) (row r)
  sheet-grows true before r = rows-grow before r
  sheet-grows false before r = tables-grow before r
