-- Rows under headers, as in CSV, TSV and Markdown: a header precedes each run of records with equal keys in
-- equal order. A record without fields writes nothing and ends the run.
use Rattle.std.specs.Prelude.{ℕ, Bool, not, ◌&&◌, if◌then◌else◌, List, [], ◌∷◌, ◌++◌}
use Rattle.mlr_spec.specs.Ascii.{line_feed}
use Rattle.mlr_spec.specs.Tree.{Tree}
use Rattle.writers.specs.declared.form.Part.TheVariants.{Keys}
use Rattle.writers.specs.Before.{any_filled, last_or}
use Rattle.writers.specs.Cells.{texts, same_texts}
use Rattle.writers.specs.Runs.{Record}

abbrev pub unless_empty : List (List ℕ × Tree) → List ℕ → List ℕ
unless_empty [] text = []
unless_empty (field ∷ r) text = text

-- a record begins a run unless its keys are those of the record just before it
abbrev pub begins_run : List Record → Record → Bool
begins_run before r = not (same_texts (texts Keys (last_or [] before)) (texts Keys r))

-- an empty line, unless nothing precedes it
abbrev pub gap : List Record → List ℕ
gap before = if any_filled before then line_feed ∷ [] else []

-- a row, after a header where a run begins and headers are written
abbrev pub headed : Bool → List Record → Record → List ℕ → List ℕ → List ℕ
headed headerless before r header row =
    unless_empty r ((if begins_run before r && not headerless then gap before ++ header else []) ++ row)
