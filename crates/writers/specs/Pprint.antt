-- PPRINT: a block of aligned columns for each run of records with equal keys, written when the run has ended.
use Rattle.std.specs.Prelude.{ℕ, if◌then◌else◌, List, [], ◌∷◌, ◌++◌, map}
use Rattle.mlr_spec.specs.Ascii.{line_feed}
use Rattle.text_columns.specs.Pprint as columns
use Rattle.writers.specs.declared.form.Part.TheVariants.{Keys, Values}
use Rattle.writers.specs.declared.options.WriteOpts.{WriteOpts}
use Rattle.writers.specs.Before.{any_filled, last_or}
use Rattle.writers.specs.Cells.{texts}
use Rattle.writers.specs.Headed.{begins_run}
use Rattle.writers.specs.Joined.{are_any}
use Rattle.writers.specs.Runs.{Record, all_but_last, filled, runs_of}

-- the lines of a run: the keys of its first record, and the values of each
abbrev pub lines_of : List Record → List (List (List ℕ))
lines_of [] = []
lines_of (first ∷ run) = texts Keys first ∷ map (texts Values) (first ∷ run)

abbrev pub block : WriteOpts → List Record → List ℕ
block opts run = columns.block opts.barred opts.headerless (lines_of run)

-- the text of the last run, after an empty line if another block precedes it; nothing if that run is empty
abbrev pub block_end : WriteOpts → List Record → List ℕ
block_end opts before =
    let runs = runs_of before in
    let last = last_or [] runs in
    if are_any last then (if are_any (filled (all_but_last runs)) then line_feed ∷ [] else []) ++ block opts last else []

-- a record that begins a run ends the run before it
abbrev pub pprint_record : WriteOpts → List Record → Record → List ℕ
pprint_record opts before r = if begins_run before r then block_end opts before else []
