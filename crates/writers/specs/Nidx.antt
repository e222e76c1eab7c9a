-- NIDX: a line of values for each record.
use Rattle.std.specs.Prelude.{ℕ, List, [], ◌∷◌, ◌++◌}
use Rattle.mlr_spec.specs.Ascii.{line_feed}
use Rattle.mlr_spec.specs.Json.{joined}
use Rattle.mlr_spec.specs.Tree.{Tree}
use Rattle.writers.specs.declared.form.Part.TheVariants.{Values}
use Rattle.writers.specs.declared.options.WriteOpts.{WriteOpts}
use Rattle.writers.specs.Cells.{texts}

abbrev pub nidx_record : WriteOpts → List (List ℕ × Tree) → List ℕ
nidx_record opts r = joined opts.ofs (texts Values r) ++ line_feed ∷ []
