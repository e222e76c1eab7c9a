-- DKVP: a line of keys and values for each record.
use Rattle.std.specs.Prelude.{ℕ, List, [], ◌∷◌, ◌++◌}
use Rattle.mlr_spec.specs.Ascii.{line_feed}
use Rattle.mlr_spec.specs.Tree.{Tree}
use Rattle.text_forms.specs.Dkvp.{dkvp_text}
use Rattle.writers.specs.declared.options.WriteOpts.{WriteOpts}

abbrev pub dkvp_record : WriteOpts → List (List ℕ × Tree) → List ℕ
dkvp_record opts r = dkvp_text opts.ofs opts.ops r ++ line_feed ∷ []
