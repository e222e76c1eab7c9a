-- JSON Lines: each record as a map on one line.
use Rattle.std.specs.Prelude.{ℕ, List, [], ◌∷◌, ◌++◌}
use Rattle.mlr_spec.specs.Ascii.{line_feed}
use Rattle.mlr_spec.specs.declared.json.JsonStyle.TheVariants.{Single}
use Rattle.mlr_spec.specs.Json.{json_record}
use Rattle.mlr_spec.specs.Tree.{Tree}

abbrev pub jsonl_record : List (List ℕ × Tree) → List ℕ
jsonl_record r = json_record Single r ++ line_feed ∷ []
