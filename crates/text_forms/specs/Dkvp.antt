-- Fields as one text, each as its name and what its value shows.
use Rattle.std.specs.Prelude.{ℕ, List, ◌++◌, map}
use Rattle.mlr_spec.specs.Json.{joined}
use Rattle.mlr_spec.specs.Tree.{Tree}
use Rattle.text_forms.specs.Shown.{shown}

-- a field, with a separator between its name and its value
abbrev pub pair_text : List ℕ → List ℕ × Tree → List ℕ
pair_text ops pair = pair.0 ++ ops ++ shown pair.1

-- the fields with a separator between them
abbrev pub dkvp_text : List ℕ → List ℕ → List (List ℕ × Tree) → List ℕ
dkvp_text ofs ops pairs = joined ofs (map (pair_text ops) pairs)
