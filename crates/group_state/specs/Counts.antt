-- Counts as values.
use Rattle.std.specs.Prelude.{ℕ, pos, []}
use Rattle.mlr_spec.specs.Tree.{Tree, int}
use Rattle.mlr_groups.specs.Tallying.{capped}

-- a count, which is exact up to 2^63 - 1 and stays there
abbrev pub count_value : ℕ → Tree
count_value n = int (pos (capped n)) []
