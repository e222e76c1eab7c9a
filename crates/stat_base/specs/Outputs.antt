-- The names of the fields that statistics make.
use Rattle.std.specs.Prelude.{ℕ, List, ◌++◌, codes}

-- the name of a field and that of a statistic, joined by `_`
abbrev pub output_name : List ℕ → List ℕ → List ℕ
output_name field statistic = field ++ codes "_" ++ statistic
