-- The values of a field in some records.
use Rattle.std.specs.Prelude.{ℕ, pos, not, List, []}
use Rattle.std.specs.List.{filter, filter_map, fold}
use Rattle.mlr_spec.specs.Arith.{arith_of}
use Rattle.mlr_spec.specs.Pairs.{value_at}
use Rattle.mlr_spec.specs.Tree.{Tree, int, is_empty}
use Rattle.mlr_spec.specs.declared.arith.Op.TheVariants.{Plus}

-- the values of a field, in the order of the records
abbrev pub values_of : List ℕ → List (List (List ℕ × Tree)) → List Tree
values_of name records = filter_map (value_at name) records

-- the values that aren't empty
abbrev pub present : List Tree → List Tree
present values = filter (λ value. not (is_empty value)) values

-- the sum of some values, which begins with the int 0
abbrev pub sum_of : List Tree → Tree
sum_of values = fold (arith_of Plus) (int (pos 0) []) values
