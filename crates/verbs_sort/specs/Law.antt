-- What `sort` does with the order of records, in std's words.
use Rattle.std.specs.Prelude.{◌≡◌, ℕ, not, List, ◌++◌}
use Rattle.std.specs.List.{filter}
use Rattle.std.specs.List.Sorted.{IsPermutation}
use Rattle.mlr_spec.specs.declared.arith.Order.{Order}
use Rattle.mlr_sort.specs.InOrder.{IsInOrder}
use Rattle.verbs_base.specs.Records.{Row}
use Rattle.verbs_sort.specs.Sort.{compare_by, has_keys}

-- The records in another order: first those with all these fields, which ascend, and of which those that tie keep their
-- order; then the others in their order.
pub record IsSortedBy (keys : List (Order × List ℕ)) (rows sorted : List Row) : Type 0 where
  pub moved : IsPermutation rows sorted
  pub first : List Row
  pub parts : sorted ≡ first ++ filter (λ row. not (has_keys keys row.0)) rows
  pub ordered : IsInOrder (λ row other. compare_by keys row.0 other.0) (filter (λ row. has_keys keys row.0) rows) first
