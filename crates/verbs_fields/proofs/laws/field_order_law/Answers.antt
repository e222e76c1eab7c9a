use Rattle.std.proofs.Common.{cond, ap, subst, sym}
use Rattle.std.specs.List.Sorted.{IsPermutation}
use Rattle.mlr_spec.specs.Tree.{fields_of}
use Rattle.verbs_fields.specs.SortWithinRecords.{deep_pairs}
use Rattle.verbs_fields.specs.Sorting.{by_name}
use Rattle.verbs_fields.proofs.Rearranged.{by_name-moved, reorder-moved}
use Rattle.verbs_fields.proofs.laws.field_order_law.Goals as goal

pub returns-clause-reorder : goal.returns-clause-reorder
returns-clause-reorder c = λ verb fields distinct. reorder-moved verb fields distinct

pub returns-clause-sort_within_records : goal.returns-clause-sort_within_records
returns-clause-sort_within_records c =
    λ verb fields shallow distinct. subst (IsPermutation fields) (ap (λ t. by_name (cond t (deep_pairs (fields_of fields)) fields)) (sym shallow)) (by_name-moved fields)
