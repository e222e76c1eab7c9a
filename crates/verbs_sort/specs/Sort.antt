-- `sort`: the records in order, by the values of some of their fields.
use Rattle.std.specs.Prelude.{ℕ, Bool, not, List, [], ◌∷◌, ◌++◌, map, is_some}
use Rattle.std.specs.List.{filter, flat_map, list_all}
use Rattle.std.specs.Option.{unwrap_or}
use Rattle.std.specs.Ordering.{ordering_then}
use Rattle.std.specs.declared.cmp.Ordering.{Ordering}
use Rattle.std.specs.declared.cmp.Ordering.TheVariants.{Equal}
use Rattle.mlr_spec.specs.Order.{order_of}
use Rattle.mlr_spec.specs.Pairs.{value_at}
use Rattle.mlr_spec.specs.Tree.{absent}
use Rattle.mlr_spec.specs.declared.arith.Order.{Order}
use Rattle.mlr_sort.specs.InOrder.{in_order}
use Rattle.verbs_base.specs.Records.{Fields, RecordVerb, Row}
use Rattle.group_state.specs.AtEnd.{at_end}
use Rattle.verbs_sort.specs.declared.sort.Sort.{Sort}
use Rattle.verbs_sort.specs.declared.sort.SortFlag.{SortFlag}

-- the named fields of all flags in their order, each with the order of its flag
abbrev pub keys_of_flags : List SortFlag → List (Order × List ℕ)
keys_of_flags flags = flat_map (λ flag. map (λ name. (flag.order, name)) flag.names) flags

-- whether a record has all these fields
abbrev pub has_keys : List (Order × List ℕ) → Fields → Bool
has_keys keys fields = list_all (λ key. is_some (value_at key.1 fields)) keys

-- how two records compare: by the first of these fields that tells them apart
abbrev pub compare_by : List (Order × List ℕ) → Fields → Fields → Ordering
compare_by [] fields other = Equal
compare_by (key ∷ keys) fields other =
    ordering_then (order_of key.0 (unwrap_or (value_at key.1 fields) absent) (unwrap_or (value_at key.1 other) absent)) (compare_by keys fields other)

-- the records that have all the fields in order, where those that tie keep their order, and then the others
abbrev pub sorted_rows : List (Order × List ℕ) → List Row → List Row
sorted_rows keys rows =
    in_order (λ row other. compare_by keys row.0 other.0) (filter (λ row. has_keys keys row.0) rows)
    ++ filter (λ row. not (has_keys keys row.0)) rows

abbrev pub sort : Sort → RecordVerb
sort options = at_end (λ rows ctx. sorted_rows (keys_of_flags options.flags) rows)
