-- `top`: the greatest ints of some fields, or the least.
use Rattle.std.specs.Prelude.{ℕ, pos, ◌+◌, Bool, true, false, if◌then◌else◌, List, [], ◌∷◌, length, map, max, take, slice_index_or}
use Rattle.std.specs.List.{filter, fold, range_with_len}
use Rattle.std.specs.Option.{unwrap_or}
use Rattle.std.specs.Ordering.{on}
use Rattle.std.specs.declared.cmp.Ordering.{Ordering}
use Rattle.mlr_spec.specs.Order.{order_of}
use Rattle.mlr_spec.specs.Pairs.{put_each, value_at}
use Rattle.mlr_spec.specs.Tree.{Tree, absent, empty, int}
use Rattle.mlr_spec.specs.declared.arith.Order.TheVariants.{Number, NumberDown}
use Rattle.mlr_event.specs.declared.event.Ctx.{Ctx}
use Rattle.mlr_groups.specs.declared.group_by.GroupBy.TheVariants.{Texts}
use Rattle.mlr_sort.specs.InOrder.{in_order}
use Rattle.verbs_base.specs.Choosing.{picked}
use Rattle.verbs_base.specs.Records.{Fields, RecordVerb, Row, records}
use Rattle.group_state.specs.AtEnd.{by_groups}
use Rattle.stat_base.specs.Outputs.{output_name}
use Rattle.stat_base.specs.Values.{values_of}
use Rattle.verbs_top.specs.declared.top.Top.{Top}
use Rattle.verbs_top.specs.declared.top.TopOrder.{TopOrder}
use Rattle.verbs_top.specs.declared.top.TopOrder.TheVariants.{Max, Min}
use Rattle.std.specs.Prelude.{codes}

abbrev pub is_int : Tree → Bool
is_int (int n spelling) = true
is_int _ = false

-- how two values compare: the greater int comes first, or the less
abbrev pub by_top : TopOrder → Tree → Tree → Ordering
by_top Max = order_of NumberDown
by_top Min = order_of Number

-- the first ints of a field in that order, where those that tie keep their order
abbrev pub top_values : Top → List Row → List ℕ → List Tree
top_values options rows name = take options.count (in_order (by_top options.order) (filter is_int (values_of name (records rows))))

-- the grouping fields of the first record
abbrev pub group_fields : List (List ℕ) → List Row → Fields
group_fields names [] = []
group_fields names (row ∷ rows) = picked names row.0

-- the fields that are made for a place, which counts from 0: the place from 1 up, and the int at the place of each field, or an empty
-- value where it has fewer
abbrev pub made_at : Top → List Row → ℕ → Fields
made_at options rows place =
    (options.output, int (pos (place + 1)) []) ∷ map (λ name. (output_name name (codes "top"), slice_index_or (top_values options rows name) place empty)) options.names

-- the most ints that a field gives
abbrev pub most : Top → List Row → ℕ
most options rows = fold max 0 (map (λ name. length (top_values options rows name)) options.names)

-- a record for each place
abbrev pub top_records : Top → List Row → List Fields
top_records options rows =
    map (λ place. put_each (group_fields (unwrap_or options.groups []) rows) (made_at options rows place)) (range_with_len 0 (most options rows))

-- the value of a field of a record
abbrev pub value_in : List ℕ → Row → Tree
value_in name row = unwrap_or (value_at name row.0) absent

-- the records that have an int in the field, in the order of these ints
abbrev pub top_rows : Top → List Row → List ℕ → List Row
top_rows options rows name = take options.count (in_order (on (value_in name) (by_top options.order)) (filter (λ row. is_int (value_in name row)) rows))

-- what some records come to
abbrev pub top_gives : Top → List Row → Ctx → List Row
top_gives options rows ctx =
    if options.whole then top_rows options rows (slice_index_or options.names 0 [])
    else map (λ fields. (fields, ctx)) (top_records options rows)

abbrev pub top : Top → RecordVerb
top options = by_groups (Texts (unwrap_or options.groups [])) (top_gives options)
