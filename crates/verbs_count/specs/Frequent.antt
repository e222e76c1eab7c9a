-- `most-frequent` and `least-frequent`: the groups of the greatest or the least number of records.
use Rattle.std.specs.Prelude.{ℕ, Bool, if◌then◌else◌, List, [], ◌∷◌, length, take, Some, None}
use Rattle.std.specs.List.{flat_map}
use Rattle.std.specs.Ordering.{nat_cmp}
use Rattle.std.specs.declared.cmp.Ordering.{Ordering}
use Rattle.mlr_event.specs.declared.event.Ctx.{Ctx}
use Rattle.mlr_groups.specs.Tallying.{capped}
use Rattle.mlr_groups.specs.declared.group_by.GroupBy.{GroupBy}
use Rattle.mlr_groups.specs.declared.group_by.GroupBy.TheVariants.{Texts}
use Rattle.mlr_sort.specs.InOrder.{in_order}
use Rattle.verbs_base.specs.Records.{RecordVerb, Row}
use Rattle.group_state.specs.AtEnd.{at_end}
use Rattle.group_state.specs.Grouped.{grouped}
use Rattle.verbs_count.specs.GroupCount.{counted_group}
use Rattle.verbs_count.specs.declared.frequent.Frequent.{Frequent}
use Rattle.verbs_count.specs.declared.group_counts.Counting.{Counting}

-- how two counts compare: the greater comes first, or the less
abbrev pub by_count : Bool → ℕ → ℕ → Ordering
by_count least n other = if least then nat_cmp n other else nat_cmp other n

-- how two groups compare: the one of the greater number of records comes first, or of the less
abbrev pub by_number : Bool → List Row → List Row → Ordering
by_number least group other = by_count least (capped (length group)) (capped (length other))

-- what the first groups in that order give
abbrev pub frequent_rows : Bool → ℕ → GroupBy → (List Row → Ctx → List Row) → List Row → Ctx → List Row
frequent_rows least count by late rows ctx = flat_map (λ group. late group ctx) (take count (in_order (by_number least) (grouped by rows)))

abbrev pub frequent : Bool → Frequent → RecordVerb
frequent least options =
    let counting : Counting = record { groups = options.names; output = if options.brief then None else Some options.output } in
    at_end (frequent_rows least options.count (Texts options.names) (λ group ctx. (counted_group counting group, ctx) ∷ []))
