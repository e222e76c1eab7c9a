-- The number of records of each group, which `count` and `count-distinct` give.
use Rattle.std.specs.Prelude.{◌≡◌, ℕ, List, [], ◌∷◌, length, Option, Some, None}
use Rattle.std.specs.Arc.{arc_value}
use Rattle.std.specs.Option.{unwrap_or}
use Rattle.mlr_spec.specs.Pairs.{put_at}
use Rattle.mlr_groups.specs.declared.group_by.GroupBy.TheVariants.{Texts}
use Rattle.mlr_event.specs.declared.event.Ctx.{Ctx}
use Rattle.mlr_groups.specs.Tallying.{capped}
use Rattle.verbs_base.specs.Choosing.{picked}
use Rattle.verbs_base.specs.Records.{Fields, RecordVerb, Row}
use Rattle.group_state.specs.AtEnd.{by_groups}
use Rattle.group_state.specs.Counts.{count_value}
use Rattle.verbs_count.specs.declared.group_counts.Counting.{Counting}
use Rattle.verbs_count.specs.declared.group_counts.GroupCount.{GroupCount}

-- the named fields of the first record of a group
abbrev pub first_of : List (List ℕ) → List Row → Option Fields
first_of names [] = None
first_of names (row ∷ rows) = Some (picked names row.0)

-- the grouping fields of a group, with the number of its records if that is given
abbrev pub counted_group : Counting → List Row → Fields
counted_group options group =
    let fields = unwrap_or (first_of options.groups group) [] in
    elim options.output [ Some name ↦ put_at name (count_value (length group)) fields | None ↦ fields ]

abbrev pub group_count : Counting → RecordVerb
group_count options = by_groups (Texts options.groups) (λ group ctx. (counted_group options group, ctx) ∷ [])

-- what the state of a group gives at the end, and the records that it holds
abbrev pub group_gives : GroupCount → List Row → Ctx → List Row
group_gives state rows ctx = (counted_group (arc_value state.options) rows, ctx) ∷ []

abbrev pub GroupHolds : GroupCount → List Row → Type 0
GroupHolds state rows = (state.count ≡ capped (length rows)) × (state.first ≡ first_of (arc_value state.options).groups rows)
