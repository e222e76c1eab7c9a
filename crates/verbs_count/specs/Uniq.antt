-- `uniq`: the first record of each group.
use Rattle.std.specs.Prelude.{ℕ, codes, if◌then◌else◌, List, [], ◌∷◌, length, Option, Some, None}
use Rattle.std.specs.List.{list_any}
use Rattle.mlr_spec.specs.Pairs.{remove_at}
use Rattle.mlr_event.specs.declared.event.Event.{Event}
use Rattle.mlr_event.specs.declared.event.Event.TheVariants.{Rec}
use Rattle.mlr_groups.specs.declared.group_by.GroupBy.{GroupBy}
use Rattle.mlr_groups.specs.Grouping.{common_in, groups_in, texts_eq}
use Rattle.verbs_base.specs.Records.{Fields, RecordVerb, Row, streams}
use Rattle.verbs_count.specs.declared.uniq.Uniq.{Uniq}
use Rattle.verbs_count.specs.declared.uniq.UniqShow.TheVariants as show
use Rattle.verbs_count.specs.GroupNumber.{group_number}
use Rattle.group_state.specs.AtEnd.{by_groups}
use Rattle.group_state.specs.Counts.{count_value}

-- a record whose group no record before it is in; a record in no group is dropped
abbrev pub uniq_gives : GroupBy → List Fields → Fields → List Fields
uniq_gives by before fields = elim (common_in by fields) [
  | Some texts ↦ (if list_any (texts_eq texts) (groups_in by before) then [] else fields ∷ [])
  | None ↦ []
]

abbrev pub uniq_first : GroupBy → RecordVerb
uniq_first by = streams (uniq_gives by)

abbrev pub count_name : List ℕ
count_name = codes "count"

-- the first record of a group with the number of its records as its first field
abbrev pub counted_first : List Row → List Row
counted_first [] = []
counted_first (row ∷ rows) = ((count_name, count_value (length (row ∷ rows))) ∷ remove_at count_name row.0, row.1) ∷ []

-- the first record of a group as an event
abbrev pub first_event : List Row → Option Event
first_event [] = None
first_event (row ∷ rows) = Some (Rec row.0 row.1)

abbrev pub uniq_counted : GroupBy → RecordVerb
uniq_counted by = by_groups by (λ group ctx. counted_first group)

abbrev pub uniq : Uniq → RecordVerb
uniq options = elim options.show [
  | show.First ↦ uniq_first options.by
  | show.Counted ↦ uniq_counted options.by
  | show.Number ↦ group_number options.by count_name
]
