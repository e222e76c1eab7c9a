-- `count-similar`: the records group by group, each with the number of records of its group.
use Rattle.std.specs.Prelude.{ℕ, List, length, map}
use Rattle.mlr_spec.specs.Pairs.{put_at}
use Rattle.mlr_groups.specs.declared.group_by.GroupBy.TheVariants.{Texts}
use Rattle.verbs_base.specs.Records.{Fields, RecordVerb}
use Rattle.group_state.specs.AtEnd.{by_groups}
use Rattle.group_state.specs.Counts.{count_value}
use Rattle.verbs_hold.specs.declared.count_similar.CountSimilar.{CountSimilar}

-- a record with a count: in the field of that name, or else in a new one at the end
abbrev pub with_count : List ℕ → ℕ → Fields → Fields
with_count name count fields = put_at name (count_value count) fields

abbrev pub count_similar : CountSimilar → RecordVerb
count_similar options = by_groups (Texts options.groups) (λ rows ctx. map (λ row. (with_count options.output (length rows) row.0, row.1)) rows)
