-- `group-like`: the records group by group, by the names of their fields.
use Rattle.mlr_groups.specs.declared.group_by.GroupBy.TheVariants.{Keys}
use Rattle.verbs_base.specs.Records.{RecordVerb}
use Rattle.group_state.specs.AtEnd.{by_groups}

abbrev pub group_like : RecordVerb
group_like = by_groups Keys (λ rows ctx. rows)
