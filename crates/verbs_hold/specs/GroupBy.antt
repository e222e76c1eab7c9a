-- `group-by`: the records group by group, by the texts of the named fields.
use Rattle.std.specs.Prelude.{ℕ, List}
use Rattle.mlr_groups.specs.declared.group_by.GroupBy.TheVariants.{Texts}
use Rattle.verbs_base.specs.Records.{RecordVerb}
use Rattle.group_state.specs.AtEnd.{by_groups}

abbrev pub group_by : List (List ℕ) → RecordVerb
group_by names = by_groups (Texts names) (λ rows ctx. rows)
