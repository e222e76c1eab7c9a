-- The number of groups, which `count -n`, `count-distinct -n` and `uniq -n` give.
use Rattle.std.specs.Prelude.{ℕ, List, length}
use Rattle.mlr_groups.specs.declared.group_by.GroupBy.{GroupBy}
use Rattle.mlr_groups.specs.Grouping.{groups_in}
use Rattle.verbs_base.specs.Records.{RecordVerb, records}
use Rattle.group_state.specs.AtEnd.{at_end}
use Rattle.verbs_count.specs.RecordCount.{count_row}

abbrev pub group_number : GroupBy → List ℕ → RecordVerb
group_number by output = at_end (λ rows ctx. count_row output (length (groups_in by (records rows))) ctx)
