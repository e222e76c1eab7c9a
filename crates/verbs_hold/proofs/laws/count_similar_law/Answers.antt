use Rattle.mlr_groups.specs.declared.group_by.GroupBy.TheVariants.{Texts}
use Rattle.group_state.specs.Grouped.{grouped}
use Rattle.verbs_hold.proofs.WholeLists.{counted-groups}
use Rattle.verbs_hold.proofs.laws.count_similar_law.Goals as goal

pub returns : goal.returns
returns c = λ options rows ctx. counted-groups options.output (grouped (Texts options.groups) rows)
