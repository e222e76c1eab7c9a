use Rattle.std.proofs.Common.{◌∙◌}
use Rattle.mlr_groups.specs.declared.group_by.GroupBy.TheVariants.{Texts}
use Rattle.group_state.specs.AtEnd.{by_groups}
use Rattle.verbs_count.proofs.group_counts.group_count.Goals as goal

pub returns-clause-meaning : goal.returns-clause-meaning
returns-clause-meaning c =
    c.new-2.ensures.meaning ∙ (λ i. by_groups (Texts (c.in_ok-copy.ensures i)) (c.in_ok-new.ensures.gives i))
