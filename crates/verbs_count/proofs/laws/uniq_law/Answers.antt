use Rattle.verbs_count.proofs.GroupOnce.{each-group, one-each}
use Rattle.verbs_count.proofs.laws.uniq_law.Goals as goal

pub returns-clause-groups : goal.returns-clause-groups
returns-clause-groups c = each-group

pub returns-clause-once : goal.returns-clause-once
returns-clause-once c = one-each
