use Rattle.verbs_sort.specs.Sort.{keys_of_flags}
use Rattle.verbs_sort.proofs.Comparing.{records-total, sorted-rows}
use Rattle.verbs_sort.proofs.laws.sort_law.Goals as goal

pub returns-clause-sorted : goal.returns-clause-sorted
returns-clause-sorted c = λ options rows ctx. sorted-rows (keys_of_flags options.flags) rows

pub returns-clause-order : goal.returns-clause-order
returns-clause-order c = records-total
