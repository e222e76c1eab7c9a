use Rattle.std.proofs.Common.{subst}
use Rattle.std.specs.List.Sorted.{IsPermutation}
use Rattle.mlr_groups.specs.declared.group_by.GroupBy.TheVariants.{Keys, Texts}
use Rattle.verbs_hold.specs.GroupLike.{group_like}
use Rattle.verbs_laws.proofs.Moved.{moved}
use Rattle.verbs_laws.proofs.Parts.{filter-always}
use Rattle.verbs_laws.proofs.groups.group_laws.Goals as goal

pub returns-clause-by : goal.returns-clause-by
returns-clause-by c = λ names rows ctx. moved (Texts names) rows

pub returns-clause-like : goal.returns-clause-like
returns-clause-like c = λ rows ctx. subst (λ all. IsPermutation all (group_like.late rows ctx)) (filter-always rows) (moved Keys rows)
