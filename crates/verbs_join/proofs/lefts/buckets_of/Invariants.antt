use Rattle.std.proofs.Common.{ℕ, List, []}
use Rattle.mlr_groups.specs.Represents.{GroupsOf}
use Rattle.mlr_groups.specs.declared.group_by.GroupBy.TheVariants.{Texts}
use Rattle.verbs_join.specs.Represents.{AreIndexed}
use Rattle.verbs_join.proofs.lefts.buckets_of.Given as goal

abbrev pub invariant-loop-place : goal.invariant-loop-place
invariant-loop-place l = (names : List (List ℕ)) → GroupsOf (Texts names) [] l.fn.groups → AreIndexed names l.records l.place l.groups l.buckets.items
