use Rattle.std.proofs.Common.{List}
use Rattle.mlr_event.specs.declared.event.Ctx.{Ctx}
use Rattle.verbs_base.specs.Records.{Row}
use Rattle.group_state.specs.Represents.{EachHolds}
use Rattle.verbs_count.specs.GroupCount.{GroupHolds, group_gives}
use Rattle.verbs_count.proofs.Sorting.{Given}
use Rattle.verbs_count.proofs.frequent.give_each.Given as goal

-- the states before this one have given their records
abbrev pub invariant-loop-state : goal.invariant-loop-state
invariant-loop-state l =
    (late : List Row → Ctx → List Row) (groups : List (List Row)) → EachHolds group_gives GroupHolds late l.fn.states.items groups
    → Given group_gives GroupHolds late l.ctx groups l.fn.out l.state-iterator.rest.items l.out
