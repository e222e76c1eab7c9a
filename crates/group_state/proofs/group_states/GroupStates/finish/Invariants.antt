use Rattle.std.proofs.Common.{List, drop}
use Rattle.mlr_event.specs.declared.event.Ctx.{Ctx}
use Rattle.mlr_groups.specs.declared.group_by.GroupBy.{GroupBy}
use Rattle.verbs_base.specs.Records.{Row}
use Rattle.group_state.specs.Grouped.{grouped}
use Rattle.group_state.specs.Represents.{HoldGroups}
use Rattle.group_state.proofs.Holding.{Given}
use Rattle.group_state.proofs.group_states.GroupStates.finish.Given as goal

-- the states before this place have given their records
abbrev pub invariant-loop-state : goal.invariant-loop-state
invariant-loop-state g l =
    (by : GroupBy) (late : List Row → Ctx → List Row) (before : List Row) → HoldGroups g.S.AtEnd.gives g.S.AtEnd.holds by late before l.fn.self
    → Given g.S.AtEnd.gives g.S.AtEnd.holds late l.ctx (grouped by before) l.fn.out (drop l.state-index l.state-items) l.out
