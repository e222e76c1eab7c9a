use Rattle.std.proofs.Common.{[], ap, map, refl, subst, sym}
use Rattle.std.specs.Arc.{arc_value}
use Rattle.verbs_top.specs.State.{HoldColumns, column_of}
use Rattle.verbs_top.specs.Top.{top_gives}
use Rattle.verbs_top.specs.declared.top.Top.{Top}
use Rattle.verbs_top.proofs.state.TopState.new.Goals as goal

pub returns-clause-gives : goal.returns-clause-gives
returns-clause-gives c = ap top_gives c.in_ok-new.ensures.ok

pub returns-clause-holds : goal.returns-clause-holds
returns-clause-holds c =
    let options = arc_value c.in_ok-new.field-0 in (
      λ whole. c.new-2.ensures options,
      λ none. (refl, subst (λ (o : Top). HoldColumns options (map (λ name. column_of name []) o.names) c.in_ok-columns.columns.items) (sym c.in_ok-new.ensures.ok) (c.in_ok-columns.ensures options)),
    )
