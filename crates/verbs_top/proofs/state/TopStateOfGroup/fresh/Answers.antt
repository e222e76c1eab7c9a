use Rattle.std.proofs.Common.{[], map, refl, subst, sym, ◌∙◌}
use Rattle.std.specs.Arc.{arc_value}
use Rattle.verbs_top.specs.State.{HoldColumns, column_of}
use Rattle.verbs_top.specs.declared.top.Top.{Top}
use Rattle.verbs_top.proofs.state.TopStateOfGroup.fresh.Goals as goal

pub returns-clause-holds : goal.returns-clause-holds
returns-clause-holds c =
    let options = arc_value c.in_ok-clone.field-0 in
    let cases = c.in_ok-clone.ensures.cases in (
      λ whole. c.new.ensures options,
      λ none. (refl, subst (λ (o : Top). HoldColumns options (map (λ name. column_of name []) o.names) c.in_ok-no_columns.field-0.items) (c.deref.ensures ∙ sym cases) (c.in_ok-no_columns.ensures options)),
    )
