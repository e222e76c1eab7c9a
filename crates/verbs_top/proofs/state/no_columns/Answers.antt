use Rattle.std.proofs.Common.{length, sym, subst, ap, arith}
use Rattle.verbs_top.specs.State.{HoldColumns}
use Rattle.verbs_top.proofs.Columns.{none-more}
use Rattle.verbs_top.proofs.state.no_columns.Goals as goal

pub loop-preserved : goal.loop-preserved
loop-preserved c = λ options. (
    let i = c.loop.index in
    let held = none-more options c.args.names.now i c.loop.columns.items c.new.result (omega (arith, ap length c.as_slice-items.ensures)) (c.loop.invariant options) (c.new.ensures options) in
    subst (HoldColumns options _) (sym c.in_ok-push.ensures.items) held
    )
