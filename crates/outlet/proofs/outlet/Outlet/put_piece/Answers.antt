use Rattle.std.proofs.Common.{sym, ◌∙◌}
use Rattle.std.proofs.lemmas.Bool.{true≢false}
use Rattle.std.proofs.lemmas.Result.{on_ok_weaker}
use Rattle.mlr_event.specs.declared.event.Event.TheVariants as event
use Rattle.outlet.proofs.Putting.{nothing-appends, piece-elsewhere, piece-here}
use Rattle.outlet.proofs.outlet.Outlet.put_piece.Goals as goal
use Rattle.std.proofs.Common.{refl}

pub returns-then-is-clause-appends : goal.returns-then-is-clause-appends
returns-then-is-clause-appends c =
    on_ok_weaker c.put_body.result
    (λ appends. λ opts before at. appends opts before (event.Out c.args.target c.args.piece) at (piece-here c.args.target c.args.piece (c.is.ensures.0 c.if-is.true)))
    c.put_body.ensures.appends

pub returns-clause-appends : goal.returns-clause-appends
returns-clause-appends c opts before at =
    nothing-appends opts before c.args.self.now at (event.Out c.args.target c.args.piece) refl
    (piece-elsewhere c.args.target c.args.piece (λ is. true≢false (sym (c.is.ensures.1 is) ∙ c.if-is.false)))
