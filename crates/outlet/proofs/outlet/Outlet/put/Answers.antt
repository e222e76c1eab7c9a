use Rattle.std.proofs.Common.{List, [], ◌∷◌, Some, None, ap, sym, subst}
use Rattle.mlr_event.specs.declared.event.Event.{Event}
use Rattle.writers.specs.declared.options.WriteOpts.{WriteOpts}
use Rattle.outlet.specs.declared.outlet.Outlet.{Outlet}
use Rattle.outlet.specs.Out.{bodies, event_bodies}
use Rattle.outlet.specs.PendingText.{IsAt, Appends}
use Rattle.outlet.proofs.Putting.{end-appends, fault-appends, if-ok-none}
use Rattle.outlet.proofs.outlet.Outlet.put.Goals as goal

pub returns-in-Rec-clause-appends : goal.returns-in-Rec-clause-appends
returns-in-Rec-clause-appends c =
    if-ok-none c.put_body.result (λ over. (opts : WriteOpts) → (before : List Event) → IsAt opts before c.args.self.now → Appends over opts before (c.args.event ∷ []) c.args.self.now c.put_body.new.self)
    (λ appends opts before at. appends opts before c.args.event at (ap event_bodies c.in-Rec.is)) c.put_body.ensures.over c.put_body.ensures.appends

pub returns-in-Text-clause-appends : goal.returns-in-Text-clause-appends
returns-in-Text-clause-appends c =
    if-ok-none c.put_body-in-Text.result (λ over. (opts : WriteOpts) → (before : List Event) → IsAt opts before c.args.self.now → Appends over opts before (c.args.event ∷ []) c.args.self.now c.put_body-in-Text.new.self)
    (λ appends opts before at. appends opts before c.args.event at (ap event_bodies c.in-Text.is)) c.put_body-in-Text.ensures.over c.put_body-in-Text.ensures.appends

pub returns-in-Out-clause-appends : goal.returns-in-Out-clause-appends
returns-in-Out-clause-appends c =
    if-ok-none c.put_piece.result (λ over. (opts : WriteOpts) → (before : List Event) → IsAt opts before c.args.self.now → Appends over opts before (c.args.event ∷ []) c.args.self.now c.put_piece.new.self)
    (λ appends opts before at. subst (λ e. Appends None opts before (e ∷ []) c.args.self.now c.put_piece.new.self) (sym c.in-Out.is) (appends opts before at)) c.put_piece.ensures.over c.put_piece.ensures.appends

pub returns-in_ok-end-in-End-clause-appends : goal.returns-in_ok-end-in-End-clause-appends
returns-in_ok-end-in-End-clause-appends c opts before at =
    let now : Outlet = record { writer = c.end.new.self; text = c.end.new.out } in
    subst (λ e. Appends (Some None) opts before (e ∷ []) c.args.self.now now) (sym c.in-End.is)
    (end-appends opts before c.args.self.now now at c.in-End.field-0 (c.in_ok-end-in-End.ensures.adds opts (bodies before) at.represents))

pub returns-in-Fault-clause-appends : goal.returns-in-Fault-clause-appends
returns-in-Fault-clause-appends c opts before at =
    subst (λ e. Appends (Some (Some c.in-Fault.fault)) opts before (e ∷ []) c.args.self.now c.args.self.now) (sym c.in-Fault.is) (fault-appends opts before c.args.self.now at c.in-Fault.fault)
