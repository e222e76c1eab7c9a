use Rattle.std.proofs.Common.{List, [], ◌∷◌, sym, ◌∙◌, subst, arith, length, ap}
use Rattle.mlr_event.specs.declared.event.Event.{Event}
use Rattle.writers.specs.declared.options.WriteOpts.{WriteOpts}
use Rattle.outlet.specs.PendingText.{IsAt, Appends}
use Rattle.outlet.proofs.Passing.{Passed, last-taken, one-passed, passed-taken}
use Rattle.outlet.proofs.outlet.Outlet.put_some.Goals as goal
use Rattle.outlet.proofs.outlet.Outlet.put_some.Goals.{in-Some+in_ok-fault+in_default-2+then-len-ge-GATHERED, in_default}

pub returns-in-Some-2-clause-appends : goal.returns-in-Some-2-clause-appends
returns-in-Some-2-clause-appends c =
    let so_far = subst (λ t. Passed c.args.self.now c.args.events.now c.loop-event.self t) c.in-Some.ensures.events c.loop-event.invariant.0 in
    let appends = subst (λ over. (opts : WriteOpts) → (before : List Event) → IsAt opts before c.loop-event.self → Appends over opts before (c.in-Some.event ∷ []) c.loop-event.self c.put.new.self) c.in-Some-2.is c.in_ok-fault.ensures.appends in
    last-taken c.args.self.now c.args.events.now c.loop-event.self c.pop_first.new.self c.in-Some.event so_far c.in-Some-2.fault c.put.new.self (sym c.in_ok-fault.ensures.over ∙ c.in-Some-2.is) appends
    c.requires.open.1 c.requires.open.3

pub loop-event-preserved : goal.loop-event-preserved
loop-event-preserved c =
    let so_far = subst (λ t. Passed c.args.self.now c.args.events.now c.loop-event.self t) c.in-Some.ensures.events c.loop-event.invariant.0 in (
      one-passed c.args.self.now c.args.events.now c.loop-event.self c.pop_first.new.self c.in-Some.event so_far c.in_ok-fault.field-0 c.put.new.self c.in_ok-fault.ensures.appends c.in_default-2.is,
      omega (arith, ap length c.in-Some.ensures.events, c.loop-event.invariant.1),
    )

pub returns-clause-appends : goal.returns-clause-appends
returns-clause-appends c =
    let first = c.args.self.now in
    let events = c.args.events.now in
    let left = c.pop_first.new.self in
    passed-taken first events c.match-pop_first.self left (elim c.match-pop_first.branch [
      | in-Some+in_ok-fault+in_default-2+then-len-ge-GATHERED w ↦
          let so_far = subst (λ t. Passed first events c.loop-event.self t) w.in-Some.ensures.events c.loop-event.invariant.0 in
          subst (λ now. Passed first events now left) (sym w.self-is)
          (one-passed first events c.loop-event.self left w.in-Some.event so_far w.in_ok-fault.field-0 w.put.new.self w.in_ok-fault.ensures.appends w.in_default-2.is)
      | in_default w ↦
          subst (λ now. Passed first events now left) (sym w.self-is)
          (subst (λ t. Passed first events c.loop-event.self t) w.in_default.ensures.events c.loop-event.invariant.0)
    ])
