use Rattle.std.proofs.Common.{◌≡◌, ◌++◌, suc, ap, ◌∙◌, refl, subst, length, arith}
use Rattle.mlr_event.proofs.Listed.{Taken, all-adds, all-at, none-taken, one-taken, still-open}
use Rattle.mlr_event.proofs.step.Step.step_all.Goals as goal

pub loop-event-init : goal.loop-event-init
loop-event-init g c = none-taken g.Self.Step.verb g.Self.Step.represents c.args.self.now c.args.events.now c.args.out.now

pub step-requires : goal.step-requires
step-requires g c =
    let before = subst (λ t. Taken g.Self.Step.verb g.Self.Step.represents c.args.self.now c.args.events.now c.args.out.now c.loop-event.self t c.loop-event.out) (c.in-Some.ensures.events) c.loop-event.invariant in
    let given = c.requires.0 in (
      given ++ before.taken,
      before.at given c.requires.1 c.requires.2,
      still-open g.Self.Step.verb g.Self.Step.represents c.args.self.now c.args.events.now c.args.out.now c.loop-event.self c.pop_first.new.self c.in-Some.event c.loop-event.out before given c.requires.2,
    )

pub loop-event-smaller : goal.loop-event-smaller
loop-event-smaller g c =
    let longer : length c.loop-event.events ≡ suc (length c.pop_first.new.self) = ap length c.in-Some.ensures.events in
    omega arith

pub loop-event-preserved : goal.loop-event-preserved
loop-event-preserved g c =
    let before = subst (λ t. Taken g.Self.Step.verb g.Self.Step.represents c.args.self.now c.args.events.now c.args.out.now c.loop-event.self t c.loop-event.out) (c.in-Some.ensures.events) c.loop-event.invariant in
    one-taken g.Self.Step.verb g.Self.Step.represents c.args.self.now c.args.events.now c.args.out.now c.loop-event.self c.pop_first.new.self c.in-Some.event c.loop-event.out before c.step.new.self c.step.new.out c.in_ok-step.ensures.verb c.in_ok-step.ensures.represents c.in_ok-step.ensures.adds

pub returns-clause-verb : goal.returns-clause-verb
returns-clause-verb g c = c.loop-event.invariant.same

pub returns-clause-represents : goal.returns-clause-represents
returns-clause-represents g c =
    let done = subst (λ t. Taken g.Self.Step.verb g.Self.Step.represents c.args.self.now c.args.events.now c.args.out.now c.loop-event.self t c.loop-event.out) (c.in_default.ensures.events ∙ c.in_default.ensures.none refl) c.loop-event.invariant in
    all-at g.Self.Step.verb g.Self.Step.represents c.args.self.now c.args.events.now c.args.out.now c.loop-event.self c.loop-event.out done

pub returns-clause-adds : goal.returns-clause-adds
returns-clause-adds g c =
    let done = subst (λ t. Taken g.Self.Step.verb g.Self.Step.represents c.args.self.now c.args.events.now c.args.out.now c.loop-event.self t c.loop-event.out) (c.in_default.ensures.events ∙ c.in_default.ensures.none refl) c.loop-event.invariant in
    all-adds g.Self.Step.verb g.Self.Step.represents c.args.self.now c.args.events.now c.args.out.now c.loop-event.self c.loop-event.out done
