use Rattle.std.proofs.Common.{◌≡◌, ◌++◌, suc, ap, ◌∙◌, refl, subst, length, arith}
use Rattle.verb_chain.proofs.Passing.{Passed, all-adds, all-at, none-passed, one-passed, still-open}
use Rattle.verb_chain.proofs.gate.Gate.take_each.Goals as goal

pub loop-event-init : goal.loop-event-init
loop-event-init g c = none-passed g.S.Step.verb g.S.Step.represents c.args.self.now c.args.events.now c.args.out.now

pub take-requires : goal.take-requires
take-requires g c =
    let before = subst (λ t. Passed g.S.Step.verb g.S.Step.represents c.args.self.now c.args.events.now c.args.out.now c.loop-event.self t c.loop-event.out) (c.in-Some.ensures.events) c.loop-event.invariant in
    let given = c.requires.0 in (
      given ++ before.passed,
      before.at given c.requires.1 c.requires.2,
      still-open g.S.Step.verb g.S.Step.represents c.args.self.now c.args.events.now c.args.out.now c.loop-event.self c.pop_first.new.self c.in-Some.event c.loop-event.out before given c.requires.2,
    )

pub loop-event-smaller : goal.loop-event-smaller
loop-event-smaller g c =
    let longer : length c.loop-event.events ≡ suc (length c.pop_first.new.self) = ap length c.in-Some.ensures.events in
    omega arith

pub loop-event-preserved : goal.loop-event-preserved
loop-event-preserved g c =
    let before = subst (λ t. Passed g.S.Step.verb g.S.Step.represents c.args.self.now c.args.events.now c.args.out.now c.loop-event.self t c.loop-event.out) (c.in-Some.ensures.events) c.loop-event.invariant in
    one-passed g.S.Step.verb g.S.Step.represents c.args.self.now c.args.events.now c.args.out.now c.loop-event.self c.pop_first.new.self c.in-Some.event c.loop-event.out before c.take.new.self c.take.new.out c.in_ok-take.ensures.same c.in_ok-take.ensures.represents c.in_ok-take.ensures.adds

pub returns-clause-same : goal.returns-clause-same
returns-clause-same g c = c.loop-event.invariant.same

pub returns-clause-represents : goal.returns-clause-represents
returns-clause-represents g c =
    let done = subst (λ t. Passed g.S.Step.verb g.S.Step.represents c.args.self.now c.args.events.now c.args.out.now c.loop-event.self t c.loop-event.out) (c.in_default.ensures.events ∙ c.in_default.ensures.none refl) c.loop-event.invariant in
    all-at g.S.Step.verb g.S.Step.represents c.args.self.now c.args.events.now c.args.out.now c.loop-event.self c.loop-event.out done

pub returns-clause-adds : goal.returns-clause-adds
returns-clause-adds g c =
    let done = subst (λ t. Passed g.S.Step.verb g.S.Step.represents c.args.self.now c.args.events.now c.args.out.now c.loop-event.self t c.loop-event.out) (c.in_default.ensures.events ∙ c.in_default.ensures.none refl) c.loop-event.invariant in
    all-adds g.S.Step.verb g.S.Step.represents c.args.self.now c.args.events.now c.args.out.now c.loop-event.self c.loop-event.out done
