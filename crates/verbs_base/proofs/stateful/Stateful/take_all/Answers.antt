use Rattle.std.proofs.Common.{◌≡◌, ◌++◌, suc, ap, ◌∙◌, refl, subst, length, arith}
use Rattle.verbs_base.specs.Records.{rows_in}
use Rattle.verbs_base.proofs.Passing.{Passed, all-at, all-gives, none-passed, one-passed}
use Rattle.verbs_base.proofs.stateful.Stateful.take_all.Goals as goal

pub loop-event-init : goal.loop-event-init
loop-event-init g c = none-passed g.Self.Stateful.meaning g.Self.Stateful.represents c.args.self.now c.args.events.now c.args.out.now

pub pass-requires : goal.pass-requires
pass-requires g c = (c.requires.0 ++ rows_in c.loop-event.invariant.passed, c.loop-event.invariant.at c.requires.0 c.requires.1)

pub loop-event-smaller : goal.loop-event-smaller
loop-event-smaller g c =
    let longer : length c.loop-event.events ≡ suc (length c.pop_first.new.self) = ap length c.in-Some.ensures.events in
    omega arith

pub loop-event-preserved : goal.loop-event-preserved
loop-event-preserved g c =
    let so_far = subst (λ t. Passed g.Self.Stateful.meaning g.Self.Stateful.represents c.args.self.now c.args.events.now c.args.out.now c.loop-event.self t c.loop-event.out) (c.in-Some.ensures.events) c.loop-event.invariant in
    one-passed g.Self.Stateful.meaning g.Self.Stateful.represents c.args.self.now c.args.events.now c.args.out.now c.loop-event.self c.pop_first.new.self c.in-Some.event c.loop-event.out so_far c.pass.new.self c.pass.new.out c.in_ok-pass.ensures.meaning c.in_ok-pass.ensures.represents c.in_ok-pass.ensures.gives

pub returns-clause-meaning : goal.returns-clause-meaning
returns-clause-meaning g c = c.loop-event.invariant.same

pub returns-clause-represents : goal.returns-clause-represents
returns-clause-represents g c =
    let done = subst (λ t. Passed g.Self.Stateful.meaning g.Self.Stateful.represents c.args.self.now c.args.events.now c.args.out.now c.loop-event.self t c.loop-event.out) (c.in_default.ensures.events ∙ c.in_default.ensures.none refl) c.loop-event.invariant in
    record { follows = all-at g.Self.Stateful.meaning g.Self.Stateful.represents c.args.self.now c.args.events.now c.args.out.now c.loop-event.self c.loop-event.out done }

pub returns-clause-gives : goal.returns-clause-gives
returns-clause-gives g c =
    let done = subst (λ t. Passed g.Self.Stateful.meaning g.Self.Stateful.represents c.args.self.now c.args.events.now c.args.out.now c.loop-event.self t c.loop-event.out) (c.in_default.ensures.events ∙ c.in_default.ensures.none refl) c.loop-event.invariant in
    record { gives = all-gives g.Self.Stateful.meaning g.Self.Stateful.represents c.args.self.now c.args.events.now c.args.out.now c.loop-event.self c.loop-event.out done }
