use Rattle.std.proofs.Common.{◌≡◌, ◌<◌, ◌++◌, List, length, true, ap, sym, ◌∙◌, subst, arith}
use Rattle.mlr_event.specs.declared.event.Event.{Event}
use Rattle.mlr_event.specs.Verb.{is_list}
use Rattle.verb_chain.specs.Chain.{chain_from}
use Rattle.verb_chain.specs.Represents.{GateRepresents, IsSameGate, made_at, verbs_of}
use Rattle.verb_chain.proofs.InOrder.{coming, next-represents, pass-begins, pass-next, passed-made, passed-same, passed-represents, rest-none, stage-at}
use Rattle.verb_chain.proofs.stage.pass.Goals as goal

pub loop-place-init : goal.loop-place-init
loop-place-init g c = pass-begins g.S.Step.verb g.S.Step.represents c.args.stages.now c.args.events.now

pub take-requires-clause-represents : goal.take-requires-clause-represents
take-requires-clause-represents g c =
    let stages = c.loop-place.stages in
    let below : c.loop-place.place < length stages = subst (λ n. c.loop-place.place < n) (sym c.loop-place.auto.stages) c.loop-place-test.true in
    let next = coming g.S.Step.verb g.S.Step.represents c.args.stages.now c.args.events.now stages c.loop-place.events c.loop-place.place c.loop-place.invariant below in
    let here = stage-at g.S.Step.verb g.S.Step.represents c.args.stages.now c.args.events.now stages c.loop-place.events c.loop-place.place next c.index-stages-place.result in
    let asks = next-represents g.S.Step.verb g.S.Step.represents c.args.stages.now c.args.events.now stages c.loop-place.events c.loop-place.place next c.requires.0 c.requires.1 c.requires.2 c.requires.3 in
    let given = chain_from c.requires.0 (verbs_of g.S.Step.verb next.first) c.requires.1 in
    (given, subst (λ stage. GateRepresents g.S.Step.verb g.S.Step.represents given stage.gate) (sym here) asks.0, asks.1)

pub take-requires-clause-empty : goal.take-requires-clause-empty
take-requires-clause-empty g c =
    let stages = c.loop-place.stages in
    let below : c.loop-place.place < length stages = subst (λ n. c.loop-place.place < n) (sym c.loop-place.auto.stages) c.loop-place-test.true in
    let next = coming g.S.Step.verb g.S.Step.represents c.args.stages.now c.args.events.now stages c.loop-place.events c.loop-place.place c.loop-place.invariant below in
    let here = stage-at g.S.Step.verb g.S.Step.represents c.args.stages.now c.args.events.now stages c.loop-place.events c.loop-place.place next c.index-stages-place.result in
    let asks = next-represents g.S.Step.verb g.S.Step.represents c.args.stages.now c.args.events.now stages c.loop-place.events c.loop-place.place next c.requires.0 c.requires.1 c.requires.2 c.requires.3 in
    ap (λ stage. stage.made) here ∙ asks.2

pub loop-place-preserved : goal.loop-place-preserved
loop-place-preserved g c =
    let stages = c.loop-place.stages in
    let below : c.loop-place.place < length stages = subst (λ n. c.loop-place.place < n) (sym c.loop-place.auto.stages) c.loop-place-test.true in
    let next = coming g.S.Step.verb g.S.Step.represents c.args.stages.now c.args.events.now stages c.loop-place.events c.loop-place.place c.loop-place.invariant below in
    let here = stage-at g.S.Step.verb g.S.Step.represents c.args.stages.now c.args.events.now stages c.loop-place.events c.loop-place.place next c.index-stages-place.result in
    let taken = c.in_ok-take.ensures in
    pass-next g.S.Step.verb g.S.Step.represents g.met.S.Step.orderly c.args.stages.now c.args.events.now stages c.loop-place.events c.loop-place.place next c.take.new.self c.take.new.events
    (subst (λ stage. IsSameGate g.S.Step.verb c.take.new.self.gate stage.gate) here taken.same)
    taken.empty
    (subst
    (λ stage. (given : List Event) → GateRepresents g.S.Step.verb g.S.Step.represents given stage.gate → is_list (given ++ c.loop-place.events) ≡ true → GateRepresents g.S.Step.verb g.S.Step.represents (given ++ c.loop-place.events) c.take.new.self.gate)
    here
    taken.represents)
    (subst
    (λ stage. (given : List Event) → GateRepresents g.S.Step.verb g.S.Step.represents given stage.gate → is_list (given ++ c.loop-place.events) ≡ true → made_at stage.gate.quiet (g.S.Step.verb stage.gate.verb) (given ++ c.loop-place.events) ≡ made_at stage.gate.quiet (g.S.Step.verb stage.gate.verb) given ++ c.take.new.events)
    here
    taken.made)

pub returns-clause-same : goal.returns-clause-same
returns-clause-same g c =
    let none = rest-none g.S.Step.verb g.S.Step.represents c.args.stages.now c.args.events.now c.loop-place.stages c.loop-place.events c.loop-place.place c.loop-place.invariant c.loop-place.auto.stages (let a = c.loop-place.auto.place-end in let b = c.loop-place-test.false in omega arith) in
    passed-same g.S.Step.verb g.S.Step.represents c.args.stages.now c.args.events.now c.loop-place.stages c.loop-place.events c.loop-place.place c.loop-place.invariant none

pub returns-clause-represents : goal.returns-clause-represents
returns-clause-represents g c =
    let none = rest-none g.S.Step.verb g.S.Step.represents c.args.stages.now c.args.events.now c.loop-place.stages c.loop-place.events c.loop-place.place c.loop-place.invariant c.loop-place.auto.stages (let a = c.loop-place.auto.place-end in let b = c.loop-place-test.false in omega arith) in
    passed-represents g.S.Step.verb g.S.Step.represents c.args.stages.now c.args.events.now c.loop-place.stages c.loop-place.events c.loop-place.place c.loop-place.invariant none

pub returns-clause-made : goal.returns-clause-made
returns-clause-made g c =
    let none = rest-none g.S.Step.verb g.S.Step.represents c.args.stages.now c.args.events.now c.loop-place.stages c.loop-place.events c.loop-place.place c.loop-place.invariant c.loop-place.auto.stages (let a = c.loop-place.auto.place-end in let b = c.loop-place-test.false in omega arith) in
    passed-made g.S.Step.verb g.S.Step.represents c.args.stages.now c.args.events.now c.loop-place.stages c.loop-place.events c.loop-place.place c.loop-place.invariant none
