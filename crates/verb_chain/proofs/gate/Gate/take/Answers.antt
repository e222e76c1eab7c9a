use Rattle.std.proofs.Common.{◌++◌, ◌∷◌, [], sym, ap, ◌∙◌, ◌&&◌, not}
use Rattle.verb_chain.proofs.Gating.{closed-adds, closed-open, closed-represents, open-adds, open-inner, open-represents, shut-adds, shut-represents}
use Rattle.verb_chain.proofs.gate.Gate.take.Goals as goal

pub returns-then-self-clause-represents : goal.returns-then-self-clause-represents
returns-then-self-clause-represents g c given at open_is = shut-represents g.S.Step.verb g.S.Step.represents c.args.self.now given c.args.event c.if-self.true at

pub returns-then-self-clause-adds : goal.returns-then-self-clause-adds
returns-then-self-clause-adds g c given at open_is = shut-adds g.S.Step.verb g.S.Step.represents c.args.self.now given c.args.event c.args.out.now c.if-self.true at

pub step-requires-then-is_closed : goal.step-requires-then-is_closed
step-requires-then-is_closed g c =
    let given = c.requires.0 in
    let gate = c.args.self.now in
    let e = c.args.event in
    let now = c.in_ok-step.ensures.represents given (open-inner g.S.Step.verb g.S.Step.represents gate given c.if-self.false c.requires.1) c.requires.2 in
    let closed = ap (λ b. gate.quiet && (not b && (g.S.Step.verb c.step.new.self).closed (given ++ e ∷ []))) (sym c.is_last-ends.ensures) ∙ sym (c.is_closed.ensures (given ++ e ∷ []) now) ∙ c.if-is_closed.true in
    (given ++ e ∷ [], now, closed-open g.S.Step.verb g.S.Step.represents gate.quiet (g.S.Step.verb c.step.new.self) given e c.requires.2 closed)

pub returns-in_ok-step-2-clause-represents : goal.returns-in_ok-step-2-clause-represents
returns-in_ok-step-2-clause-represents g c given at open_is =
    let gate = c.args.self.now in
    let e = c.args.event in
    let now = c.in_ok-step.ensures.represents given (open-inner g.S.Step.verb g.S.Step.represents gate given c.if-self.false at) open_is in
    let closed = ap (λ b. gate.quiet && (not b && (g.S.Step.verb c.step.new.self).closed (given ++ e ∷ []))) (sym c.is_last-ends.ensures) ∙ sym (c.is_closed.ensures (given ++ e ∷ []) now) ∙ c.if-is_closed.true in
    closed-represents g.S.Step.verb g.S.Step.represents gate given e c.step.new.self c.step-then-is_closed.new.self c.context_or-self.result c.if-self.false at open_is c.in_ok-step.ensures.verb c.in_ok-step-2.ensures.verb c.context_or-self.ensures closed
    (c.in_ok-step-2.ensures.represents (given ++ e ∷ []) now (closed-open g.S.Step.verb g.S.Step.represents gate.quiet (g.S.Step.verb c.step.new.self) given e open_is closed))

pub returns-in_ok-step-2-clause-adds : goal.returns-in_ok-step-2-clause-adds
returns-in_ok-step-2-clause-adds g c given at open_is =
    let gate = c.args.self.now in
    let e = c.args.event in
    let inner = open-inner g.S.Step.verb g.S.Step.represents gate given c.if-self.false at in
    let now = c.in_ok-step.ensures.represents given inner open_is in
    let closed = ap (λ b. gate.quiet && (not b && (g.S.Step.verb c.step.new.self).closed (given ++ e ∷ []))) (sym c.is_last-ends.ensures) ∙ sym (c.is_closed.ensures (given ++ e ∷ []) now) ∙ c.if-is_closed.true in
    closed-adds g.S.Step.verb g.S.Step.represents gate given e c.step.new.self c.context_or-self.result c.args.out.now c.step.new.out c.step-then-is_closed.new.out c.if-self.false at open_is c.in_ok-step.ensures.verb c.context_or-self.ensures closed
    (c.in_ok-step.ensures.adds given inner open_is)
    (c.in_ok-step-2.ensures.adds (given ++ e ∷ []) now (closed-open g.S.Step.verb g.S.Step.represents gate.quiet (g.S.Step.verb c.step.new.self) given e open_is closed))

pub returns-else-is_closed-clause-represents : goal.returns-else-is_closed-clause-represents
returns-else-is_closed-clause-represents g c given at open_is =
    let gate = c.args.self.now in
    let e = c.args.event in
    let now = c.in_ok-step.ensures.represents given (open-inner g.S.Step.verb g.S.Step.represents gate given c.if-self.false at) open_is in
    let still = ap (λ b. gate.quiet && (not b && (g.S.Step.verb c.step.new.self).closed (given ++ e ∷ []))) (sym c.is_last-ends.ensures) ∙ sym (c.is_closed.ensures (given ++ e ∷ []) now) ∙ c.if-is_closed.false in
    open-represents g.S.Step.verb g.S.Step.represents gate given e c.step.new.self c.context_or-self.result c.if-self.false at open_is c.in_ok-step.ensures.verb now c.context_or-self.ensures still

pub returns-else-is_closed-clause-adds : goal.returns-else-is_closed-clause-adds
returns-else-is_closed-clause-adds g c given at open_is =
    let gate = c.args.self.now in
    let e = c.args.event in
    let inner = open-inner g.S.Step.verb g.S.Step.represents gate given c.if-self.false at in
    let now = c.in_ok-step.ensures.represents given inner open_is in
    let still = ap (λ b. gate.quiet && (not b && (g.S.Step.verb c.step.new.self).closed (given ++ e ∷ []))) (sym c.is_last-ends.ensures) ∙ sym (c.is_closed.ensures (given ++ e ∷ []) now) ∙ c.if-is_closed.false in
    open-adds g.S.Step.verb g.S.Step.represents gate given e c.step.new.self c.args.out.now c.step.new.out c.if-self.false at open_is c.in_ok-step.ensures.verb still (c.in_ok-step.ensures.adds given inner open_is)
