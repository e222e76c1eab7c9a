use Rattle.verb_chain.proofs.Unclosed.{whole-adds, whole-inner, whole-represents}
use Rattle.verb_chain.proofs.gate.Gate.take_whole.Goals as goal

pub step_all-requires : goal.step_all-requires
step_all-requires g c =
    let given = c.requires.list.0 in (
      given,
      whole-inner g.S.Step.verb g.S.Step.represents c.args.self.now c.requires.never given c.requires.list.1,
      c.requires.list.2,
    )

pub returns-clause-represents : goal.returns-clause-represents
returns-clause-represents g c given holds list =
    let gate = c.args.self.now in
    whole-represents g.S.Step.verb g.S.Step.represents gate c.requires.never given c.args.events.now c.step_all.new.self c.last_context-self.result holds (c.in_ok-step_all.ensures.verb)
    (c.in_ok-step_all.ensures.represents given (whole-inner g.S.Step.verb g.S.Step.represents gate c.requires.never given holds) list) c.last_context-self.ensures

pub returns-clause-adds : goal.returns-clause-adds
returns-clause-adds g c given holds list =
    let gate = c.args.self.now in
    whole-adds g.S.Step.verb g.S.Step.represents gate c.requires.never given c.args.events.now c.args.out.now c.step_all.new.out
    (c.in_ok-step_all.ensures.adds given (whole-inner g.S.Step.verb g.S.Step.represents gate c.requires.never given holds) list)
