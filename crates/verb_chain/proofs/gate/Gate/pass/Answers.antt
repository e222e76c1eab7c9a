use Rattle.verb_chain.proofs.Unclosed.{pass-made, pass-represents}
use Rattle.verb_chain.proofs.gate.Gate.pass.Goals as goal

pub returns-clause-represents : goal.returns-clause-represents
returns-clause-represents g c given holds list =
    pass-represents g.S.Step.verb g.S.Step.represents c.args.self.now c.requires given c.args.events.now c.last_context-self.result holds c.last_context-self.ensures

pub returns-clause-made : goal.returns-clause-made
returns-clause-made g c given holds list = pass-made g.S.Step.verb g.S.Step.represents c.args.self.now c.requires given c.args.events.now list
