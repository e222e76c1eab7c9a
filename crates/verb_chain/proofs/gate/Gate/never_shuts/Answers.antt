use Rattle.verb_chain.proofs.Unclosed.{never-cut}
use Rattle.verb_chain.proofs.gate.Gate.never_shuts.Goals as goal

pub returns-else-not-self : goal.returns-else-not-self
returns-else-not-self g c is given = never-cut c.args.self.now.quiet (g.S.Step.verb c.args.self.now.verb) (c.never_closes.ensures is) given
