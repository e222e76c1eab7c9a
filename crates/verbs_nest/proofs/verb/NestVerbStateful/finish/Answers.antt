use Rattle.std.proofs.Common.{ap, sym, ◌∙◌}
use Rattle.verbs_nest.specs.contracts.verb.NestVerbStateful.TheImpl as verb
use Rattle.verbs_nest.proofs.verb.NestVerbStateful.finish.Goals as goal

pub returns-in-Implode-clause-meaning : goal.returns-in-Implode-clause-meaning
returns-in-Implode-clause-meaning c = c.finish-in-Implode.ensures.meaning ∙ ap verb.ghosts.meaning (sym c.in-Implode.is)
