use Rattle.std.proofs.Common.{true, ap, ◌∙◌}
use Rattle.std.specs.List.{list_any}
use Rattle.verb_chain.proofs.Chains.{shut-stopped}
use Rattle.verb_chain.proofs.chain.Chain.stopped.Goals as goal

pub returns : goal.returns
returns g c given at =
    c.any_shut.ensures ∙ ap (list_any (λ stage. stage.gate.shut)) c.deref.ensures.value ∙ shut-stopped g.S.Step.verb g.S.Step.represents true c.args.self.now.stages.items given at.stages
