use Rattle.std.proofs.Common.{◌≡◌, [], ◌∷◌, ◌++◌, ap, ◌∙◌}
use Rattle.verb_chain.specs.Chain.{chain}
use Rattle.verb_chain.specs.Represents.{verbs_in}
use Rattle.serial_core.specs.Command.{Command}
use Rattle.serial_core.proofs.tests.run_of.Goals as goal

pub returns : goal.returns
returns g c = λ origin represents.
    let command : Command = record { origin = origin; verbs = g.S.Step.verb c.args.verb ∷ []; write = c.args.write.now } in
    let verbs : verbs_in g.S.Step.verb c.push.new.self ≡ command.verbs = c.in_ok-push.ensures.verbs ∙ ap (λ before. before ++ g.S.Step.verb c.args.verb ∷ []) c.new-stages.ensures.verbs in
    c.new-3.ensures command represents verbs c.in_ok-push.ensures.represents (c.in_ok-push.ensures.made ∙ ap (λ verbs. chain verbs []) verbs) c.in_ok-outlet.ensures
