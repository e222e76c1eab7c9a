use Rattle.std.proofs.Common.{◌++◌, ◌∷◌, [], sym, subst}
use Rattle.plan_verbs.specs.Verbs.{AreNew}
use Rattle.plan_verbs.proofs.New.{new-following, one-verb}
use Rattle.plan_verbs.proofs.chain.push_new.Goals as goal

pub returns : goal.returns
returns c verbs are =
    let one = one-verb c.args.spec.now c.args.left c.in_default.not-Seq in
    let new = new-following verbs c.args.made.now.items one.0 c.in_ok-new.field-0 are (c.in_ok-new.ensures one.0 one.1) in
    subst (λ more. AreNew (verbs ++ more) c.push.new.self.items) (sym one.1) (subst (AreNew (verbs ++ one.0 ∷ [])) (sym c.in_ok-push.ensures.items) new)
