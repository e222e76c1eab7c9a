use Rattle.std.proofs.Common.{[], ◌∷◌, ◌++◌, ap, sym, ◌∙◌}
use Rattle.std.proofs.lemmas.Result.{on_ok_weaker}
use Rattle.verb_chain.specs.Represents.{verbs_in}
use Rattle.plan_verbs.specs.Verbs.{meaning_in}
use Rattle.plan_verbs.proofs.chain.begin_one.Goals as goal

pub push-requires-clause-verb : goal.push-requires-clause-verb
push-requires-clause-verb c = (c.in_ok-begin.ensures.begun c.requires.verb.0 c.requires.verb.1).1

pub push-requires-clause-first : goal.push-requires-clause-first
push-requires-clause-first c =
    let verb = c.requires.verb.0 in
    c.in_ok-begin.ensures.first verb c.requires.verb.1
    ∙ ap (λ events. events ++ verb.first) c.new-first.ensures
    ∙ ap (λ v. v.first) (sym (c.in_ok-begin.ensures.begun verb c.requires.verb.1).0)

pub returns-clause-verbs : goal.returns-clause-verbs
returns-clause-verbs c =
    on_ok_weaker c.push.result
    (λ appended meaning is. appended ∙ ap (λ verb. verbs_in meaning_in c.args.stages.now ++ verb ∷ []) (c.in_ok-begin.ensures.begun meaning is).0)
    c.push.ensures.verbs
