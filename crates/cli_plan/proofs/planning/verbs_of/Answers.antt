use Rattle.std.proofs.Common.{[], sym, subst, append-nil}
use Rattle.std.proofs.lemmas.List.{drop_all}
use Rattle.cli_plan.specs.Planning.{AreVerbsOf}
use Rattle.cli_plan.proofs.planning.verbs_of.Goals as goal

pub returns-clause-verbs : goal.returns-clause-verbs
returns-clause-verbs c =
    let flatsep = c.args.flatsep.now in
    let read = c.args.read.now in
    let verbs = c.args.verbs.now in
    subst (AreVerbsOf flatsep read verbs) (append-nil c.loop-before.specs)
    (c.loop-before.invariant.verbs [] (subst (λ rest. AreVerbsOf flatsep read rest []) (sym (drop_all c.loop-before.before verbs c.loop-before-test.false)) tt))
