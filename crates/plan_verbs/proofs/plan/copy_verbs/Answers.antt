use Rattle.plan_verbs.proofs.Verbs.{same-verbs-next}
use Rattle.plan_verbs.proofs.plan.copy_verbs.Goals as goal

pub loop-verb-preserved : goal.loop-verb-preserved
loop-verb-preserved c =
    same-verbs-next c.args.verbs.now c.loop-verb.verb-index c.verb-item.result c.in_ok-copy.field-0 c.loop-verb.copies c.push.new.self c.loop-verb-test.true c.verb-item.is
    c.loop-verb.invariant c.in_ok-copy.ensures.same c.in_ok-push.ensures
