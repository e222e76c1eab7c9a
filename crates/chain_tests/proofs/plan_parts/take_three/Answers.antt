use Rattle.chain_core.proofs.Meanings.{record-open}
use Rattle.chain_tests.proofs.plan_parts.take_three.Goals as goal

pub loop-nr-preserved : goal.loop-nr-preserved
loop-nr-preserved c =
    let now = c.loop-nr.invariant in
    (now.0, _, c.in_ok-step.ensures.represents now.0 now.1 now.2 now.3, record-open now.1 _ _ now.3)
