use Rattle.verb_chain.proofs.InOrder.{InPass}
use Rattle.verb_chain.proofs.stage.pass.Given as goal

abbrev pub invariant-loop-place : goal.invariant-loop-place
invariant-loop-place g l = InPass g.S.Step.verb g.S.Step.represents l.fn.stages l.fn.events l.stages l.events l.place
