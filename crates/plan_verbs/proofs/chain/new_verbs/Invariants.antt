use Rattle.plan_verbs.proofs.New.{Making}
use Rattle.plan_verbs.proofs.chain.new_verbs.Given as goal

abbrev pub invariant-loop-left : goal.invariant-loop-left
invariant-loop-left l = Making l.specs l.fn.lefts.items l.made.items l.place l.left-iterator.rest.items
