use Rattle.std.proofs.Common.{take}
use Rattle.verb_specs.specs.Verbs.{AreSameVerbs}
use Rattle.plan_verbs.proofs.plan.copy_verbs.Given as goal

-- those so far
abbrev pub invariant-loop-verb : goal.invariant-loop-verb
invariant-loop-verb l = AreSameVerbs (take l.verb-index l.verbs) l.copies
