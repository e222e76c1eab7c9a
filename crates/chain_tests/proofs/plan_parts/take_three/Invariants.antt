use Rattle.std.proofs.Common.{◌≡◌, true, List}
use Rattle.mlr_event.specs.declared.event.Event.{Event}
use Rattle.mlr_event.specs.Verb.{Verb, is_open}
use Rattle.plan_verbs.specs.Chains.{Represents}
use Rattle.chain_tests.proofs.plan_parts.take_three.Given as goal

-- the chain goes on
abbrev pub invariant-loop-nr : goal.invariant-loop-nr
invariant-loop-nr l = (verbs : List Verb) × (given : List Event) × Represents verbs given l.chain × (is_open given ≡ true)
