use Rattle.std.proofs.Common.{◌≡◌, List, [], ◌++◌}
use Rattle.mlr_event.specs.Verb.{Verb}
use Rattle.verb_chain.specs.Chain.{chain}
use Rattle.verb_chain.specs.Represents.{Represents, verbs_in}
use Rattle.plan_verbs.specs.Verbs.{AreNew, WasGiven, meaning_in}
use Rattle.plan_verbs.proofs.chain.begin_each.Given as goal

-- the verbs so far are in the chain, with what they make, and the others are to come
abbrev pub invariant-loop-verb : goal.invariant-loop-verb
invariant-loop-verb l =
    ((verbs : List Verb) → AreNew verbs l.fn.waiting.items
    → (rest : List Verb) × AreNew rest l.verb-iterator.rest.items × (verbs_in meaning_in l.fn.stages ++ verbs ≡ verbs_in meaning_in l.stages ++ rest)) ×
    Represents meaning_in WasGiven [] l.stages ×
    (l.made ≡ chain (verbs_in meaning_in l.stages) [])
