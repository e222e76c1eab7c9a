-- How far a chain of verbs has come.
use Rattle.std.specs.Prelude.{◌≡◌, List, []}
use Rattle.mlr_event.specs.declared.event.Event.{Event}
use Rattle.mlr_event.specs.Verb as meaning
use Rattle.verb_chain.specs.Represents as chain
use Rattle.plan_verbs.specs.declared.chain.Chain.{Chain}
use Rattle.plan_verbs.specs.Verbs.{AreNew, WasGiven, meaning_in}

-- its verbs, none of which has begun
pub record HasNotBegun (verbs : List meaning.Verb) (all : Chain) : Type 0 where
  pub waiting : AreNew verbs all.waiting.items
  pub none : chain.verbs_in meaning_in all.stages ≡ []
  pub stages : chain.Represents meaning_in WasGiven [] all.stages

-- its verbs have begun, and were given these events
pub record Represents (verbs : List meaning.Verb) (given : List Event) (all : Chain) : Type 0 where
  pub verbs_are : chain.verbs_in meaning_in all.stages ≡ verbs
  pub stages : chain.Represents meaning_in WasGiven given all.stages
