-- The output of a chain of verbs for a list of events.
use Rattle.std.specs.Prelude.{Bool, true, false, not, ◌&&◌, ◌||◌, List, [], ◌∷◌, ◌++◌, map, Option, Some, None, is_some}
use Rattle.std.specs.List.{find}
use Rattle.mlr_event.specs.declared.event.Ctx.{Ctx}
use Rattle.mlr_event.specs.declared.event.Event.{Event}
use Rattle.mlr_event.specs.declared.event.Event.TheVariants as event
use Rattle.mlr_event.specs.Verb.{Verb, is_open, made}

-- all prefixes of a list, from the empty one to the whole list
abbrev pub prefixes : {A : Type 0} → List A → List (List A)
prefixes [] = [] ∷ []
prefixes (x ∷ xs) = [] ∷ map (λ prefix. x ∷ prefix) (prefixes xs)

abbrev pub zero_context : Ctx
zero_context = record { nr = 0; fnr = 0; filenum = 0 }

-- the context of an event, or `other` for an event without one
abbrev pub context_or : Ctx → Event → Ctx
context_or other (event.Rec fields ctx) = ctx
context_or other (event.Text text) = other
context_or other (event.Out target piece) = other
context_or other (event.End ctx) = ctx
context_or other (event.Fault fault) = other

-- the context of the last event that has one, or `ctx`
abbrev pub last_context : Ctx → List Event → Ctx
last_context ctx [] = ctx
last_context ctx (e ∷ events) = last_context (context_or ctx e) events

-- the shortest prefix of a list that closes a verb before an end or a fault, if there is one
abbrev pub closing : Verb → List Event → Option (List Event)
closing verb events = find (λ prefix. is_open prefix && verb.closed prefix) (prefixes events)

-- The events that a verb is given. At a quiet place these are only the events that close the verb, and then
-- an end.
abbrev pub cut : Bool → Verb → List Event → List Event
cut false verb events = events
cut true verb events = elim (closing verb events) [
  | Some prefix ↦ prefix ++ event.End (last_context zero_context prefix) ∷ []
  | None ↦ events
]

-- The output of the last verb for a list of events, where each verb takes the output of the verb before it. A
-- place is quiet if no verb before it has effects.
abbrev pub chain_from : Bool → List Verb → List Event → List Event
chain_from quiet [] events = events
chain_from quiet (verb ∷ verbs) events = chain_from (quiet && not verb.effects) verbs (made verb (cut quiet verb events))

abbrev pub chain : List Verb → List Event → List Event
chain verbs events = chain_from true verbs events

-- whether some verb at a quiet place is closed
abbrev pub stopped_from : Bool → List Verb → List Event → Bool
stopped_from quiet [] events = false
stopped_from quiet (verb ∷ verbs) events =
    (quiet && is_some (closing verb events)) || stopped_from (quiet && not verb.effects) verbs (made verb (cut quiet verb events))

abbrev pub stopped : List Verb → List Event → Bool
stopped verbs events = stopped_from true verbs events
