-- The events that a chain and its verbs were given.
use Rattle.std.specs.Prelude.{◌≡◌, Bool, true, false, not, ◌&&◌, List, [], ◌∷◌, map, is_some}
use Rattle.std.specs.List.{list_all}
use Rattle.mlr_event.specs.declared.event.Event.{Event}
use Rattle.mlr_event.specs.Verb.{Verb, made}
use Rattle.verb_chain.specs.Chain.{closing, cut, last_context, zero_context}
use Rattle.verb_chain.specs.declared.gate.Gate.{Gate}
use Rattle.verb_chain.specs.declared.chain.Chain.{Chain}
use Rattle.verb_chain.specs.declared.stage.Stage.{Stage}

-- whether a verb was closed, at a quiet place
abbrev pub is_cut : Bool → Verb → List Event → Bool
is_cut quiet verb events = quiet && is_some (closing verb events)

-- the output of a verb at its place
abbrev pub made_at : Bool → Verb → List Event → List Event
made_at quiet verb events = made verb (cut quiet verb events)

-- the verb at its place was given these events, until it was closed
pub record GateRepresents {S : Type 0} (verb : S → Verb) (represents : S → List Event → Type 0) (given : List Event) (gate : Gate S) : Type 0 where
  pub shut : gate.shut ≡ is_cut gate.quiet (verb gate.verb) given
  pub inner : represents gate.verb (cut gate.quiet (verb gate.verb) given)
  pub at : gate.shut ≡ false → gate.at ≡ last_context zero_context given

-- the verbs in turn were given these events, and their lists of output are empty
abbrev pub StagesRepresent : {S : Type 0} → (S → Verb) → (S → List Event → Type 0) → Bool → List Event → List (Stage S) → Type 0
StagesRepresent verb represents quiet given [] = Unit {0}
StagesRepresent verb represents quiet given (stage ∷ stages) =
    (stage.gate.quiet ≡ quiet) × GateRepresents verb represents given stage.gate × (stage.made ≡ []) × StagesRepresent verb represents (quiet && not (verb stage.gate.verb).effects) (made_at quiet (verb stage.gate.verb) given) stages

abbrev pub verbs_of : {S : Type 0} → (S → Verb) → List (Stage S) → List Verb
verbs_of verb stages = map (λ stage. verb stage.gate.verb) stages

abbrev pub verbs_in : {S : Type 0} → (S → Verb) → Chain S → List Verb
verbs_in verb stages = verbs_of verb stages.stages.items

-- whether no verb has effects
abbrev pub all_quiet : List Verb → Bool
all_quiet verbs = list_all (λ verb. not verb.effects) verbs

-- the verbs of a chain were given these events
pub record Represents {S : Type 0} (verb : S → Verb) (represents : S → List Event → Type 0) (given : List Event) (all : Chain S) : Type 0 where
  pub stages : StagesRepresent verb represents true given all.stages.items
  pub quiet : all.quiet ≡ all_quiet (verbs_in verb all)
  pub room : all.room ≡ []

-- two gates are of the same verb at the same place
abbrev pub IsSameGate : {S : Type 0} → (S → Verb) → Gate S → Gate S → Type 0
IsSameGate verb gate other = (verb gate.verb ≡ verb other.verb) × (gate.quiet ≡ other.quiet)
