-- A record replaced, in its place in a list of events, by what a verb gives for it.
use Rattle.std.specs.Prelude.{◌≡◌, ℕ, Bool, if◌then◌else◌, List, [], ◌∷◌, set, slice_index_or}
use Rattle.std.specs.List.{flat_map}
use Rattle.mlr_event.specs.declared.event.Event.{Event}
use Rattle.verbs_base.specs.Records.{Fields, each, given_for}

-- what an event gives, where each record is taken by itself
abbrev pub given_of : (Fields → List Fields) → Event → List Event
given_of gives e = given_for (each gives) [] e

abbrev pub given_of_all : (Fields → List Fields) → List Event → List Event
given_of_all gives events = flat_map (given_of gives) events

-- the event at a place gives the one that is there afterwards, or gives none
pub record IsReplaced (gives : Fields → List Fields) (kept : Bool) (before after : List Event) (place : ℕ) : Type 0 where
  pub event : Event
  pub after_is : after ≡ set before place event
  pub given_is : (e : Event) → given_of gives (slice_index_or before place e) ≡ (if kept then event ∷ [] else [])
