-- What a verb makes of a list of events.
use Rattle.std.specs.Prelude.{◌≡◌, ℕ, Bool, true, false, not, ◌&&◌, if◌then◌else◌, List, [], ◌∷◌, ◌++◌}
use Rattle.std.specs.List.{list_any, list_all, filter}
use Rattle.mlr_spec.specs.Tree.{Tree}
use Rattle.mlr_event.specs.declared.event.Ctx.{Ctx}
use Rattle.mlr_event.specs.declared.event.Event.{Event}
use Rattle.mlr_event.specs.declared.event.Event.TheVariants as event

-- a verb: what it gives before all events, what a record gives after the events before it, what the end gives after all
-- events, whether more records give nothing, and whether it may give anything but records
pub record Verb : Type 0 where
  pub first : List Event
  pub now : List Event → List (List ℕ × Tree) → Ctx → List Event
  pub late : List Event → Ctx → List Event
  pub closed : List Event → Bool
  pub effects : Bool

abbrev pub is_record : Event → Bool
is_record (event.Rec fields ctx) = true
is_record (event.Text text) = false
is_record (event.Out target piece) = false
is_record (event.End ctx) = false
is_record (event.Fault fault) = false

abbrev pub is_fault : Event → Bool
is_fault (event.Rec fields ctx) = false
is_fault (event.Text text) = false
is_fault (event.Out target piece) = false
is_fault (event.End ctx) = false
is_fault (event.Fault fault) = true

abbrev pub is_end : Event → Bool
is_end (event.Rec fields ctx) = false
is_end (event.Text text) = false
is_end (event.Out target piece) = false
is_end (event.End ctx) = true
is_end (event.Fault fault) = false

-- an end or a fault is the last event of a list; a list without one is open
abbrev pub is_last : Event → Bool
is_last (event.Rec fields ctx) = false
is_last (event.Text text) = false
is_last (event.Out target piece) = false
is_last (event.End ctx) = true
is_last (event.Fault fault) = true

abbrev pub is_open : List Event → Bool
is_open events = not (list_any is_last events)

-- a list of events: an end or a fault is its last
abbrev pub is_list : List Event → Bool
is_list [] = true
is_list (e ∷ []) = true
is_list (e ∷ f ∷ events) = not (is_last e) && is_list (f ∷ events)

-- events that may be inside a list: no end is among them, and a fault is the last
abbrev pub is_part : List Event → Bool
is_part events = not (list_any is_end events) && is_list events

-- nothing follows a fault
abbrev pub then_unless_fault : List Event → List Event → List Event
then_unless_fault events more = if list_any is_fault events then events else events ++ more

-- what an event gives after those before it: texts, pieces and faults are passed on unchanged
abbrev pub gives : Verb → List Event → Event → List Event
gives verb before (event.Rec fields ctx) = verb.now before fields ctx
gives verb before (event.Text text) = event.Text text ∷ []
gives verb before (event.Out target piece) = event.Out target piece ∷ []
gives verb before (event.End ctx) = then_unless_fault (verb.late before ctx) (event.End ctx ∷ [])
gives verb before (event.Fault fault) = event.Fault fault ∷ []

-- what events give one after another, after others
abbrev pub made_after : Verb → List Event → List Event → List Event
made_after verb before [] = []
made_after verb before (e ∷ events) = then_unless_fault (gives verb before e) (made_after verb (before ++ e ∷ []) events)

-- what a verb makes of a list of events
abbrev pub made : Verb → List Event → List Event
made verb events = then_unless_fault verb.first (made_after verb [] events)

-- a verb without effects gives records alone
pub record GivesRecords (verb : Verb) : Type 0 where
  pub first : list_all is_record verb.first ≡ true
  pub now : (before : List Event) (fields : List (List ℕ × Tree)) (ctx : Ctx) → list_all is_record (verb.now before fields ctx) ≡ true
  pub late : (before : List Event) (ctx : Ctx) → list_all is_record (verb.late before ctx) ≡ true

abbrev pub IsQuiet : Verb → Type 0
IsQuiet verb = verb.effects ≡ false → GivesRecords verb

-- a verb makes lists of lists: of its own it gives no end, and nothing after a fault
pub record KeepsOrder (verb : Verb) : Type 0 where
  pub first : is_part verb.first ≡ true
  pub now : (before : List Event) (fields : List (List ℕ × Tree)) (ctx : Ctx) → is_part (verb.now before fields ctx) ≡ true
  pub late : (before : List Event) (ctx : Ctx) → is_part (verb.late before ctx) ≡ true

-- a verb that is closed gives nothing more
abbrev pub StaysClosed : Verb → Type 0
StaysClosed verb = (before following : List Event) → verb.closed before ≡ true →
    ((fields : List (List ℕ × Tree)) (ctx : Ctx) → verb.now (before ++ following) fields ctx ≡ []) × ((ctx : Ctx) → verb.late (before ++ following) ctx ≡ [])

-- no list closes the verb
abbrev pub NeverCloses : Verb → Type 0
NeverCloses verb = (events : List Event) → verb.closed events ≡ false

-- A verb gives each event as it is and is never closed, so it needn't be given the events that follow.
pub record PassesAll (verb : Verb) (represents : List Event → Type 0) : Type 0 where
  pub same : (events : List Event) → is_list events ≡ true → made verb events ≡ events
  pub unclosed : (events : List Event) → verb.closed events ≡ false
  pub keeps : (given following : List Event) → represents given → represents (given ++ following)

-- the texts, pieces and faults, and the end
abbrev pub others : List Event → List Event
others events = filter (λ e. not (is_record e)) events
