-- Verbs over records: what a record gives after the records before it, and what the end gives.
use Rattle.std.specs.Prelude.{◌≡◌, ℕ, Bool, true, false, if◌then◌else◌, List, [], ◌∷◌, ◌++◌, map}
use Rattle.std.specs.List.{flat_map}
use Rattle.mlr_spec.specs.Tree.{Tree}
use Rattle.mlr_event.specs.declared.event.Ctx.{Ctx}
use Rattle.mlr_event.specs.declared.event.Event.{Event}
use Rattle.mlr_event.specs.declared.event.Event.TheVariants as event
use Rattle.mlr_event.specs.Verb.{Verb}

-- a record, and a record with its context
abbrev pub Fields : Type 0
Fields = List (List ℕ × Tree)

abbrev pub Row : Type 0
Row = Fields × Ctx

abbrev pub records : List Row → List Fields
records given = map (λ row. row.0) given

-- A verb over records: the records that it gives for a record after others, with the context of that record; the
-- records that it gives at the end, where a record that it held back has its own context; and whether it gives nothing
-- for any record after some records.
pub record RecordVerb : Type 0 where
  pub gives : List Fields → Fields → List Fields
  pub late : List Row → Ctx → List Row
  pub closed : List Fields → Bool

-- the record in an event, with its context, if there is one
abbrev pub row_in : Event → List Row
row_in (event.Rec fields ctx) = (fields, ctx) ∷ []
row_in (event.Text text) = []
row_in (event.Out target piece) = []
row_in (event.End ctx) = []
row_in (event.Fault fault) = []

abbrev pub rows_in : List Event → List Row
rows_in events = flat_map row_in events

-- records as events: all with one context, and each with its own
abbrev pub with_context : Ctx → List Fields → List Event
with_context ctx given = map (λ fields. event.Rec fields ctx) given

abbrev pub events_of : List Row → List Event
events_of given = map (λ row. event.Rec row.0 row.1) given

-- a verb over records as a verb over events
abbrev pub verb_of : RecordVerb → Verb
verb_of verb = record {
  first = [];
  now = λ before fields ctx. with_context ctx (verb.gives (records (rows_in before)) fields);
  late = λ before ctx. events_of (verb.late (rows_in before) ctx);
  closed = λ before. verb.closed (records (rows_in before));
  effects = false;
}

-- a verb that gives nothing at the end and is never closed
abbrev pub streams : (List Fields → Fields → List Fields) → RecordVerb
streams gives = record { gives = gives; late = λ before ctx. []; closed = λ before. false }

-- a verb that takes each record by itself
abbrev pub each : (Fields → List Fields) → RecordVerb
each gives = streams (λ before. gives)

-- a verb that makes one record of each, and a verb that passes some records
abbrev pub maps : (Fields → Fields) → Fields → List Fields
maps change fields = change fields ∷ []

abbrev pub passes : (Fields → Bool) → Fields → List Fields
passes test fields = if test fields then fields ∷ [] else []

-- the records that a verb gives for a whole list of records, before its end
abbrev pub given_after : RecordVerb → List Fields → List Fields → List Fields
given_after verb before [] = []
given_after verb before (fields ∷ given) = verb.gives before fields ++ given_after verb (before ++ fields ∷ []) given

abbrev pub given_by : RecordVerb → List Fields → List Fields
given_by verb given = given_after verb [] given

-- a closed verb gives nothing more
abbrev pub StaysShut : RecordVerb → Type 0
StaysShut verb = (before following : List Row) → verb.closed (records before) ≡ true →
    ((fields : Fields) → verb.gives (records (before ++ following)) fields ≡ []) × ((ctx : Ctx) → verb.late (before ++ following) ctx ≡ [])

-- the verb gives each record as it is and nothing at the end, and is never closed, so it needn't be given the records
-- that follow
pub record PassesEach (verb : RecordVerb) (represents : List Row → Type 0) : Type 0 where
  pub same : (before : List Fields) (fields : Fields) → verb.gives before fields ≡ fields ∷ []
  pub late : (before : List Row) (ctx : Ctx) → verb.late before ctx ≡ []
  pub unclosed : (before : List Fields) → verb.closed before ≡ false
  pub keeps : (before following : List Row) → represents before → represents (before ++ following)

-- what the verb gives for an open list of events after some records: texts, pieces and faults pass
abbrev pub given_for : RecordVerb → List Row → Event → List Event
given_for verb before (event.Rec fields ctx) = with_context ctx (verb.gives (records before) fields)
given_for verb before e = e ∷ []

abbrev pub given_for_all : RecordVerb → List Row → List Event → List Event
given_for_all verb before [] = []
given_for_all verb before (e ∷ events) = given_for verb before e ++ given_for_all verb (before ++ row_in e) events
