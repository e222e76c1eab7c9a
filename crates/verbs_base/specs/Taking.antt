-- What a call of a verb does, whichever records the verb was given before it.
use Rattle.std.specs.Prelude.{◌≡◌, Bool, true, false, List, ◌++◌}
use Rattle.mlr_event.specs.declared.event.Ctx.{Ctx}
use Rattle.mlr_event.specs.declared.event.Event.{Event}
use Rattle.verbs_base.specs.Records.{Fields, RecordVerb, Row, events_of, given_for_all, records, with_context}

-- A verb was given more records: what it represented before, it represents with these records appended.
pub record Follows (before after : List Row → Type 0) (rows : List Row) : Type 0 where
  pub follows : (given : List Row) → before given → after (given ++ rows)

-- A record was taken, and the records that it gives were appended with its context.
pub record GivesFor (verb : RecordVerb) (represents : List Row → Type 0) (fields : Fields) (ctx : Ctx) (out out' : List Event) : Type 0 where
  pub gives : (given : List Row) → represents given → out' ≡ out ++ with_context ctx (verb.gives (records given) fields)

-- A list of events was taken, and what they give was appended.
pub record GivesForAll (verb : RecordVerb) (represents : List Row → Type 0) (events out out' : List Event) : Type 0 where
  pub gives : (given : List Row) → represents given → out' ≡ out ++ given_for_all verb given events

-- The end was taken, and the records that were held back were appended.
pub record GivesLate (verb : RecordVerb) (represents : List Row → Type 0) (ctx : Ctx) (out out' : List Event) : Type 0 where
  pub gives : (given : List Row) → represents given → out' ≡ out ++ events_of (verb.late given ctx)

-- Whichever records the verb was given, they close it, or they don't.
pub record ClosesBy (verb : RecordVerb) (represents : List Row → Type 0) (closed : Bool) : Type 0 where
  pub told : (given : List Row) → represents given → verb.closed (records given) ≡ closed

-- whether the verb gives nothing for any later record
abbrev pub IsShut : Bool → RecordVerb → (List Row → Type 0) → Type 0
IsShut true verb represents = ClosesBy verb represents true
IsShut false verb represents = ClosesBy verb represents false
