-- The record in an event changed.
use Rattle.mlr_event.specs.declared.event.Event.{Event}
use Rattle.mlr_event.specs.declared.event.Event.TheVariants.{Rec}
use Rattle.verbs_base.specs.Records.{Fields}

-- an event with other fields, if it is a record
abbrev pub with_fields : (Fields → Fields) → Event → Event
with_fields change (Rec fields ctx) = Rec (change fields) ctx
with_fields change event = event
