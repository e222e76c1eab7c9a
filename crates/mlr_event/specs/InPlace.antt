-- The fields of a record in its place in a list of events.
use Rattle.std.specs.Prelude.{ℕ, List, Option, Some, None}
use Rattle.mlr_spec.specs.Tree.{Tree}
use Rattle.mlr_event.specs.declared.event.Event.{Event}
use Rattle.mlr_event.specs.declared.event.Event.TheVariants as event

-- the fields of a record; other events have none
abbrev pub fields_in : Event → Option (List (List ℕ × Tree))
fields_in (event.Rec fields ctx) = Some fields
fields_in (event.Text text) = None
fields_in (event.Out target piece) = None
fields_in (event.End ctx) = None
fields_in (event.Fault fault) = None

-- a record with other fields in its context; other events stay as they are
abbrev pub with_fields : List (List ℕ × Tree) → Event → Event
with_fields others (event.Rec fields ctx) = event.Rec others ctx
with_fields others (event.Text text) = event.Text text
with_fields others (event.Out target piece) = event.Out target piece
with_fields others (event.End ctx) = event.End ctx
with_fields others (event.Fault fault) = event.Fault fault
