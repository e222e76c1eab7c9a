-- What standard output gets of a list of events.
use Rattle.std.specs.Prelude.{ℕ, List, [], ◌∷◌, Option, Some, None}
use Rattle.std.specs.List.{flat_map, list_any}
use Rattle.mlr_event.specs.declared.event.Body.{Body}
use Rattle.mlr_event.specs.declared.event.Body.TheVariants as body
use Rattle.mlr_event.specs.declared.event.Piece.{Piece}
use Rattle.mlr_event.specs.declared.event.Event.{Event}
use Rattle.mlr_event.specs.declared.event.Event.TheVariants as event
use Rattle.mlr_event.specs.declared.fault.Fault.{Fault}
use Rattle.mlr_event.specs.declared.names.Target.{Target}
use Rattle.mlr_event.specs.declared.names.Target.TheVariants as target
use Rattle.mlr_event.specs.Verb.{is_end}
use Rattle.writers.specs.declared.options.WriteOpts.{WriteOpts}
use Rattle.writers.specs.Written.{written}

-- a piece goes to its own target
abbrev pub piece_bodies : Target → Piece → List Body
piece_bodies target.Stdout piece = piece.body ∷ []
piece_bodies target.Stderr piece = []
piece_bodies (target.File name) piece = []

-- the records and texts that an event has for standard output
abbrev pub event_bodies : Event → List Body
event_bodies (event.Rec fields ctx) = body.Rec fields ∷ []
event_bodies (event.Text text) = body.Text text ∷ []
event_bodies (event.Out target piece) = piece_bodies target piece
event_bodies (event.End ctx) = []
event_bodies (event.Fault fault) = []

abbrev pub bodies : List Event → List Body
bodies events = flat_map event_bodies events

-- the fault of a list, if it has one
abbrev pub fault_of : Event → Option Fault
fault_of (event.Rec fields ctx) = None
fault_of (event.Text text) = None
fault_of (event.Out target piece) = None
fault_of (event.End ctx) = None
fault_of (event.Fault fault) = Some fault

abbrev pub fault_in : List Event → Option Fault
fault_in [] = None
fault_in (e ∷ events) = elim (fault_of e) [ Some fault ↦ Some fault | None ↦ fault_in events ]

-- the text: that of all records and texts in order, with what is written at the end once the list has ended
abbrev pub out_of : WriteOpts → List Event → List ℕ
out_of opts events = written opts (bodies events) (list_any is_end events)
