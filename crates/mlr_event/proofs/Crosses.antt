-- An event may go into a thread, and may be shared by threads.
use denote.Param.Send.{IsSend, IsSync, sendable}
use Rattle.std.proofs.Crossing.{crosses}
use Rattle.mlr_value.proofs.bytes.Bytes.TheSendSync as bytes
use Rattle.mlr_record.proofs.Crosses.{crosses_record}
use Rattle.mlr_event.specs.contracts.event.Body
use Rattle.mlr_event.specs.contracts.event.Ctx
use Rattle.mlr_event.specs.contracts.event.Event
use Rattle.mlr_event.specs.contracts.event.Piece
use Rattle.mlr_event.specs.contracts.events.Events
use Rattle.mlr_event.specs.contracts.fault.Fault
use Rattle.mlr_event.specs.contracts.names.FileRef
use Rattle.mlr_event.specs.contracts.names.InputName
use Rattle.mlr_event.specs.contracts.names.Mode
use Rattle.mlr_event.specs.contracts.names.StyleId
use Rattle.mlr_event.specs.contracts.names.Target
use Rattle.mlr_event.specs.contracts.options.Comments
use Rattle.mlr_event.specs.contracts.options.Format
use Rattle.mlr_event.specs.contracts.options.ReadOpts

-- into a thread
pub Ctx-send : IsSend Ctx.the_field.row
Ctx-send = search (crosses, sendable) depth 60 fits 20000

Mode-send : IsSend Mode.the_field.row
Mode-send = search (crosses, sendable) depth 60 fits 20000

StyleId-send : IsSend StyleId.the_field.row
StyleId-send = search (crosses, sendable) depth 60 fits 20000

Target-send : IsSend Target.the_field.row
Target-send = search (bytes.the_send, crosses, sendable) depth 60 fits 20000

pub InputName-send : IsSend InputName.the_field.row
InputName-send = search (bytes.the_send, crosses, sendable) depth 60 fits 20000

Fault-send : IsSend Fault.the_field.row
Fault-send = search (InputName-send, Target-send, Mode-send, StyleId-send, bytes.the_send, crosses, sendable) depth 60 fits 20000

Body-send : IsSend Body.the_field.row
Body-send = search (crosses_record, bytes.the_send, crosses, sendable) depth 60 fits 20000

Piece-send : IsSend Piece.the_field.row
Piece-send = search (Body-send, Mode-send, StyleId-send, crosses, sendable) depth 60 fits 20000

ruleset of_events = (
  crosses_record,
  Piece-send,
  bytes.the_send,
  Ctx-send,
  Fault-send,
  Target-send,
)

pub Event-send : IsSend Event.the_row
Event-send = search (of_events, crosses, sendable) depth 60 fits 20000

pub Event-field-send : IsSend Event.the_field.row
Event-field-send = search (of_events, crosses, sendable) depth 60 fits 20000

pub Events-send : IsSend Events.the_row
Events-send = search (Event-send, crosses, sendable) depth 60 fits 20000

-- the options of a reader
Comments-send : IsSend Comments.the_field.row
Comments-send = search (bytes.the_send, crosses, sendable) depth 60 fits 20000

Format-send : IsSend Format.the_field.row
Format-send = search (crosses, sendable) depth 60 fits 20000

pub FileRef-send : IsSend FileRef.the_field.row
FileRef-send = search (crosses, sendable) depth 60 fits 20000

pub ReadOpts-send : IsSend ReadOpts.the_field.row
ReadOpts-send = search (Comments-send, Format-send, bytes.the_send, crosses, sendable) depth 60 fits 20000

-- shared by threads
Ctx-sync : IsSync Ctx.the_field.row
Ctx-sync = search (crosses, sendable) depth 60 fits 20000

Mode-sync : IsSync Mode.the_field.row
Mode-sync = search (crosses, sendable) depth 60 fits 20000

StyleId-sync : IsSync StyleId.the_field.row
StyleId-sync = search (crosses, sendable) depth 60 fits 20000

Target-sync : IsSync Target.the_field.row
Target-sync = search (bytes.the_sync, crosses, sendable) depth 60 fits 20000

InputName-sync : IsSync InputName.the_field.row
InputName-sync = search (bytes.the_sync, crosses, sendable) depth 60 fits 20000

Fault-sync : IsSync Fault.the_field.row
Fault-sync = search (InputName-sync, Target-sync, Mode-sync, StyleId-sync, bytes.the_sync, crosses, sendable) depth 60 fits 20000

Body-sync : IsSync Body.the_field.row
Body-sync = search (crosses_record, bytes.the_sync, crosses, sendable) depth 60 fits 20000

Piece-sync : IsSync Piece.the_field.row
Piece-sync = search (Body-sync, Mode-sync, StyleId-sync, crosses, sendable) depth 60 fits 20000

ruleset of_events_shared = (
  crosses_record,
  Piece-sync,
  bytes.the_sync,
  Ctx-sync,
  Fault-sync,
  Target-sync,
)

pub Event-sync : IsSync Event.the_row
Event-sync = search (of_events_shared, crosses, sendable) depth 60 fits 20000

pub Event-field-sync : IsSync Event.the_field.row
Event-field-sync = search (of_events_shared, crosses, sendable) depth 60 fits 20000

pub Events-sync : IsSync Events.the_row
Events-sync = search (Event-sync, crosses, sendable) depth 60 fits 20000

pub ruleset crosses_reading = (
  Ctx-send,
  InputName-send,
  FileRef-send,
  ReadOpts-send,
)

pub ruleset crosses_events = (
  Event-send,
  Event-field-send,
  Events-send,
  Event-sync,
  Event-field-sync,
  Events-sync,
)
