-- A record may go into a thread, and may be shared by threads.
use denote.Param.Send.{IsSend, IsSync, sendable}
use Rattle.std.proofs.Crossing.{crosses}
use Rattle.mlr_value.proofs.Crosses.{crosses_value}
use Rattle.mlr_value.proofs.bytes.Bytes.TheSendSync as bytes
use Rattle.mlr_record.specs.contracts.record.Field
use Rattle.mlr_record.specs.contracts.record.Record

-- into a thread
pub Field-send : IsSend Field.the_row
Field-send = search (crosses_value, bytes.the_send, crosses, sendable) depth 60 fits 20000

pub Field-field-send : IsSend Field.the_field.row
Field-field-send = search (crosses_value, bytes.the_send, crosses, sendable) depth 60 fits 20000

pub Record-send : IsSend Record.the_row
Record-send = search (Field-send, crosses, sendable) depth 60 fits 20000

-- shared by threads
pub Field-sync : IsSync Field.the_row
Field-sync = search (crosses_value, bytes.the_sync, crosses, sendable) depth 60 fits 20000

pub Field-field-sync : IsSync Field.the_field.row
Field-field-sync = search (crosses_value, bytes.the_sync, crosses, sendable) depth 60 fits 20000

pub Record-sync : IsSync Record.the_row
Record-sync = search (Field-sync, crosses, sendable) depth 60 fits 20000

pub ruleset crosses_record = (
  Field-send,
  Field-field-send,
  Record-send,
  Field-sync,
  Field-field-sync,
  Record-sync,
)
