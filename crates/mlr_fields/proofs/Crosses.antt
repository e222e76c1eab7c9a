-- The fields of a record that is being read, and a header, may go into a thread.
use denote.Param.Send.{IsSend, sendable}
use Rattle.std.proofs.Crossing.{crosses}
use Rattle.mlr_value.proofs.bytes.Bytes.TheSendSync as bytes
use Rattle.mlr_record.proofs.Crosses.{crosses_record}
use Rattle.mlr_fields.specs.contracts.fields.Fields
use Rattle.mlr_fields.specs.contracts.header.Header
use Rattle.mlr_fields.specs.contracts.name_index.NameIndex

NameIndex-send : IsSend NameIndex.the_row
NameIndex-send = search (crosses, sendable) depth 60 fits 20000

pub Fields-send : IsSend Fields.the_row
Fields-send = search (NameIndex-send, crosses_record, crosses, sendable) depth 60 fits 20000

pub Header-send : IsSend Header.the_row
Header-send = search (bytes.the_send, crosses, sendable) depth 60 fits 20000

pub ruleset crosses_fields = (Fields-send, Header-send)
