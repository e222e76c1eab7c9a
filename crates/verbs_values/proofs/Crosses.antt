-- The verbs may be moved to another thread.
use denote.Param.Send.{IsSend, sendable}
use Rattle.std.proofs.Crossing.{crosses}
use Rattle.mlr_value.proofs.bytes.Bytes.TheSendSync as bytes
use Rattle.mlr_event.proofs.field_names.Names.TheSendSync as names
use Rattle.verbs_values.specs.contracts.fill_empty.FillEmpty
use Rattle.verbs_values.specs.contracts.flatten.Flatten
use Rattle.verbs_values.specs.contracts.json_parse.JsonParse
use Rattle.verbs_values.specs.contracts.json_stringify.JsonStringify
use Rattle.verbs_values.specs.contracts.sec2gmt.Sec2Gmt
use Rattle.verbs_values.specs.contracts.sec2gmtdate.Sec2GmtDate
use Rattle.verbs_values.specs.contracts.unflatten.Unflatten

pub FillEmpty-send : IsSend FillEmpty.the_field.row
FillEmpty-send = search (bytes.the_send, crosses, sendable) depth 60 fits 20000

pub Flatten-send : IsSend Flatten.the_field.row
Flatten-send = search (names.the_send, bytes.the_send, crosses, sendable) depth 60 fits 20000

pub JsonParse-send : IsSend JsonParse.the_field.row
JsonParse-send = search (names.the_send, crosses, sendable) depth 60 fits 20000

pub JsonStringify-send : IsSend JsonStringify.the_field.row
JsonStringify-send = search (names.the_send, crosses, sendable) depth 60 fits 20000

pub Sec2Gmt-send : IsSend Sec2Gmt.the_field.row
Sec2Gmt-send = search (names.the_send, crosses, sendable) depth 60 fits 20000

pub Sec2GmtDate-send : IsSend Sec2GmtDate.the_field.row
Sec2GmtDate-send = search (names.the_send, crosses, sendable) depth 60 fits 20000

pub Unflatten-send : IsSend Unflatten.the_field.row
Unflatten-send = search (names.the_send, bytes.the_send, crosses, sendable) depth 60 fits 20000

pub ruleset crosses_values = (
  FillEmpty-send,
  Flatten-send,
  JsonParse-send,
  JsonStringify-send,
  Sec2Gmt-send,
  Sec2GmtDate-send,
  Unflatten-send,
)
