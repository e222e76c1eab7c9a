-- The state of reading a file may go into a thread, and so may its reader.
use denote.Param.Send.{IsSend, sendable}
use Rattle.std.proofs.Crossing.{crosses}
use Rattle.mlr_record.proofs.Crosses.{crosses_record}
use Rattle.mlr_event.proofs.Crosses.{crosses_reading}
use Rattle.mlr_fields.proofs.Crosses.{crosses_fields}
use Rattle.read_csv.specs.contracts.heading.Heading
use Rattle.read_csv.specs.contracts.row.Row
use Rattle.read_csv.specs.contracts.rules.RowRules

Heading-send : IsSend Heading.the_row
Heading-send = search (crosses_fields, crosses, sendable) depth 60 fits 20000

Row-send : IsSend Row.the_row
Row-send = search (crosses_record, crosses, sendable) depth 60 fits 20000

pub RowRules-send : IsSend RowRules.the_field.row
RowRules-send = search (Heading-send, Row-send, crosses_reading, crosses, sendable) depth 60 fits 20000
