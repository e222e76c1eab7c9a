-- The state of reading a file may go into a thread, and so may its reader.
use denote.Param.Send.{IsSend, sendable}
use Rattle.std.proofs.Crossing.{crosses}
use Rattle.mlr_event.proofs.Crosses.{crosses_events, crosses_reading}
use Rattle.mlr_fields.proofs.Crosses.{crosses_fields}
use Rattle.read_xtab_pprint.specs.contracts.rules.BlockRules
use Rattle.read_xtab_pprint.specs.contracts.rules.PprintRules
use Rattle.read_xtab_pprint.specs.contracts.rules.XtabRules

PprintRules-send : IsSend PprintRules.the_field.row
PprintRules-send = search (crosses_fields, crosses_reading, crosses, sendable) depth 60 fits 20000

XtabRules-send : IsSend XtabRules.the_field.row
XtabRules-send = search (crosses_fields, crosses_events, crosses_reading, crosses, sendable) depth 60 fits 20000

pub BlockRules-send : IsSend BlockRules.the_field.row
BlockRules-send = search (PprintRules-send, XtabRules-send, crosses, sendable) depth 60 fits 20000
