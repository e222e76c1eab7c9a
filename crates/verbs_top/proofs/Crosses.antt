-- What `top` keeps, and its options, may be moved to another thread.
use denote.Param.Send.{IsSend, sendable}
use Rattle.std.proofs.Crossing.{crosses}
use Rattle.mlr_value.proofs.bytes.Bytes.TheSendSync as bytes
use Rattle.mlr_value.proofs.Crosses.{crosses_value}
use Rattle.mlr_event.proofs.field_names.Names.TheSendSync as names
use Rattle.mlr_record.proofs.Crosses.{crosses_record}
use Rattle.verbs_top.specs.contracts.best.Best
use Rattle.verbs_top.specs.contracts.best.Entry
use Rattle.verbs_top.specs.contracts.best.Held
use Rattle.verbs_top.specs.contracts.state.TopState
use Rattle.verbs_top.specs.contracts.top.Top

-- the options, as they are and as groups share them
pub Top-field-send : IsSend Top.the_field.row
Top-field-send = search (names.the_send, bytes.the_send, crosses, sendable) depth 60 fits 20000

pub Top-send : IsSend Top.the_row
Top-send = search (names.the_send, bytes.the_send, crosses, sendable) depth 60 fits 20000

-- what is kept
Held-send : IsSend Held.the_row
Held-send = search (crosses_record, crosses, sendable) depth 60 fits 20000

Entry-send : IsSend Entry.the_row
Entry-send = search (Held-send, crosses_value, crosses, sendable) depth 60 fits 20000

Best-send : IsSend Best.the_row
Best-send = search (Entry-send, crosses_value, crosses, sendable) depth 60 fits 20000

Best-field-send : IsSend Best.the_field.row
Best-field-send = search (Entry-send, crosses_value, crosses, sendable) depth 60 fits 20000

pub TopState-field-send : IsSend TopState.the_field.row
TopState-field-send = search (Top-send, Best-send, Best-field-send, crosses_record, crosses, sendable) depth 60 fits 20000

pub ruleset crosses_top = (Top-field-send, Top-send, TopState-field-send)
