-- What the verbs keep may be moved to another thread.
use denote.Param.Send.{IsSend, sendable}
use Rattle.std.proofs.Crossing.{crosses}
use Rattle.mlr_value.proofs.bytes.Bytes.TheSendSync as bytes
use Rattle.mlr_event.proofs.Crosses.{crosses_events}
use Rattle.mlr_event.proofs.field_names.Names.TheSendSync as names
use Rattle.mlr_groups.proofs.Crosses.{crosses_groups}
use Rattle.verbs_hold.specs.contracts.count_similar.SimilarRows
use Rattle.verbs_hold.specs.contracts.held_rows.HeldRows
use Rattle.verbs_hold.specs.contracts.tac.TacRows
use Rattle.verbs_hold.specs.contracts.tail.LastRows
use Rattle.verbs_hold.specs.contracts.unsparsify.UnsparsifyRows
use Rattle.verbs_hold.specs.contracts.unsparsify_fields.UnsparsifyFields

pub SimilarRows-send : IsSend SimilarRows.the_row
SimilarRows-send = search (bytes.the_send, crosses_events, crosses, sendable) depth 60 fits 20000

pub HeldRows-send : IsSend HeldRows.the_row
HeldRows-send = search (crosses_events, crosses, sendable) depth 60 fits 20000

pub TacRows-send : IsSend TacRows.the_row
TacRows-send = search (crosses_events, crosses, sendable) depth 60 fits 20000

pub LastRows-send : IsSend LastRows.the_row
LastRows-send = search (crosses_events, crosses, sendable) depth 60 fits 20000

pub UnsparsifyRows-send : IsSend UnsparsifyRows.the_row
UnsparsifyRows-send = search (bytes.the_send, names.the_send, crosses_groups, crosses_events, crosses, sendable) depth 60 fits 20000

pub UnsparsifyFields-send : IsSend UnsparsifyFields.the_row
UnsparsifyFields-send = search (bytes.the_send, names.the_send, crosses, sendable) depth 60 fits 20000
