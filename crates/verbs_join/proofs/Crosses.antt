-- The verb `join`, and its options, may be moved to another thread.
use denote.Param.Send.{IsSend, sendable}
use Rattle.std.proofs.Crossing.{crosses}
use Rattle.mlr_value.proofs.bytes.Bytes.TheSendSync as bytes
use Rattle.mlr_record.proofs.Crosses.{crosses_record}
use Rattle.mlr_event.proofs.Crosses.{crosses_reading}
use Rattle.mlr_event.proofs.field_names.Names.TheSendSync as names
use Rattle.mlr_groups.proofs.Crosses.{crosses_groups}
use Rattle.verbs_join.specs.contracts.join.Join
use Rattle.verbs_join.specs.contracts.join_verb.JoinVerb
use Rattle.verbs_join.specs.contracts.lefts.Lefts

-- the options
pub Join-send : IsSend Join.the_field.row
Join-send = search (crosses_reading, names.the_send, bytes.the_send, crosses, sendable) depth 60 fits 20000

-- the verb
Lefts-send : IsSend Lefts.the_field.row
Lefts-send = search (crosses_record, crosses_groups, crosses, sendable) depth 60 fits 20000

pub JoinVerb-send : IsSend JoinVerb.the_field.row
JoinVerb-send = search (Join-send, Lefts-send, crosses, sendable) depth 60 fits 20000

pub ruleset crosses_join = (Join-send, JoinVerb-send)
