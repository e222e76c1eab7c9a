-- Groups, tallies and what contains them may be moved to another thread.
use denote.Param.Send.{IsSend, sendable}
use Rattle.std.proofs.Crossing.{crosses}
use Rattle.mlr_value.proofs.bytes.Bytes.TheSendSync as bytes
use Rattle.mlr_event.proofs.field_names.Names.TheSendSync as names
use Rattle.mlr_groups.specs.contracts.groups.Groups
use Rattle.mlr_groups.specs.contracts.keys.KeyTable
use Rattle.mlr_groups.specs.contracts.tallies.Tallies

pub KeyTable-send : IsSend KeyTable.the_row
KeyTable-send = search (crosses, sendable) depth 60 fits 20000

pub Groups-field-send : IsSend Groups.the_field.row
Groups-field-send = search (KeyTable-send, names.the_send, bytes.the_send, crosses, sendable) depth 60 fits 20000

pub Groups-send : IsSend Groups.the_row
Groups-send = search (Groups-field-send, crosses, sendable) depth 60 fits 20000

pub Tallies-field-send : IsSend Tallies.the_field.row
Tallies-field-send = search (Groups-field-send, crosses, sendable) depth 60 fits 20000

pub Tallies-send : IsSend Tallies.the_row
Tallies-send = search (Tallies-field-send, crosses, sendable) depth 60 fits 20000

pub ruleset crosses_groups = (KeyTable-send, Groups-field-send, Groups-send, Tallies-field-send, Tallies-send)
