-- A value that is read token by token may go into a thread.
use denote.Param.Send.{IsSend, sendable}
use Rattle.std.proofs.Crossing.{crosses}
use Rattle.mlr_value.proofs.Crosses.{crosses_value}
use Rattle.mlr_value.proofs.bytes.Bytes.TheSendSync as bytes
use Rattle.mlr_json.specs.contracts.frame.Frame
use Rattle.mlr_json.specs.contracts.frame.Phase
use Rattle.mlr_json.specs.contracts.machine.Machine
use Rattle.mlr_json.specs.contracts.string.StringBuilder

Frame-send : IsSend Frame.the_field.row
Frame-send = search (crosses_value, bytes.the_send, crosses, sendable) depth 60 fits 20000

Phase-send : IsSend Phase.the_field.row
Phase-send = search (crosses, sendable) depth 60 fits 20000

pub Machine-send : IsSend Machine.the_field.row
Machine-send = search (Frame-send, Phase-send, crosses, sendable) depth 60 fits 20000

pub StringBuilder-send : IsSend StringBuilder.the_field.row
StringBuilder-send = search (bytes.the_send, crosses, sendable) depth 60 fits 20000

pub ruleset crosses_json = (Machine-send, StringBuilder-send)
