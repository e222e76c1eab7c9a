-- The state of reading a file may go into a thread, and so may its reader.
use denote.Param.Send.{IsSend, sendable}
use Rattle.std.proofs.Crossing.{crosses}
use Rattle.mlr_event.proofs.Crosses.{crosses_reading}
use Rattle.mlr_fields.proofs.Crosses.{crosses_fields}
use Rattle.read_dkvp_nidx.specs.contracts.block.Block
use Rattle.read_dkvp_nidx.specs.contracts.rules.LineRules

Block-send : IsSend Block.the_field.row
Block-send = search (crosses_fields, crosses, sendable) depth 60 fits 20000

pub LineRules-send : IsSend LineRules.the_field.row
LineRules-send = search (Block-send, crosses_reading, crosses, sendable) depth 60 fits 20000
