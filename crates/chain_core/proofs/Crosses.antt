-- The reader of a plan may go into a thread.
use denote.Param.Send.{IsSend, sendable}
use Rattle.std.proofs.Crossing.{crosses}
use Rattle.serial_core.proofs.Crosses.{Reader-field-send}
use Rattle.chain_core.specs.contracts.reader.Reader

pub Reader-send : IsSend Reader.the_row
Reader-send = search (Reader-field-send, crosses, sendable) depth 60 fits 20000
