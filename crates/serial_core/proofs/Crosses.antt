-- The source of a run may go into a thread.
use denote.Param.Send.{IsSend, sendable}
use Rattle.std.proofs.Crossing.{crosses}
use Rattle.read_files.proofs.Crosses.{FileReader-field-send}
use Rattle.verbs_seq.proofs.Crosses.{SeqSource-send}
use Rattle.serial_core.specs.contracts.reader.Reader

pub Reader-send : IsSend Reader.the_row
Reader-send = search (FileReader-field-send, SeqSource-send, crosses, sendable) depth 60 fits 20000

pub Reader-field-send : IsSend Reader.the_field.row
Reader-field-send = search (FileReader-field-send, SeqSource-send, crosses, sendable) depth 60 fits 20000
