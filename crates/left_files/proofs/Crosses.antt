-- What reads left files may go into a thread.
use denote.Param.Send.{IsSend, sendable}
use Rattle.std.proofs.Crossing.{crosses}
use Rattle.mlr_event.proofs.Crosses.{crosses_events, crosses_reading}
use Rattle.read_files.proofs.Crosses.{FileReader-field-send}
use Rattle.left_files.specs.contracts.left_file.LeftFile
use Rattle.left_files.specs.contracts.open_left.OpenLeft
use Rattle.left_files.specs.contracts.reader.LeftReader

pub LeftFile-send : IsSend LeftFile.the_row
LeftFile-send = search (crosses_reading, crosses, sendable) depth 60 fits 20000

OpenLeft-send : IsSend OpenLeft.the_row
OpenLeft-send = search (FileReader-field-send, crosses_events, crosses, sendable) depth 60 fits 20000

pub LeftReader-field-send : IsSend LeftReader.the_field.row
LeftReader-field-send = search (LeftFile-send, OpenLeft-send, crosses_events, crosses, sendable) depth 60 fits 20000
