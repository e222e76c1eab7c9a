-- What reads files may go into a thread.
use denote.Param.Send.{IsSend, sendable}
use Rattle.std.proofs.Crossing.{crosses}
use Rattle.mlr_value.proofs.bytes.Bytes.TheSendSync as bytes
use Rattle.mlr_event.proofs.Crosses.{crosses_reading}
use Rattle.mlr_lines.proofs.lines.Lines.TheSendSync as lines
use Rattle.mlr_lines.proofs.reader.Reader.TheSendSync as reader
use Rattle.read_csv.proofs.Crosses.{RowRules-send}
use Rattle.read_dkvp_nidx.proofs.Crosses.{LineRules-send}
use Rattle.read_json_lines.proofs.Crosses.{JsonReader-field-send}
use Rattle.read_xtab_pprint.proofs.Crosses.{BlockRules-send}
use Rattle.read_files.specs.contracts.open_file.OpenFile
use Rattle.read_files.specs.contracts.open_file.OpenInput
use Rattle.read_files.specs.contracts.reader.FileReader

OpenFile-send : IsSend OpenFile.the_field.row
OpenFile-send = search (RowRules-send, LineRules-send, BlockRules-send, JsonReader-field-send, reader.the_send, lines.the_send, crosses, sendable) depth 60 fits 20000

OpenInput-send : IsSend OpenInput.the_field.row
OpenInput-send = search (OpenFile-send, crosses_reading, crosses, sendable) depth 60 fits 20000

pub FileReader-field-send : IsSend FileReader.the_field.row
FileReader-field-send = search (OpenInput-send, crosses_reading, bytes.the_send, crosses, sendable) depth 60 fits 20000
