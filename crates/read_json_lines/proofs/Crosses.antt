-- A reader may go into a thread.
use denote.Param.Send.{IsSend, sendable}
use Rattle.std.proofs.Crossing.{crosses}
use Rattle.mlr_json.proofs.Crosses.{crosses_json}
use Rattle.mlr_event.proofs.Crosses.{crosses_reading}
use Rattle.read_json_lines.specs.contracts.listing.Listing
use Rattle.read_json_lines.specs.contracts.json.JsonReader
use Rattle.read_json_lines.specs.contracts.json.Stage
use Rattle.read_json_lines.specs.contracts.record_state.RecordState
use Rattle.read_json_lines.specs.contracts.stream.Stream
use Rattle.read_json_lines.specs.contracts.strings.OpenText

Listing-send : IsSend Listing.the_field.row
Listing-send = search (crosses, sendable) depth 60 fits 20000

Stage-send : IsSend Stage.the_field.row
Stage-send = search (crosses, sendable) depth 60 fits 20000

RecordState-send : IsSend RecordState.the_field.row
RecordState-send = search (Listing-send, crosses_json, crosses, sendable) depth 60 fits 20000

OpenText-send : IsSend OpenText.the_field.row
OpenText-send = search (crosses_json, crosses, sendable) depth 60 fits 20000

Stream-send : IsSend Stream.the_field.row
Stream-send = search (RecordState-send, OpenText-send, crosses_reading, crosses, sendable) depth 60 fits 20000

pub JsonReader-field-send : IsSend JsonReader.the_field.row
JsonReader-field-send = search (Stream-send, Stage-send, crosses, sendable) depth 60 fits 20000
