-- The source of numbers may go into a thread.
use denote.Param.Send.{IsSend, sendable}
use Rattle.std.proofs.Crossing.{crosses}
use Rattle.mlr_value.proofs.bytes.Bytes.TheSendSync as bytes
use Rattle.verbs_seq.specs.contracts.seq_spec.SeqSpec
use Rattle.verbs_seq.specs.contracts.source.SeqSource

pub SeqSpec-send : IsSend SeqSpec.the_field.row
SeqSpec-send = search (bytes.the_send, crosses, sendable) depth 60 fits 20000

pub SeqSource-send : IsSend SeqSource.the_field.row
SeqSource-send = search (SeqSpec-send, crosses, sendable) depth 60 fits 20000
