-- The verbs may be moved to another thread.
use denote.Param.Send.{IsSend, sendable}
use Rattle.std.proofs.Crossing.{crosses}
use Rattle.mlr_value.proofs.bytes.Bytes.TheSendSync as bytes
use Rattle.mlr_event.proofs.field_names.Names.TheSendSync as names
use Rattle.verbs_fields.specs.contracts.altkv.Altkv
use Rattle.verbs_fields.specs.contracts.label.Label
use Rattle.verbs_fields.specs.contracts.rename_names.Renaming
use Rattle.verbs_fields.specs.contracts.reorder.Reorder
use Rattle.verbs_fields.specs.contracts.sort_within_records.SortWithinRecords
use Rattle.verbs_fields.specs.contracts.sparsify.Sparsify
use Rattle.verbs_fields.specs.contracts.template.Template
use Rattle.verbs_fields.specs.contracts.unspace.UnspacePart
use Rattle.verbs_fields.specs.contracts.unspace.Unspace

pub Altkv-send : IsSend Altkv.the_field.row
Altkv-send = search (crosses, sendable) depth 60 fits 20000

pub Label-send : IsSend Label.the_field.row
Label-send = search (names.the_send, crosses, sendable) depth 60 fits 20000

pub Renaming-send : IsSend Renaming.the_field.row
Renaming-send = search (bytes.the_send, crosses, sendable) depth 60 fits 20000

pub Renaming-row-send : IsSend Renaming.the_row
Renaming-row-send = search (Renaming-send, crosses, sendable) depth 60 fits 20000

pub Reorder-send : IsSend Reorder.the_field.row
Reorder-send = search (names.the_send, crosses, sendable) depth 60 fits 20000

pub SortWithinRecords-send : IsSend SortWithinRecords.the_field.row
SortWithinRecords-send = search (crosses, sendable) depth 60 fits 20000

pub Sparsify-send : IsSend Sparsify.the_field.row
Sparsify-send = search (names.the_send, crosses, sendable) depth 60 fits 20000

pub Template-send : IsSend Template.the_field.row
Template-send = search (names.the_send, bytes.the_send, crosses, sendable) depth 60 fits 20000

pub UnspacePart-send : IsSend UnspacePart.the_field.row
UnspacePart-send = search (crosses, sendable) depth 60 fits 20000

pub Unspace-send : IsSend Unspace.the_field.row
Unspace-send = search (UnspacePart-send, bytes.the_send, crosses, sendable) depth 60 fits 20000

pub ruleset crosses_fields = (
  Altkv-send,
  Label-send,
  Renaming-send,
  Renaming-row-send,
  Reorder-send,
  SortWithinRecords-send,
  Sparsify-send,
  Template-send,
  UnspacePart-send,
  Unspace-send,
)
