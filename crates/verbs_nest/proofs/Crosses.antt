-- The verb `nest`, and its options, may be moved to another thread.
use denote.Param.Send.{IsSend, sendable}
use denote.Param.SendFields.{as_row_send, variants_send}
use Rattle.std.proofs.Crossing.{crosses}
use Rattle.mlr_value.proofs.bytes.Bytes.TheSendSync as bytes
use Rattle.mlr_record.proofs.Crosses.{crosses_record}
use Rattle.mlr_event.proofs.Crosses.{crosses_reading}
use Rattle.verbs_base.specs.contracts.per_record.Each
use Rattle.group_state.proofs.Crosses.{OfGroupsOrPass-send}
use Rattle.group_state.specs.contracts.of_groups_or_pass.OfGroupsOrPass
use Rattle.verbs_nest.specs.contracts.across_fields.AcrossFields
use Rattle.verbs_nest.specs.contracts.across_records.AcrossRecords
use Rattle.verbs_nest.specs.contracts.implode.ImplodedRows
use Rattle.verbs_nest.specs.contracts.nest.Nest
use Rattle.verbs_nest.specs.contracts.verb.NestVerb

-- the options
pub Nest-send : IsSend Nest.the_field.row
Nest-send = search (bytes.the_send, crosses, sendable) depth 60 fits 20000

AcrossRecords-send : IsSend AcrossRecords.the_field.row
AcrossRecords-send = search (bytes.the_send, crosses, sendable) depth 60 fits 20000

AcrossFields-send : IsSend AcrossFields.the_row
AcrossFields-send = search (bytes.the_send, crosses, sendable) depth 60 fits 20000

EachAcrossFields-send : IsSend (Each.the_field AcrossFields.the_row).row
EachAcrossFields-send = search (AcrossFields-send, crosses, sendable) depth 60 fits 20000

ImplodedRows-send : IsSend ImplodedRows.the_row
ImplodedRows-send = search (bytes.the_send, crosses_record, crosses_reading, crosses, sendable) depth 60 fits 20000

-- the verb, by itself and as a field
pub NestVerb-send : IsSend NestVerb.the_row
NestVerb-send = variants_send NestVerb.enum ((as_row_send AcrossRecords.the_field AcrossRecords-send, tt), ((as_row_send (Each.the_field AcrossFields.the_row) EachAcrossFields-send, tt), ((as_row_send (OfGroupsOrPass.the_field ImplodedRows.the_row) (OfGroupsOrPass-send ImplodedRows.the_row ImplodedRows-send), tt), tt)))

pub ruleset crosses_nest = (Nest-send, NestVerb-send)
