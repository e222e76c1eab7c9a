-- A verb of statistics may be moved to another thread.
use denote.Param.Send.{IsSend, sendable}
use denote.Param.SendFields.{as_row_send, variants_send}
use Rattle.std.proofs.Crossing.{crosses}
use Rattle.group_state.proofs.Crosses.{OfGroups-send}
use Rattle.group_state.specs.contracts.of_groups.OfGroups
use Rattle.verbs_base.proofs.over_events.OverEvents.TheSendSync as over_events
use Rattle.verbs_base.specs.contracts.over_events.OverEvents
use Rattle.verbs_pattern.specs.contracts.searching.Searching
use Rattle.verbs_step.proofs.Crosses.{StepVerb-send}
use Rattle.verbs_step.specs.contracts.step.StepVerb
use Rattle.verbs_summary.proofs.Crosses.{GroupSummaries-send, MergeFields-send}
use Rattle.verbs_summary.specs.contracts.merge_fields.MergeFields
use Rattle.verbs_summary.specs.contracts.stats1.GroupSummaries
use Rattle.verbs_top.proofs.Crosses.{TopState-field-send}
use Rattle.verbs_top.specs.contracts.state.TopState
use Rattle.verbs_stat.specs.contracts.running.Running
use Rattle.verbs_stat.specs.contracts.verb.StatVerb

MergeFields-row-send : IsSend MergeFields.the_row
MergeFields-row-send = as_row_send MergeFields.the_field MergeFields-send

MergeFieldsVerb-send : IsSend (Searching.the_field MergeFields.the_row).row
MergeFieldsVerb-send = search (MergeFields-row-send, crosses, sendable) depth 60 fits 20000

GroupSummaries-row-send : IsSend GroupSummaries.the_row
GroupSummaries-row-send = as_row_send GroupSummaries.the_field GroupSummaries-send

TopState-row-send : IsSend TopState.the_row
TopState-row-send = as_row_send TopState.the_field TopState-field-send

Running-row-send : IsSend Running.the_row
Running-row-send = variants_send Running.enum ((as_row_send (Searching.the_field MergeFields.the_row) MergeFieldsVerb-send, tt), ((as_row_send (OfGroups.the_field GroupSummaries.the_row) (OfGroups-send GroupSummaries.the_row GroupSummaries-row-send), tt), ((as_row_send StepVerb.the_field StepVerb-send, tt), ((as_row_send (OfGroups.the_field TopState.the_row) (OfGroups-send TopState.the_row TopState-row-send), tt), tt))))

OverEvents-send : IsSend (OverEvents.the_field Running.the_row).row
OverEvents-send = over_events.the_field_send Running.the_row Running-row-send

pub StatVerb-field-send : IsSend StatVerb.the_field.row
StatVerb-field-send = search (OverEvents-send, crosses, sendable) depth 60 fits 20000
