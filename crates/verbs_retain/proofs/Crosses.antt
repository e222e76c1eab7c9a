-- A retaining verb may be moved to another thread.
use denote.Param.Send.{IsSend, sendable}
use denote.Param.SendFields.{as_row_send, variants_send}
use Rattle.std.proofs.Crossing.{crosses}
use Rattle.group_state.proofs.Crosses.{OfAll-send, OfGroups-send}
use Rattle.group_state.specs.contracts.at_end.OfAll
use Rattle.group_state.specs.contracts.of_groups.OfGroups
use Rattle.verbs_base.proofs.over_events.OverEvents.TheSendSync as over_events
use Rattle.verbs_base.proofs.per_record.Each.TheSendSync as each
use Rattle.verbs_base.specs.contracts.over_events.OverEvents
use Rattle.verbs_base.specs.contracts.per_record.Each
use Rattle.verbs_count.proofs.Crosses as count
use Rattle.verbs_hold.proofs.Crosses.{HeldRows-send, LastRows-send, SimilarRows-send, TacRows-send, UnsparsifyFields-send, UnsparsifyRows-send}
use Rattle.verbs_sort.proofs.Crosses as sort
use Rattle.verbs_hold.specs.contracts.count_similar.SimilarRows
use Rattle.verbs_count.specs.contracts.frequent.FrequentGroups
use Rattle.verbs_count.specs.contracts.group_counts.GroupCount
use Rattle.verbs_count.specs.contracts.group_numbers.NumberOfGroups
use Rattle.verbs_hold.specs.contracts.held_rows.HeldRows
use Rattle.verbs_count.specs.contracts.record_counts.RecordCount
use Rattle.verbs_sort.specs.contracts.sort.SortRows
use Rattle.verbs_hold.specs.contracts.tac.TacRows
use Rattle.verbs_hold.specs.contracts.tail.LastRows
use Rattle.verbs_count.specs.contracts.uniq.CountedFirst
use Rattle.verbs_count.specs.contracts.uniq.UniqFirstVerb
use Rattle.verbs_hold.specs.contracts.unsparsify.UnsparsifyRows
use Rattle.verbs_hold.specs.contracts.unsparsify_fields.UnsparsifyFields
use Rattle.verbs_retain.specs.contracts.running.Running
use Rattle.verbs_retain.specs.contracts.verb.RetainVerb

FrequentGroups-row-send : IsSend FrequentGroups.the_row
FrequentGroups-row-send = as_row_send FrequentGroups.the_field count.FrequentGroups-field-send

GroupCount-row-send : IsSend GroupCount.the_row
GroupCount-row-send = as_row_send GroupCount.the_field count.GroupCount-field-send

NumberOfGroups-row-send : IsSend NumberOfGroups.the_row
NumberOfGroups-row-send = as_row_send NumberOfGroups.the_field count.NumberOfGroups-field-send

RecordCount-row-send : IsSend RecordCount.the_row
RecordCount-row-send = as_row_send RecordCount.the_field count.RecordCount-field-send

SortRows-row-send : IsSend SortRows.the_row
SortRows-row-send = as_row_send SortRows.the_field sort.SortRows-send

CountedFirst-row-send : IsSend CountedFirst.the_row
CountedFirst-row-send = as_row_send CountedFirst.the_field count.CountedFirst-field-send

Running-row-send : IsSend Running.the_row
Running-row-send = variants_send Running.enum ((as_row_send (OfGroups.the_field SimilarRows.the_row) (OfGroups-send SimilarRows.the_row SimilarRows-send), tt), ((as_row_send (OfAll.the_field FrequentGroups.the_row) (OfAll-send FrequentGroups.the_row FrequentGroups-row-send), tt), ((as_row_send (OfGroups.the_field GroupCount.the_row) (OfGroups-send GroupCount.the_row GroupCount-row-send), tt), ((as_row_send (OfAll.the_field NumberOfGroups.the_row) (OfAll-send NumberOfGroups.the_row NumberOfGroups-row-send), tt), ((as_row_send (OfGroups.the_field HeldRows.the_row) (OfGroups-send HeldRows.the_row HeldRows-send), tt), ((as_row_send (OfAll.the_field RecordCount.the_row) (OfAll-send RecordCount.the_row RecordCount-row-send), tt), ((as_row_send (OfAll.the_field SortRows.the_row) (OfAll-send SortRows.the_row SortRows-row-send), tt), ((as_row_send (OfAll.the_field TacRows.the_row) (OfAll-send TacRows.the_row TacRows-send), tt), ((as_row_send (OfGroups.the_field LastRows.the_row) (OfGroups-send LastRows.the_row LastRows-send), tt), ((as_row_send (OfGroups.the_field CountedFirst.the_row) (OfGroups-send CountedFirst.the_row CountedFirst-row-send), tt), ((as_row_send UniqFirstVerb.the_field count.UniqFirstVerb-field-send, tt), ((as_row_send (OfAll.the_field UnsparsifyRows.the_row) (OfAll-send UnsparsifyRows.the_row UnsparsifyRows-send), tt), ((as_row_send (Each.the_field UnsparsifyFields.the_row) (each.the_field_send UnsparsifyFields.the_row UnsparsifyFields-send), tt), tt)))))))))))))

OverEvents-send : IsSend (OverEvents.the_field Running.the_row).row
OverEvents-send = over_events.the_field_send Running.the_row Running-row-send

pub RetainVerb-field-send : IsSend RetainVerb.the_field.row
RetainVerb-field-send = search (OverEvents-send, crosses, sendable) depth 60 fits 20000
