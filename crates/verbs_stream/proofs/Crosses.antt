-- A streaming verb may be moved to another thread.
use denote.Param.Send.{IsSend, sendable}
use denote.Param.SendFields.{as_row_send, variants_send}
use Rattle.std.proofs.Crossing.{crosses}
use Rattle.verbs_base.proofs.over_events.OverEvents.TheSendSync as over_events
use Rattle.verbs_base.proofs.per_record.Each.TheSendSync as each
use Rattle.verbs_fields.proofs.Crosses as fields
use Rattle.verbs_pattern.proofs.Crosses.{CutVerb-send, GrepVerb-send, GsubVerb-send, HavingFieldsVerb-send, RenameVerb-send, SubVerb-send}
use Rattle.verbs_pattern.proofs.Crosses as patterned
use Rattle.verbs_state.proofs.Crosses.{CatVerb-send, DecimateVerb-send, FillDownVerb-send, GapVerb-send, HeadVerb-send, RegularizeVerb-send, RepeatVerb-send}
use Rattle.verbs_state.proofs.Crosses as state
use Rattle.verbs_values.proofs.Crosses as values
use Rattle.verbs_base.specs.contracts.over_events.OverEvents
use Rattle.verbs_base.specs.contracts.per_record.Each
use Rattle.verbs_fields.specs.contracts.altkv.Altkv
use Rattle.verbs_fields.specs.contracts.label.Label
use Rattle.verbs_fields.specs.contracts.reorder.Reorder
use Rattle.verbs_fields.specs.contracts.sort_within_records.SortWithinRecords
use Rattle.verbs_fields.specs.contracts.sparsify.Sparsify
use Rattle.verbs_fields.specs.contracts.template.Template
use Rattle.verbs_fields.specs.contracts.unspace.Unspace
use Rattle.verbs_pattern.specs.contracts.searching.Searching
use Rattle.verbs_pattern.specs.contracts.ssub.Ssub
use Rattle.verbs_state.specs.contracts.nothing.Nothing
use Rattle.verbs_values.specs.contracts.fill_empty.FillEmpty
use Rattle.verbs_values.specs.contracts.flatten.Flatten
use Rattle.verbs_values.specs.contracts.json_parse.JsonParse
use Rattle.verbs_values.specs.contracts.json_stringify.JsonStringify
use Rattle.verbs_values.specs.contracts.sec2gmt.Sec2Gmt
use Rattle.verbs_values.specs.contracts.sec2gmtdate.Sec2GmtDate
use Rattle.verbs_values.specs.contracts.unflatten.Unflatten
use Rattle.verbs_pattern.specs.contracts.cut.Cut
use Rattle.verbs_pattern.specs.contracts.grep.Grep
use Rattle.verbs_pattern.specs.contracts.gsub.Gsub
use Rattle.verbs_pattern.specs.contracts.having_fields.HavingFields
use Rattle.verbs_pattern.specs.contracts.rename.Rename
use Rattle.verbs_pattern.specs.contracts.sub.Sub
use Rattle.verbs_state.specs.contracts.cat.CatVerb
use Rattle.verbs_state.specs.contracts.decimate.DecimateVerb
use Rattle.verbs_state.specs.contracts.fill_down.FillDownVerb
use Rattle.verbs_state.specs.contracts.gap.GapVerb
use Rattle.verbs_state.specs.contracts.head.HeadVerb
use Rattle.verbs_state.specs.contracts.regularize.RegularizeVerb
use Rattle.verbs_state.specs.contracts.repeat.RepeatVerb
use Rattle.verbs_stream.specs.contracts.running.Running
use Rattle.verbs_stream.specs.contracts.verb.StreamVerb

-- the verbs that take each record by itself, as arguments of `Each`
Altkv-send : IsSend (Each.the_field Altkv.the_row).row
Altkv-send = each.the_field_send Altkv.the_row (as_row_send Altkv.the_field fields.Altkv-send)

Label-send : IsSend (Each.the_field Label.the_row).row
Label-send = each.the_field_send Label.the_row (as_row_send Label.the_field fields.Label-send)

Reorder-send : IsSend (Each.the_field Reorder.the_row).row
Reorder-send = each.the_field_send Reorder.the_row (as_row_send Reorder.the_field fields.Reorder-send)

SortWithinRecords-send : IsSend (Each.the_field SortWithinRecords.the_row).row
SortWithinRecords-send = each.the_field_send SortWithinRecords.the_row (as_row_send SortWithinRecords.the_field fields.SortWithinRecords-send)

Sparsify-send : IsSend (Each.the_field Sparsify.the_row).row
Sparsify-send = each.the_field_send Sparsify.the_row (as_row_send Sparsify.the_field fields.Sparsify-send)

Template-send : IsSend (Each.the_field Template.the_row).row
Template-send = each.the_field_send Template.the_row (as_row_send Template.the_field fields.Template-send)

Unspace-send : IsSend (Each.the_field Unspace.the_row).row
Unspace-send = each.the_field_send Unspace.the_row (as_row_send Unspace.the_field fields.Unspace-send)

Ssub-send : IsSend (Each.the_field Ssub.the_row).row
Ssub-send = each.the_field_send Ssub.the_row (as_row_send Ssub.the_field patterned.Ssub-send)

Nothing-send : IsSend (Each.the_field Nothing.the_row).row
Nothing-send = each.the_field_send Nothing.the_row (as_row_send Nothing.the_field state.Nothing-send)

FillEmpty-send : IsSend (Each.the_field FillEmpty.the_row).row
FillEmpty-send = each.the_field_send FillEmpty.the_row (as_row_send FillEmpty.the_field values.FillEmpty-send)

Flatten-send : IsSend (Each.the_field Flatten.the_row).row
Flatten-send = each.the_field_send Flatten.the_row (as_row_send Flatten.the_field values.Flatten-send)

JsonParse-send : IsSend (Each.the_field JsonParse.the_row).row
JsonParse-send = each.the_field_send JsonParse.the_row (as_row_send JsonParse.the_field values.JsonParse-send)

JsonStringify-send : IsSend (Each.the_field JsonStringify.the_row).row
JsonStringify-send = each.the_field_send JsonStringify.the_row (as_row_send JsonStringify.the_field values.JsonStringify-send)

Sec2Gmt-send : IsSend (Each.the_field Sec2Gmt.the_row).row
Sec2Gmt-send = each.the_field_send Sec2Gmt.the_row (as_row_send Sec2Gmt.the_field values.Sec2Gmt-send)

Sec2GmtDate-send : IsSend (Each.the_field Sec2GmtDate.the_row).row
Sec2GmtDate-send = each.the_field_send Sec2GmtDate.the_row (as_row_send Sec2GmtDate.the_field values.Sec2GmtDate-send)

Unflatten-send : IsSend (Each.the_field Unflatten.the_row).row
Unflatten-send = each.the_field_send Unflatten.the_row (as_row_send Unflatten.the_field values.Unflatten-send)

Running-row-send : IsSend Running.the_row
Running-row-send = variants_send Running.enum ((as_row_send (Each.the_field Altkv.the_row) Altkv-send, tt), ((as_row_send CatVerb.the_field CatVerb-send, tt), ((as_row_send (Searching.the_field Cut.the_row) CutVerb-send, tt), ((as_row_send DecimateVerb.the_field DecimateVerb-send, tt), ((as_row_send FillDownVerb.the_field FillDownVerb-send, tt), ((as_row_send (Each.the_field FillEmpty.the_row) FillEmpty-send, tt), ((as_row_send (Each.the_field Flatten.the_row) Flatten-send, tt), ((as_row_send GapVerb.the_field GapVerb-send, tt), ((as_row_send (Searching.the_field Grep.the_row) GrepVerb-send, tt), ((as_row_send (Searching.the_field Gsub.the_row) GsubVerb-send, tt), ((as_row_send (Searching.the_field HavingFields.the_row) HavingFieldsVerb-send, tt), ((as_row_send HeadVerb.the_field HeadVerb-send, tt), ((as_row_send (Each.the_field JsonParse.the_row) JsonParse-send, tt), ((as_row_send (Each.the_field JsonStringify.the_row) JsonStringify-send, tt), ((as_row_send (Each.the_field Label.the_row) Label-send, tt), ((as_row_send (Each.the_field Nothing.the_row) Nothing-send, tt), ((as_row_send RegularizeVerb.the_field RegularizeVerb-send, tt), ((as_row_send (Searching.the_field Rename.the_row) RenameVerb-send, tt), ((as_row_send (Each.the_field Reorder.the_row) Reorder-send, tt), ((as_row_send RepeatVerb.the_field RepeatVerb-send, tt), ((as_row_send (Each.the_field Sec2Gmt.the_row) Sec2Gmt-send, tt), ((as_row_send (Each.the_field Sec2GmtDate.the_row) Sec2GmtDate-send, tt), ((as_row_send (Each.the_field SortWithinRecords.the_row) SortWithinRecords-send, tt), ((as_row_send (Each.the_field Sparsify.the_row) Sparsify-send, tt), ((as_row_send (Each.the_field Ssub.the_row) Ssub-send, tt), ((as_row_send (Searching.the_field Sub.the_row) SubVerb-send, tt), ((as_row_send (Each.the_field Template.the_row) Template-send, tt), ((as_row_send (Each.the_field Unflatten.the_row) Unflatten-send, tt), ((as_row_send (Each.the_field Unspace.the_row) Unspace-send, tt), tt)))))))))))))))))))))))))))))

OverEvents-send : IsSend (OverEvents.the_field Running.the_row).row
OverEvents-send = over_events.the_field_send Running.the_row Running-row-send

pub StreamVerb-field-send : IsSend StreamVerb.the_field.row
StreamVerb-field-send = search (OverEvents-send, crosses, sendable) depth 60 fits 20000

pub StreamVerb-send : IsSend StreamVerb.the_row
StreamVerb-send = as_row_send StreamVerb.the_field StreamVerb-field-send
