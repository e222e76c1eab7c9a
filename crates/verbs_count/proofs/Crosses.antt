-- The verbs that count records may be moved to another thread.
use denote.Param.Send.{IsSend, sendable}
use Rattle.std.proofs.Crossing.{crosses}
use Rattle.mlr_value.proofs.bytes.Bytes.TheSendSync as bytes
use Rattle.mlr_event.proofs.field_names.Names.TheSendSync as names
use Rattle.mlr_event.proofs.Crosses.{crosses_events}
use Rattle.mlr_record.proofs.Crosses.{crosses_record}
use Rattle.mlr_groups.proofs.Crosses.{crosses_groups}
use Rattle.group_state.proofs.Crosses.{crosses_states}
use Rattle.verbs_count.specs.contracts.frequent.FrequentGroups
use Rattle.verbs_count.specs.contracts.group_counts.Counting
use Rattle.verbs_count.specs.contracts.group_counts.GroupCount
use Rattle.verbs_count.specs.contracts.group_numbers.NumberOfGroups
use Rattle.verbs_count.specs.contracts.record_counts.RecordCount
use Rattle.verbs_count.specs.contracts.uniq.CountedFirst
use Rattle.verbs_count.specs.contracts.uniq.UniqFirstVerb

pub RecordCount-field-send : IsSend RecordCount.the_field.row
RecordCount-field-send = search (bytes.the_send, crosses, sendable) depth 60 fits 20000

pub NumberOfGroups-field-send : IsSend NumberOfGroups.the_field.row
NumberOfGroups-field-send = search (bytes.the_send, crosses_groups, crosses, sendable) depth 60 fits 20000

-- the options that groups share
Counting-send : IsSend Counting.the_row
Counting-send = search (names.the_send, bytes.the_send, crosses, sendable) depth 60 fits 20000

pub GroupCount-field-send : IsSend GroupCount.the_field.row
GroupCount-field-send = search (Counting-send, crosses_record, crosses, sendable) depth 60 fits 20000

pub CountedFirst-field-send : IsSend CountedFirst.the_field.row
CountedFirst-field-send = search (crosses_events, crosses, sendable) depth 60 fits 20000

pub FrequentGroups-field-send : IsSend FrequentGroups.the_field.row
FrequentGroups-field-send = search (GroupCount-field-send, crosses_states, crosses, sendable) depth 60 fits 20000

pub UniqFirstVerb-field-send : IsSend UniqFirstVerb.the_field.row
UniqFirstVerb-field-send = search (crosses_groups, crosses, sendable) depth 60 fits 20000

pub ruleset crosses_count = (
  RecordCount-field-send,
  NumberOfGroups-field-send,
  GroupCount-field-send,
  CountedFirst-field-send,
  FrequentGroups-field-send,
  UniqFirstVerb-field-send,
)
