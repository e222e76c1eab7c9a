-- The options, and what `stats1` keeps of a group, may be moved to another thread.
use denote.Param.Send.{IsSend, sendable}
use Rattle.std.proofs.Crossing.{crosses}
use Rattle.mlr_value.proofs.bytes.Bytes.TheSendSync as bytes
use Rattle.mlr_event.proofs.field_names.Names.TheSendSync as names
use Rattle.mlr_list.proofs.List.TheSendSync as list
use Rattle.mlr_pattern.proofs.Crosses.{crosses_regex}
use Rattle.mlr_pattern.specs.contracts.patterns.Patterns
use Rattle.mlr_record.proofs.Crosses.{crosses_record}
use Rattle.mlr_stats.proofs.Crosses.{crosses_stats}
use Rattle.verbs_summary.specs.contracts.merge_fields.MergeFields
use Rattle.verbs_summary.specs.contracts.merge_fields.MergeInputs
use Rattle.verbs_summary.specs.contracts.stats1.GroupSummaries
use Rattle.verbs_summary.specs.contracts.stats1.Options
use Rattle.verbs_summary.specs.contracts.stats1.Stats1

pub Stats1-send : IsSend Stats1.the_field.row
Stats1-send = search (list.the_send, names.the_send, crosses, sendable) depth 60 fits 20000

Patterns-send : IsSend Patterns.the_field.row
Patterns-send = search (crosses_regex, crosses, sendable) depth 60 fits 20000

MergeInputs-send : IsSend MergeInputs.the_field.row
MergeInputs-send = search (Patterns-send, names.the_send, crosses, sendable) depth 60 fits 20000

pub MergeFields-send : IsSend MergeFields.the_field.row
MergeFields-send = search (MergeInputs-send, list.the_send, bytes.the_send, crosses, sendable) depth 60 fits 20000

-- what all groups share
Options-send : IsSend Options.the_row
Options-send = search (names.the_send, crosses_stats, crosses, sendable) depth 60 fits 20000

pub GroupSummaries-send : IsSend GroupSummaries.the_field.row
GroupSummaries-send = search (Options-send, crosses_stats, crosses_record, crosses, sendable) depth 60 fits 20000

pub ruleset crosses_summary = (Stats1-send, MergeFields-send, GroupSummaries-send)
