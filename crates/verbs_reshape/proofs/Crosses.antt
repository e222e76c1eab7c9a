-- The options of `reshape`, and the verb, may be moved to another thread.
use denote.Param.Send.{IsSend, sendable}
use Rattle.std.proofs.Crossing.{crosses}
use Rattle.group_state.proofs.Crosses.{OfGroupsOrPass-send}
use Rattle.mlr_event.proofs.field_names.Names.TheSendSync as names
use Rattle.mlr_fields.proofs.Crosses.{crosses_fields}
use Rattle.mlr_groups.proofs.Crosses.{crosses_groups}
use Rattle.mlr_pattern.proofs.Crosses.{crosses_regex}
use Rattle.mlr_pattern.specs.contracts.patterns.Patterns
use Rattle.mlr_value.proofs.bytes.Bytes.TheSendSync as bytes
use Rattle.verbs_pattern.specs.contracts.searching.Searching
use Rattle.verbs_reshape.specs.contracts.reshape.Reshape
use Rattle.verbs_reshape.specs.contracts.reshape.ReshapeVerb
use Rattle.verbs_reshape.specs.contracts.to_long.LongFields
use Rattle.verbs_reshape.specs.contracts.to_long.ToLong
use Rattle.verbs_reshape.specs.contracts.to_wide.ToWide
use Rattle.verbs_reshape.specs.contracts.to_wide.ToWideVerb
use Rattle.verbs_reshape.specs.contracts.wide_row.WideRow

-- the options
Patterns-send : IsSend Patterns.the_field.row
Patterns-send = search (crosses_regex, crosses, sendable) depth 60 fits 20000

LongFields-send : IsSend LongFields.the_field.row
LongFields-send = search (Patterns-send, names.the_send, crosses, sendable) depth 60 fits 20000

ToLong-send : IsSend ToLong.the_field.row
ToLong-send = search (LongFields-send, bytes.the_send, crosses, sendable) depth 60 fits 20000

ToWide-send : IsSend ToWide.the_field.row
ToWide-send = search (bytes.the_send, crosses, sendable) depth 60 fits 20000

pub Reshape-send : IsSend Reshape.the_field.row
Reshape-send = search (ToLong-send, ToWide-send, crosses, sendable) depth 60 fits 20000

-- the verb
ToLong-row-send : IsSend ToLong.the_row
ToLong-row-send = search (ToLong-send, crosses, sendable) depth 60 fits 20000

ToLongVerb-send : IsSend (Searching.the_field ToLong.the_row).row
ToLongVerb-send = search (ToLong-row-send, crosses, sendable) depth 60 fits 20000

WideRow-row-send : IsSend WideRow.the_row
WideRow-row-send = search (ToWide-send, crosses_fields, crosses, sendable) depth 60 fits 20000

ToWideVerb-send : IsSend ToWideVerb.the_field.row
ToWideVerb-send = search (ToWide-send, OfGroupsOrPass-send WideRow.the_row WideRow-row-send, crosses_groups, crosses, sendable) depth 60 fits 20000

pub ReshapeVerb-send : IsSend ReshapeVerb.the_field.row
ReshapeVerb-send = search (ToLongVerb-send, ToWideVerb-send, crosses, sendable) depth 60 fits 20000

pub ruleset crosses_reshape = (Reshape-send, ReshapeVerb-send)
