-- The options of the verbs, and the verbs with patterns, may be moved to another thread, and options may be shared by
-- threads.
use denote.Param.Send.{IsSend, IsSync, sendable}
use denote.Param.SendFields.{as_row_send}
use Rattle.std.proofs.Crossing.{crosses}
use Rattle.mlr_value.proofs.bytes.Bytes.TheSendSync as bytes
use Rattle.mlr_event.proofs.field_names.Names.TheSendSync as names
use Rattle.mlr_pattern.proofs.Crosses.{crosses_regex}
use Rattle.mlr_pattern.specs.contracts.patterns.Patterns
use Rattle.verbs_fields.proofs.rename_names.Renaming.TheSendSync as renaming
use Rattle.verbs_pattern.proofs.searching.Searching.TheSendSync as searching
use Rattle.verbs_pattern.specs.contracts.cut.Cut
use Rattle.verbs_pattern.specs.contracts.cut.CutFields
use Rattle.verbs_pattern.specs.contracts.grep.Grep
use Rattle.verbs_pattern.specs.contracts.gsub.Gsub
use Rattle.verbs_pattern.specs.contracts.having_fields.HavingFields
use Rattle.verbs_pattern.specs.contracts.rename.Rename
use Rattle.verbs_pattern.specs.contracts.rename_patterns.RenamePatterns
use Rattle.verbs_pattern.specs.contracts.searching.Searching
use Rattle.verbs_pattern.specs.contracts.ssub.Ssub
use Rattle.verbs_pattern.specs.contracts.sub.Sub
use Rattle.verbs_pattern.specs.contracts.sub_fields.SubFields

-- options, moved to another thread
SubFields-send : IsSend SubFields.the_field.row
SubFields-send = search (names.the_send, crosses, sendable) depth 60 fits 20000

pub Sub-send : IsSend Sub.the_field.row
Sub-send = search (crosses_regex, SubFields-send, bytes.the_send, crosses, sendable) depth 60 fits 20000

pub Gsub-send : IsSend Gsub.the_field.row
Gsub-send = search (crosses_regex, SubFields-send, bytes.the_send, crosses, sendable) depth 60 fits 20000

pub Ssub-send : IsSend Ssub.the_field.row
Ssub-send = search (SubFields-send, bytes.the_send, crosses, sendable) depth 60 fits 20000

pub Grep-send : IsSend Grep.the_field.row
Grep-send = search (crosses_regex, crosses, sendable) depth 60 fits 20000

pub RenamePatterns-send : IsSend RenamePatterns.the_field.row
RenamePatterns-send = search (crosses_regex, bytes.the_send, crosses, sendable) depth 60 fits 20000

pub Rename-send : IsSend Rename.the_field.row
Rename-send = search (RenamePatterns-send, renaming.the_send, crosses, sendable) depth 60 fits 20000

Patterns-send : IsSend Patterns.the_field.row
Patterns-send = search (crosses_regex, crosses, sendable) depth 60 fits 20000

CutFields-send : IsSend CutFields.the_field.row
CutFields-send = search (Patterns-send, names.the_send, crosses, sendable) depth 60 fits 20000

pub Cut-send : IsSend Cut.the_field.row
Cut-send = search (CutFields-send, crosses, sendable) depth 60 fits 20000

pub HavingFields-send : IsSend HavingFields.the_field.row
HavingFields-send = search (crosses_regex, names.the_send, crosses, sendable) depth 60 fits 20000

-- options as arguments of `Searching`, and the verbs, moved to another thread
pub SubVerb-send : IsSend (Searching.the_field Sub.the_row).row
SubVerb-send = searching.the_field_send Sub.the_row (as_row_send Sub.the_field Sub-send)

pub GsubVerb-send : IsSend (Searching.the_field Gsub.the_row).row
GsubVerb-send = searching.the_field_send Gsub.the_row (as_row_send Gsub.the_field Gsub-send)

pub GrepVerb-send : IsSend (Searching.the_field Grep.the_row).row
GrepVerb-send = searching.the_field_send Grep.the_row (as_row_send Grep.the_field Grep-send)

pub RenameVerb-send : IsSend (Searching.the_field Rename.the_row).row
RenameVerb-send = searching.the_field_send Rename.the_row (as_row_send Rename.the_field Rename-send)

pub CutVerb-send : IsSend (Searching.the_field Cut.the_row).row
CutVerb-send = searching.the_field_send Cut.the_row (as_row_send Cut.the_field Cut-send)

pub HavingFieldsVerb-send : IsSend (Searching.the_field HavingFields.the_row).row
HavingFieldsVerb-send = searching.the_field_send HavingFields.the_row (as_row_send HavingFields.the_field HavingFields-send)

-- options, shared by threads
SubFields-sync : IsSync SubFields.the_field.row
SubFields-sync = search (names.the_sync, crosses, sendable) depth 60 fits 20000

pub Sub-sync : IsSync Sub.the_field.row
Sub-sync = search (crosses_regex, SubFields-sync, bytes.the_sync, crosses, sendable) depth 60 fits 20000

pub Gsub-sync : IsSync Gsub.the_field.row
Gsub-sync = search (crosses_regex, SubFields-sync, bytes.the_sync, crosses, sendable) depth 60 fits 20000

pub Grep-sync : IsSync Grep.the_field.row
Grep-sync = search (crosses_regex, crosses, sendable) depth 60 fits 20000

pub RenamePatterns-sync : IsSync RenamePatterns.the_field.row
RenamePatterns-sync = search (crosses_regex, bytes.the_sync, crosses, sendable) depth 60 fits 20000

pub ruleset crosses_patterned = (
  Sub-send,
  Gsub-send,
  Grep-send,
  RenamePatterns-send,
  Rename-send,
  Cut-send,
  HavingFields-send,
  Ssub-send,
  SubVerb-send,
  GsubVerb-send,
  GrepVerb-send,
  RenameVerb-send,
  CutVerb-send,
  HavingFieldsVerb-send,
  Sub-sync,
  Gsub-sync,
  Grep-sync,
  RenamePatterns-sync,
)
