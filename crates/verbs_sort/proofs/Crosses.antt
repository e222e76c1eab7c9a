-- What `sort` keeps, and its options, may be moved to another thread.
use denote.Param.Send.{IsSend, sendable}
use denote.Param.SendFields.{as_row_send}
use Rattle.std.proofs.Crossing.{crosses}
use Rattle.mlr_value.proofs.bytes.Bytes.TheSendSync as bytes
use Rattle.mlr_value.proofs.Crosses.{crosses_value}
use Rattle.mlr_event.proofs.field_names.Names.TheSendSync as names
use Rattle.mlr_list.proofs.List.TheSendSync as list
use Rattle.mlr_record.proofs.Crosses.{crosses_record}
use Rattle.verbs_sort.specs.contracts.sort.Entry
use Rattle.verbs_sort.specs.contracts.sort.Held
use Rattle.verbs_sort.specs.contracts.sort.KeyValues
use Rattle.verbs_sort.specs.contracts.sort.Sort
use Rattle.verbs_sort.specs.contracts.sort.SortFlag
use Rattle.verbs_sort.specs.contracts.sort.SortKey
use Rattle.verbs_sort.specs.contracts.sort.SortRows

-- the options
pub SortFlag-send : IsSend SortFlag.the_row
SortFlag-send = search (names.the_send, crosses, sendable) depth 60 fits 20000

pub Sort-send : IsSend Sort.the_field.row
Sort-send = search (SortFlag-send, list.the_send, crosses, sendable) depth 60 fits 20000

-- what is kept
pub SortKey-send : IsSend SortKey.the_row
SortKey-send = search (bytes.the_send, crosses, sendable) depth 60 fits 20000

pub Held-field : IsSend Held.the_field.row
Held-field = search (crosses_record, crosses, sendable) depth 60 fits 20000

pub Held-send : IsSend Held.the_row
Held-send = as_row_send Held.the_field Held-field

pub KeyValues-send : IsSend KeyValues.the_field.row
KeyValues-send = search (crosses_value, crosses, sendable) depth 60 fits 20000

pub Entry-send : IsSend Entry.the_row
Entry-send = search (Held-field, KeyValues-send, crosses, sendable) depth 60 fits 20000

pub SortRows-send : IsSend SortRows.the_field.row
SortRows-send = search (SortKey-send, Held-send, Entry-send, crosses, sendable) depth 60 fits 20000

pub ruleset crosses_sort = (SortFlag-send, Sort-send, SortKey-send, Held-send, KeyValues-send, Entry-send, SortRows-send)
