-- The verbs that keep state, and what contains them, may be moved to another thread.
use denote.Param.Send.{IsSend, sendable}
use Rattle.std.proofs.Crossing.{crosses}
use Rattle.mlr_value.proofs.bytes.Bytes.TheSendSync as bytes
use Rattle.mlr_value.proofs.Crosses.{crosses_value}
use Rattle.mlr_event.proofs.field_names.Names.TheSendSync as names
use Rattle.mlr_groups.proofs.Crosses.{crosses_groups}
use Rattle.verbs_state.specs.contracts.cat.CatVerb
use Rattle.verbs_state.specs.contracts.decimate.DecimateVerb
use Rattle.verbs_state.specs.contracts.head.HeadVerb
use Rattle.verbs_state.specs.contracts.fill_down.FillDownVerb
use Rattle.verbs_state.specs.contracts.gap.GapVerb
use Rattle.verbs_state.specs.contracts.cat.Cat
use Rattle.verbs_state.specs.contracts.decimate.Decimate
use Rattle.verbs_state.specs.contracts.fill_down.FillDown
use Rattle.verbs_state.specs.contracts.gap.Gap
use Rattle.verbs_state.specs.contracts.head.Head
use Rattle.verbs_state.specs.contracts.nothing.Nothing
use Rattle.verbs_state.specs.contracts.regularize.RegularizeVerb
use Rattle.verbs_state.specs.contracts.repeat.Repeat
use Rattle.verbs_state.specs.contracts.repeat.RepeatVerb

-- their options
pub Cat-send : IsSend Cat.the_field.row
Cat-send = search (names.the_send, bytes.the_send, crosses, sendable) depth 60 fits 20000

pub Decimate-send : IsSend Decimate.the_field.row
Decimate-send = search (names.the_send, crosses, sendable) depth 60 fits 20000

pub FillDown-send : IsSend FillDown.the_field.row
FillDown-send = search (names.the_send, crosses, sendable) depth 60 fits 20000

pub Gap-send : IsSend Gap.the_field.row
Gap-send = search (names.the_send, crosses, sendable) depth 60 fits 20000

pub Head-send : IsSend Head.the_field.row
Head-send = search (names.the_send, crosses, sendable) depth 60 fits 20000

pub Nothing-send : IsSend Nothing.the_field.row
Nothing-send = search (crosses, sendable) depth 60 fits 20000

pub Repeat-send : IsSend Repeat.the_field.row
Repeat-send = search (bytes.the_send, crosses, sendable) depth 60 fits 20000

-- the verbs
pub CatVerb-send : IsSend CatVerb.the_field.row
CatVerb-send = search (Cat-send, crosses_groups, crosses, sendable) depth 60 fits 20000

pub DecimateVerb-send : IsSend DecimateVerb.the_field.row
DecimateVerb-send = search (Decimate-send, crosses_groups, crosses, sendable) depth 60 fits 20000

pub FillDownVerb-send : IsSend FillDownVerb.the_field.row
FillDownVerb-send = search (FillDown-send, crosses_value, crosses, sendable) depth 60 fits 20000

pub GapVerb-send : IsSend GapVerb.the_field.row
GapVerb-send = search (Gap-send, bytes.the_send, crosses, sendable) depth 60 fits 20000

pub HeadVerb-send : IsSend HeadVerb.the_field.row
HeadVerb-send = search (Head-send, crosses_groups, crosses, sendable) depth 60 fits 20000

pub RegularizeVerb-send : IsSend RegularizeVerb.the_field.row
RegularizeVerb-send = search (crosses_groups, names.the_send, bytes.the_send, crosses, sendable) depth 60 fits 20000

pub RepeatVerb-send : IsSend RepeatVerb.the_field.row
RepeatVerb-send = search (Repeat-send, crosses, sendable) depth 60 fits 20000

pub ruleset crosses_state = (
  Cat-send,
  Decimate-send,
  FillDown-send,
  Gap-send,
  Head-send,
  Nothing-send,
  Repeat-send,
  CatVerb-send,
  DecimateVerb-send,
  FillDownVerb-send,
  GapVerb-send,
  HeadVerb-send,
  RegularizeVerb-send,
  RepeatVerb-send,
)
