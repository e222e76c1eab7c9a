-- The verb `step`, and its options, may be moved to another thread.
use denote.Param.Send.{IsSend, sendable}
use Rattle.std.proofs.Crossing.{crosses}
use Rattle.mlr_value.proofs.bytes.Bytes.TheSendSync as bytes
use Rattle.mlr_value.proofs.Crosses.{crosses_value}
use Rattle.mlr_event.proofs.field_names.Names.TheSendSync as names
use Rattle.mlr_list.proofs.List.TheSendSync as list
use Rattle.mlr_groups.proofs.Crosses.{crosses_groups}
use Rattle.verbs_step.specs.contracts.step.Step
use Rattle.verbs_step.specs.contracts.step.StepVerb
use Rattle.verbs_step.specs.contracts.track.Track

-- the options
pub Step-send : IsSend Step.the_field.row
Step-send = search (names.the_send, list.the_send, crosses, sendable) depth 60 fits 20000

-- the verb
Track-send : IsSend Track.the_row
Track-send = search (crosses_value, crosses, sendable) depth 60 fits 20000

pub StepVerb-send : IsSend StepVerb.the_field.row
StepVerb-send = search (Step-send, Track-send, crosses_groups, crosses_value, bytes.the_send, crosses, sendable) depth 60 fits 20000

pub ruleset crosses_step = (Step-send, StepVerb-send)
