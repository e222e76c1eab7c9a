-- A shaping verb may be moved to another thread.
use denote.Param.Send.{IsSend, sendable}
use denote.Param.SendFields.{as_row_send, variants_send}
use Rattle.std.proofs.Crossing.{crosses}
use Rattle.verbs_base.proofs.over_events.OverEvents.TheSendSync as over_events
use Rattle.verbs_base.specs.contracts.over_events.OverEvents
use Rattle.verbs_join.proofs.Crosses.{JoinVerb-send}
use Rattle.verbs_nest.proofs.Crosses.{NestVerb-send}
use Rattle.verbs_reshape.proofs.Crosses.{ReshapeVerb-send}
use Rattle.verbs_join.specs.contracts.join_verb.JoinVerb
use Rattle.verbs_reshape.specs.contracts.reshape.ReshapeVerb
use Rattle.verbs_join_nest.specs.contracts.running.Running
use Rattle.verbs_join_nest.specs.contracts.verb.ShapeVerb

Running-row-send : IsSend Running.the_row
Running-row-send = variants_send Running.enum ((as_row_send JoinVerb.the_field JoinVerb-send, tt), ((NestVerb-send, tt), ((as_row_send ReshapeVerb.the_field ReshapeVerb-send, tt), tt)))

OverEvents-send : IsSend (OverEvents.the_field Running.the_row).row
OverEvents-send = over_events.the_field_send Running.the_row Running-row-send

pub ShapeVerb-field-send : IsSend ShapeVerb.the_field.row
ShapeVerb-field-send = search (OverEvents-send, crosses, sendable) depth 60 fits 20000
