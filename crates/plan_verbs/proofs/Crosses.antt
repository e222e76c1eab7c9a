-- A verb of a plan may go into a thread.
use denote.Param.Send.{IsSend}
use denote.Param.SendFields.{as_row_send}
use Rattle.verbs_join_nest.proofs.Crosses.{ShapeVerb-field-send}
use Rattle.verbs_join_nest.specs.contracts.verb.ShapeVerb
use Rattle.verbs_retain.proofs.Crosses.{RetainVerb-field-send}
use Rattle.verbs_retain.specs.contracts.verb.RetainVerb
use Rattle.verbs_stat.proofs.Crosses.{StatVerb-field-send}
use Rattle.verbs_stat.specs.contracts.verb.StatVerb
use Rattle.verbs_stream.proofs.Crosses.{StreamVerb-send}
use Rattle.verbs_stream.specs.contracts.verb.StreamVerb
use Rattle.plan_verbs.proofs.one_of.OneOf.TheSendSync as one_of
use Rattle.plan_verbs.specs.contracts.one_of.OneOf

pub Verb-send : IsSend (OneOf.the_row StreamVerb.the_row RetainVerb.the_row ShapeVerb.the_row StatVerb.the_row)
Verb-send =
    one_of.the_send StreamVerb.the_row RetainVerb.the_row ShapeVerb.the_row StatVerb.the_row
    StreamVerb-send
    (as_row_send RetainVerb.the_field RetainVerb-field-send)
    (as_row_send ShapeVerb.the_field ShapeVerb-field-send)
    (as_row_send StatVerb.the_field StatVerb-field-send)
