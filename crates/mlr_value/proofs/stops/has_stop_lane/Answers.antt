use Rattle.std.proofs.Common.{not, eqb, ap, ◌∙◌}
use Rattle.mlr_value.specs.Stops.{is_stop}
use Rattle.mlr_value.proofs.Stopping.{any-mask}
use Rattle.mlr_value.proofs.stops.has_stop_lane.Goals as goal

pub returns : goal.returns
returns c = ap (λ m. not (eqb m 0)) c.stop_bits.ensures ∙ any-mask (is_stop c.args.stops) c.args.lanes
