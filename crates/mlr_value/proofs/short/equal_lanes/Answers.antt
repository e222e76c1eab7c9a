use Rattle.std.proofs.Common.{arith}
use Rattle.mlr_value.proofs.Equal.{equal-mask}
use Rattle.mlr_value.proofs.short.equal_lanes.Goals as goal

pub returns : goal.returns
returns c n few = equal-mask c.args.one c.args.other (omega arith) (omega arith) n few
