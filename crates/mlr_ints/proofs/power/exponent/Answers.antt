use Rattle.std.proofs.Common.{arith}
use Rattle.mlr_ints.proofs.Powers.{same_power}
use Rattle.mlr_ints.proofs.power.exponent.Goals as goal

pub returns-else-n-le65 : goal.returns-else-n-le65
returns-else-n-le65 c = λ x. same_power x _ c.args.n (omega arith) (omega arith) (omega arith)
