use Rattle.std.proofs.Common.{ap, sym, ◌∙◌, nat_lt, arith}
use lib.Count.{count_trailing_zeros}
use Rattle.mlr_value.proofs.Stopping.{before-stop}
use Rattle.mlr_value.proofs.stops.lanes_before_stop.Goals as goal

pub returns : goal.returns
returns c n few =
    before-stop c.args.stops c.args.lanes n (omega arith) few
    ∙ sym (ap (λ m. nat_lt (count_trailing_zeros 64 m) n) c.stop_bits.ensures)
