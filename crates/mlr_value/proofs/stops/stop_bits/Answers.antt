use Rattle.std.proofs.Common.{get_or, arith}
use Rattle.std.proofs.lemmas.Simd.{zip2_splat, zip2_of_maps}
use lib.Bits.{bit_or}
use Rattle.mlr_value.proofs.Stopping.{hit, stop-mask}
use Rattle.mlr_value.proofs.stops.stop_bits.Goals as goal

pub returns : goal.returns
returns c =
    let v = c.args.lanes in
    let stops = c.args.stops in
    let long = c.fits-lanes.0 in
    stop-mask stops v _ (omega arith) long
    (zip2_of_maps bit_or _ _ v
    (zip2_of_maps bit_or _ _ v
    (zip2_of_maps bit_or _ _ v (zip2_splat hit v 16 (get_or stops 0 0) long) (zip2_splat hit v 16 (get_or stops 1 0) long))
    (zip2_splat hit v 16 (get_or stops 2 0) long))
    (zip2_splat hit v 16 (get_or stops 3 0) long))
