use Rattle.std.proofs.Common.{◌*◌, ◌<◌, arith}
use Rattle.mlr_value.proofs.short.put.Goals as goal

pub put_ends-requires : goal.put_ends-requires
put_ends-requires g c =
    let size : g.row.N * 1 < 9223372036854775808 = omega (arith, c.requires.small) in
    (size, (c.requires.fits, (c.if-len-ge16.true, omega (arith, c.requires.small, c.requires.fits))))
