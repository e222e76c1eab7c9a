use Rattle.std.proofs.Common.{arith}
use Rattle.read_csv.proofs.Separating.{none-among, some-among}
use Rattle.read_csv.proofs.separators.place_among.Goals as goal

pub returns-then-found-eq0 : goal.returns-then-found-eq0
returns-then-found-eq0 c = none-among c.args.byte c.args.lanes c.args.skipped c.fits-lanes.0 c.if-found-eq0.true

pub returns : goal.returns
returns c = some-among c.args.byte c.args.lanes c.args.skipped c.fits-lanes.0 (omega (arith, c.if-found-eq0.false))
