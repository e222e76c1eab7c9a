use Rattle.mlr_value.proofs.Overlaps.{ends_cover}
use Rattle.std.proofs.Common.{arith}
use Rattle.mlr_value.proofs.short.put_ends.Goals as goal

pub returns-clause-prefix : goal.returns-clause-prefix
returns-clause-prefix g c =
    ends_cover c.args.cells.now c.put_part.new.cells c.put_part-2.new.cells c.args.text.now c.args.start g.row.W
    (omega arith) c.requires.wide c.requires.covered c.put_part.ensures.prefix c.put_part-2.ensures.prefix
