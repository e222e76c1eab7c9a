use Rattle.std.proofs.Common.{sym}
use Rattle.mlr_record.proofs.Unflattening.{unflat-plain}
use Rattle.mlr_record.proofs.record.Record.unflatten.Goals as goal

pub returns-else-has_path-clause-unflat : goal.returns-else-has_path-clause-unflat
returns-else-has_path-clause-unflat c =
    sym (unflat-plain c.args.separator.now c.args.self.now c.has_path.ensures.distinct (sym c.if-has_path.ensures.found))
