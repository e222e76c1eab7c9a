use Rattle.std.proofs.Common.{sym}
use Rattle.mlr_record.proofs.NamedPaths.{unflat_named-plain}
use Rattle.mlr_record.proofs.record.Record.unflatten_named.Goals as goal

pub returns-else-has_named_path-clause-unflat : goal.returns-else-has_named_path-clause-unflat
returns-else-has_named_path-clause-unflat c =
    sym (unflat_named-plain c.args.separator.now c.args.names.now c.args.self.now c.has_named_path.ensures.distinct (sym c.if-has_named_path.ensures.found))
