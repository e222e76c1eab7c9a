use Rattle.std.proofs.Common.{sym, ◌∙◌}
use Rattle.mlr_spec.proofs.Flattening.{flat-plain}
use Rattle.mlr_record.proofs.record.Record.flatten.Goals as goal

pub returns-else-is_nested-clause-flat : goal.returns-else-is_nested-clause-flat
returns-else-is_nested-clause-flat c =
    c.is_nested.ensures.same ∙ sym (flat-plain c.args.separator.now c.args.self.now c.is_nested.ensures.distinct (sym c.if-is_nested.ensures.found))
