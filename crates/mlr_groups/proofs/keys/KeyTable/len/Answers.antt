use Rattle.std.proofs.Common.{◌≡◌, true, subst}
use Rattle.mlr_spec.specs.Pairs.{are_distinct}
use Rattle.mlr_groups.proofs.Tables.{texts-distinct}
use Rattle.mlr_groups.proofs.keys.KeyTable.len.Goals as goal

pub returns-clause-distinct : goal.returns-clause-distinct
returns-clause-distinct c = subst (λ texts. are_distinct texts ≡ true) c.self.view_is (texts-distinct c.self.inside.keys.keys c.len.ensures.unique)
