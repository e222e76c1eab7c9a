use Rattle.std.proofs.Common.{[], sym, subst}
use Rattle.mlr_stats.specs.Kept.{KeepsMore}
use Rattle.mlr_stats.proofs.more.more_of.Goals as goal

pub returns-in_ok-new : goal.returns-in_ok-new
returns-in_ok-new c = subst (KeepsMore c.args.needs (λ values. values) []) (sym c.in_ok-new.ensures.ok) (c.new.ensures c.args.needs)
