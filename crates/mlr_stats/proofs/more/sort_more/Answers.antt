use Rattle.std.proofs.Common.{sym, subst}
use Rattle.std.proofs.lemmas.Option.{MatchOption-at_some}
use Rattle.std.proofs.lemmas.Result.{on_ok_weaker}
use Rattle.mlr_stats.specs.Kept.{KeepsMore}
use Rattle.mlr_stats.proofs.more.sort_more.Goals as goal

pub returns-in-Some : goal.returns-in-Some
returns-in-Some c =
    on_ok_weaker c.sort.result
    (λ sorts needs values has.
    sorts needs values
    (subst (KeepsMore needs (λ values. values) values) (sym c.deref_mut.ensures.value) (MatchOption-at_some _ _ c.in-Some.more c.in-Some.is has)))
    c.sort.ensures
