use Rattle.std.proofs.Common.{rules}
use Rattle.std.specs.Cmp.{on_total}
use Rattle.std.proofs.lemmas.Fn.{always_returns_same}
use Rattle.std.proofs.lemmas.Result.{on_ok_weaker}
use Rattle.verbs_count.specs.Frequent.{by_count}
use Rattle.verbs_count.specs.declared.group_counts.GroupCount.{GroupCount}
use Rattle.verbs_count.proofs.Sorting.{count-total}
use Rattle.verbs_count.proofs.frequent.sort_groups.Goals as goal

pub returns : goal.returns
returns c =
    let cmp = λ (state other : GroupCount). by_count c.args.least state.count other.count in
    on_ok_weaker c.sort_in_order.result
    (λ sorted. sorted cmp (on_total (λ (state : GroupCount). state.count) (count-total c.args.least)) (always_returns_same _ _ _ (λ a r f called. search rules)))
    c.sort_in_order.ensures.ok
