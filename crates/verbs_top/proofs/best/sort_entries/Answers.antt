use Rattle.std.proofs.Common.{rules, ◌∙◌, ap, map}
use Rattle.std.specs.Cmp.{on_total}
use Rattle.std.proofs.lemmas.Fn.{always_returns_same}
use Rattle.std.proofs.lemmas.Result.{on_ok_weaker}
use Rattle.mlr_value.specs.Value.{tree_of}
use Rattle.verbs_top.specs.Best.{pair_of}
use Rattle.verbs_top.specs.Top.{by_top}
use Rattle.verbs_top.specs.declared.best.Entry.{Entry}
use Rattle.verbs_top.proofs.Keeping.{sorted-pairs, top-total}
use Rattle.verbs_top.proofs.best.sort_entries.Goals as goal

pub returns : goal.returns
returns c =
    let cmp = λ (entry other : Entry). by_top c.args.order (tree_of entry.value) (tree_of other.value) in
    on_ok_weaker c.sort_in_order.result
    (λ sorted. ap (map pair_of) (sorted cmp (on_total (λ (entry : Entry). tree_of entry.value) (top-total c.args.order)) (always_returns_same _ _ _ (λ a r f called. search rules))) ∙ sorted-pairs c.args.order c.args.entries.now.items)
    c.sort_in_order.ensures.ok
