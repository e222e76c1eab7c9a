use Rattle.std.proofs.Common.{rules, ◌∙◌, ap, map}
use Rattle.std.specs.Cmp.{on_total}
use Rattle.std.proofs.lemmas.Fn.{always_returns_same}
use Rattle.std.proofs.lemmas.Result.{on_ok_weaker}
use Rattle.verbs_sort.specs.Kept.{compare_values, keys_in, row_of, trees_of}
use Rattle.verbs_sort.specs.declared.sort.Entry.{Entry}
use Rattle.verbs_sort.proofs.Comparing.{values-total}
use Rattle.verbs_sort.proofs.Keeping.{sorted-entries}
use Rattle.verbs_sort.proofs.sort.sort_entries.Goals as goal

pub returns : goal.returns
returns c =
    let keys = keys_in c.args.keys.now in
    let cmp = λ (entry other : Entry). compare_values keys (trees_of entry.values) (trees_of other.values) in
    on_ok_weaker c.sort_in_order.result
    (λ sorted keyed. ap (map row_of) (sorted cmp (on_total (λ (entry : Entry). trees_of entry.values) (values-total keys)) (always_returns_same _ _ _ (λ a r f called. search rules))) ∙ sorted-entries keys c.args.entries.now.items keyed)
    c.sort_in_order.ensures.ok
