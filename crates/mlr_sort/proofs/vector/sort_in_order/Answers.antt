use Rattle.std.proofs.lemmas.List.Sorted.{ranks_by}
use Rattle.mlr_sort.proofs.InOrder.{sorted-in_order}
use Rattle.mlr_sort.proofs.vector.sort_in_order.Goals as goal

pub returns-clause-ok : goal.returns-clause-ok
returns-clause-ok g c = λ cmp total answers.
    let order = ranks_by total (λ x. x) in
    sorted-in_order cmp order c.args.items.now.items c.sort_by.new.self.items
    (c.in_ok-sort_by.ensures.sorted _ order answers) (c.sort_by.ensures.stable _ order answers)
