use Rattle.mlr_sort.proofs.InOrder.{is-in_order, one-in_order}
use Rattle.mlr_sort.proofs.laws.order_laws.Goals as goal

pub returns-clause-is : goal.returns-clause-is
returns-clause-is g c = λ cmp xs total. is-in_order cmp xs total

pub returns-clause-one : goal.returns-clause-one
returns-clause-one g c = λ cmp xs ys total is. one-in_order cmp xs ys total is
