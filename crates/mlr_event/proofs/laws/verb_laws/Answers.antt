use Rattle.mlr_event.proofs.Making.{made-grows, made-more, made-quiet}
use Rattle.mlr_event.proofs.Ordered.{made-list}
use Rattle.mlr_event.proofs.laws.verb_laws.Goals as goal

pub returns-clause-growth : goal.returns-clause-growth
returns-clause-growth c = made-grows

pub returns-clause-one_more : goal.returns-clause-one_more
returns-clause-one_more c = made-more

pub returns-clause-quiet : goal.returns-clause-quiet
returns-clause-quiet c verb events e quiet none = made-quiet verb quiet none events e

pub returns-clause-order : goal.returns-clause-order
returns-clause-order c verb events order list = made-list verb order events list
