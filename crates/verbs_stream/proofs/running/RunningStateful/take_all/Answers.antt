-- The verbs whose options have a condition.
use Rattle.std.proofs.Common.{sym, subst}
use Rattle.std.specs.Result.{OnOk}
use Rattle.verbs_base.specs.Records.{rows_in}
use Rattle.verbs_base.specs.Taking.{Follows}
use Rattle.verbs_stream.specs.Running.{Represents}
use Rattle.verbs_stream.specs.declared.running.Running.TheVariants as r
use Rattle.verbs_stream.proofs.running.RunningStateful.take_all.Goals as goal

pub returns-in-Label-clause-represents : goal.returns-in-Label-clause-represents
returns-in-Label-clause-represents c =
    subst (λ k. OnOk c.take_all-in-Label.result (Follows (Represents k) (Represents (r.Label c.take_all-in-Label.new.self)) (rows_in c.args.events.now))) (sym c.in-Label.is) c.take_all-in-Label.ensures.represents

pub returns-in-Unflatten-clause-represents : goal.returns-in-Unflatten-clause-represents
returns-in-Unflatten-clause-represents c =
    subst (λ k. OnOk c.take_all-in-Unflatten.result (Follows (Represents k) (Represents (r.Unflatten c.take_all-in-Unflatten.new.self)) (rows_in c.args.events.now))) (sym c.in-Unflatten.is) c.take_all-in-Unflatten.ensures.represents
