-- `sort` keeps what a record of relations says.
use Rattle.std.proofs.Common.{sym, subst}
use Rattle.std.specs.Result.{OnOk}
use Rattle.verbs_base.specs.Records.{rows_in}
use Rattle.verbs_base.specs.Taking.{Follows}
use Rattle.verbs_retain.specs.contracts.running.RunningStateful.TheImpl as running
use Rattle.verbs_retain.specs.declared.running.Running.TheVariants as r
use Rattle.verbs_retain.proofs.running.RunningStateful.take_all.Goals as goal

pub returns-in-Sort-clause-represents : goal.returns-in-Sort-clause-represents
returns-in-Sort-clause-represents c =
    subst (λ k. OnOk c.take_all-in-Sort.result (Follows (running.ghosts.represents k) (running.ghosts.represents (r.Sort c.take_all-in-Sort.new.self)) (rows_in c.args.events.now))) (sym c.in-Sort.is) c.take_all-in-Sort.ensures.represents
