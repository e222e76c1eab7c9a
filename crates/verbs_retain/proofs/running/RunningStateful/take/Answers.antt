-- `sort` keeps what a record of relations says.
use Rattle.std.proofs.Common.{[], ◌∷◌, sym, subst}
use Rattle.std.specs.Result.{OnOk}
use Rattle.verbs_base.specs.Taking.{Follows}
use Rattle.verbs_retain.specs.contracts.running.RunningStateful.TheImpl as running
use Rattle.verbs_retain.specs.declared.running.Running.TheVariants as r
use Rattle.verbs_retain.proofs.running.RunningStateful.take.Goals as goal

pub returns-in-Sort-clause-represents : goal.returns-in-Sort-clause-represents
returns-in-Sort-clause-represents c =
    subst (λ k. OnOk c.take-in-Sort.result (Follows (running.ghosts.represents k) (running.ghosts.represents (r.Sort c.take-in-Sort.new.self)) ((c.args.fields, c.args.ctx) ∷ []))) (sym c.in-Sort.is) c.take-in-Sort.ensures.represents
