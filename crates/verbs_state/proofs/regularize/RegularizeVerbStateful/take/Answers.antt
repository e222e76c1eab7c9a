use Rattle.std.proofs.Common.{sym, subst}
use Rattle.verbs_base.specs.Records.{records}
use Rattle.verbs_state.specs.Regularize.{KeepsFirsts}
use Rattle.verbs_state.proofs.Rows.{on-ok, records-push}
use Rattle.verbs_state.proofs.regularize.RegularizeVerbStateful.take.Goals as goal

pub returns-clause-represents : goal.returns-clause-represents
returns-clause-represents c =
    on-ok c.push.result (record {
      follows = λ before keeps.
          subst (KeepsFirsts c.regular.new.sets c.regular.new.orders.items) (sym (records-push before c.args.fields c.args.ctx)) (c.in_ok-made.ensures.keeps (records before) keeps);
    })
