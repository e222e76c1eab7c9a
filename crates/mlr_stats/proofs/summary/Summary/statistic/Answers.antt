use Rattle.std.proofs.Common.{sym, ◌∙◌}
use Rattle.std.proofs.lemmas.Result.{IfOk-weaker}
use Rattle.stat_base.specs.Values.{present}
use Rattle.mlr_stats.proofs.Beside.{beside}
use Rattle.mlr_stats.proofs.summary.Summary.statistic.Goals as goal

pub returns-in_default : goal.returns-in_default
returns-in_default c =
    let is = c.in_default in
    let beside = beside c.args.accumulator is.not-Count is.not-Sum is.not-Mean is.not-NullCount in
    IfOk-weaker c.more_statistic.result _ _
    (λ made gives needs values arranges serves.
    gives needs (present values) arranges.more (sym (beside.serves_is needs) ∙ serves) ∙ sym (beside.statistic_is values))
    c.more_statistic.ensures
