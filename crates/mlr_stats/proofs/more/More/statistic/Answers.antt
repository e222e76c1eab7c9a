use Rattle.std.proofs.Common.{ap, map, sym, ◌∙◌}
use Rattle.std.proofs.lemmas.Result.{IfOk-weaker}
use Rattle.mlr_value.specs.Value.{tree_of}
use Rattle.mlr_stats.specs.Kept.{serves_more}
use Rattle.mlr_stats.specs.Statistic.{at_percentile, of_values}
use Rattle.mlr_stats.proofs.more.More.statistic.Goals as goal

pub returns-in-Median : goal.returns-in-Median
returns-in-Median c =
    IfOk-weaker c.percentile.result _ _
    (λ made is needs values keeps serves.
    is ∙ ap (λ items. at_percentile 50 (map tree_of items)) c.deref.ensures.value
    ∙ ap (at_percentile 50) (keeps.values (sym (ap (serves_more needs) c.in-Median.is) ∙ serves))
    ∙ sym (ap (of_values values) c.in-Median.is))
    c.percentile.ensures

pub returns-in-Percentile : goal.returns-in-Percentile
returns-in-Percentile c =
    let percent = c.in-Percentile.percent in
    IfOk-weaker c.percentile-in-Percentile.result _ _
    (λ made is needs values keeps serves.
    is ∙ ap (λ items. at_percentile percent (map tree_of items)) c.deref-in-Percentile.ensures.value
    ∙ ap (at_percentile percent) (keeps.values (sym (ap (serves_more needs) c.in-Percentile.is) ∙ serves))
    ∙ sym (ap (of_values values) c.in-Percentile.is))
    c.percentile-in-Percentile.ensures
