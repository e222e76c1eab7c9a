use Rattle.std.proofs.Common.{◌≤◌, ◌++◌, length, ap, sym, ◌∙◌, arith}
use Rattle.std.proofs.lemmas.List.{append-nil, drop_all}
use Rattle.mlr_record.specs.Fields.{pairs_of}
use Rattle.mlr_stats.specs.Statistic.{fields_of}
use Rattle.mlr_stats.proofs.Needed.{needs-serve}
use Rattle.mlr_stats.proofs.summary.Summary.append_all.Goals as goal

pub returns : goal.returns
returns c = λ values arranges.
    let loop = c.loop-accumulator in
    let items = c.accumulators-accumulator-items.result.now in
    let all : length items ≤ loop.accumulator-index = omega (arith, c.loop-accumulator-test.false) in
    sym (append-nil (pairs_of loop.into.items))
    ∙ sym (ap (λ rest. pairs_of loop.into.items ++ fields_of rest c.args.name.now values) (drop_all loop.accumulator-index items all))
    ∙ loop.invariant values arranges (needs-serve c.args.statistics.now)
