use Rattle.std.proofs.Common.{◌+◌, suc, ap, ◌∙◌, arith}
use Rattle.std.specs.List.{fold, range_with_len}
use Rattle.mlr_stats.specs.Best.{better_place}
use Rattle.mlr_stats.proofs.text_counts.best_place.Goals as goal

pub loop-place-preserved : goal.loop-place-preserved
loop-place-preserved c = λ n is.
    ap (λ best. fold (better_place c.args.least c.args.counts.now) best (range_with_len (c.loop-place.place + 1) n)) c.better_place-best.ensures
    ∙ c.loop-place.invariant (suc n) (omega (arith, is))

pub returns : goal.returns
returns c =
    let end = c.loop-place-test.false in
    let within = c.loop-place.auto.place-end in
    c.loop-place.invariant 0 (omega (arith, end, within))
