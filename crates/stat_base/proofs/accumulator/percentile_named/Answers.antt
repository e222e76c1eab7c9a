use Rattle.std.proofs.Common.{◌≡◌, suc, ◌-◌, ap, sym, ◌∙◌, arith}
use Rattle.std.specs.List.{find, range_with_len}
use Rattle.std.specs.Option.{option_map}
use Rattle.stat_base.specs.Accumulators.{is_percentile}
use Rattle.stat_base.specs.declared.accumulator.Accumulator.TheVariants.{Percentile}
use Rattle.stat_base.proofs.Finding.{find-skips, find-stops}
use Rattle.stat_base.proofs.accumulator.percentile_named.Goals as goal

pub loop-percent-init : goal.loop-percent-init
loop-percent-init c = λ n is.
    let all : n ≡ 101 = omega (arith, is) in
    ap (λ m. find (is_percentile c.args.name.now) (range_with_len 0 m)) all

pub returns-then-is_percentile : goal.returns-then-is_percentile
returns-then-is_percentile c =
    let a = c.loop-percent.percent in
    let below = c.loop-percent-test.true in
    ap (option_map Percentile)
    (find-stops (is_percentile c.args.name.now) a (100 - a) (sym c.is_percentile.ensures ∙ c.if-is_percentile.true)
    ∙ c.loop-percent.invariant (suc (100 - a)) (omega (arith, below)))

pub loop-percent-preserved : goal.loop-percent-preserved
loop-percent-preserved c = λ n is.
    find-skips (is_percentile c.args.name.now) c.loop-percent.percent n (sym c.is_percentile.ensures ∙ c.if-is_percentile.false)
    ∙ c.loop-percent.invariant (suc n) (omega (arith, is))

pub returns : goal.returns
returns c =
    let end = c.loop-percent-test.false in
    let within = c.loop-percent.auto.percent-end in
    ap (option_map Percentile) (c.loop-percent.invariant 0 (omega (arith, end, within)))
