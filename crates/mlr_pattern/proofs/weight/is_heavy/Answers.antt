use Rattle.std.proofs.Common.{◌*◌, ◌-◌, nat_le, length, get_or, take, drop, sym, ap, ◌∙◌, arith}
use Rattle.std.proofs.Math.Nat.{mul-le-mul}
use Rattle.mlr_pattern.specs.Weight.{factor, factors}
use Rattle.mlr_pattern.proofs.Weighing.{whole_of_first, heavy_already, capped, no_less_than_1, factor_no_less, at_least}
use Rattle.mlr_pattern.proofs.weight.is_heavy.Goals as goal

pub returns-then-weight-ge-HEAVY : goal.returns-then-weight-ge-HEAVY
returns-then-weight-ge-HEAVY c =
    sym (heavy_already c.loop-left.weight c.loop-left.left.now c.if-weight-ge-HEAVY.true) ∙ c.loop-left.invariant.0

pub loop-left-preserved : goal.loop-left-preserved
loop-left-preserved c =
    let left = c.loop-left.left.now in
    let w = c.loop-left.weight in
    let rest = take (length left - 1) (drop 1 left) in
    let f = factor (get_or left 0 0) rest in
    let positive = c.loop-left.invariant.1 c.in-len1-up.len_at_least in (
      ap (λ n. nat_le 1000 (w * n * factors rest)) c.factor-weight.ensures
          ∙ capped w f (factors rest) positive (no_less_than_1 rest)
          ∙ ap (λ text. nat_le 1000 (w * factors text)) (sym (whole_of_first left c.in-len1-up.len_at_least))
          ∙ c.loop-left.invariant.0,
      λ _. omega (arith, mul-le-mul positive (at_least (factor_no_less (get_or left 0 0) rest) c.factor-weight.ensures)),
    )
