use Rattle.std.proofs.Common.{◌+◌, ◌-◌, ◌*◌, arith, ap, get_or, take, drop, length, sym, ◌∙◌}
use Rattle.std.specs.Char.{is_ascii_digit}
use Rattle.std.specs.List.{take_while}
use Rattle.std.specs.Str.Parse.{digits_value_after}
use Rattle.mlr_pattern.proofs.Weighing.{large_already, ended, no_digit, more_digits, whole_of_first}
use Rattle.mlr_pattern.proofs.weight.number_at_start.Goals as goal
use Rattle.mlr_pattern.proofs.weight.number_at_start.Goals.{in_default, in-len1-up+then-number-ge-HEAVY, then-number-ge-HEAVY-via-then-number-ge-HEAVY, then-number-ge-HEAVY-via-else-number-ge-HEAVY+then-not-is_ascii_digit}

pub returns : goal.returns
returns c =
    let number = c.loop-left.number in
    let left = c.loop-left.left.now in
    c.min.ensures
    ∙ elim c.if-left-lt1.branch [
      | in_default w ↦ ended number _ left w.in_default.len_below c.loop-left.invariant.0
      | in-len1-up+then-number-ge-HEAVY w ↦ elim w.then-number-ge-HEAVY.branch [
        | then-number-ge-HEAVY-via-then-number-ge-HEAVY w' ↦ large_already number _ (take_while is_ascii_digit left) w'.if-number-ge-HEAVY.true c.loop-left.invariant.0
        | then-number-ge-HEAVY-via-else-number-ge-HEAVY+then-not-is_ascii_digit w' ↦ no_digit number _ left w.in-len1-up.len_at_least (sym w'.is_ascii_digit.ensures.value ∙ w'.if-not-is_ascii_digit.true) c.loop-left.invariant.0
      ]
    ]

pub loop-left-preserved : goal.loop-left-preserved
loop-left-preserved c =
    let number = c.loop-left.number in
    let left = c.loop-left.left.now in
    let first = get_or left 0 0 in
    let rest = take (length left - 1) (drop 1 left) in
    let is = sym c.is_ascii_digit.ensures.value ∙ c.if-not-is_ascii_digit.false in
    let range = c.if-not-is_ascii_digit.ensures.cases in (
      ap (λ d. digits_value_after 10 (number * 10 + d) (take_while is_ascii_digit rest)) c.from.ensures
          ∙ more_digits number _ first left rest (whole_of_first left c.in-len1-up.len_at_least) is range c.loop-left.invariant.0,
      omega (arith, c.if-number-ge-HEAVY.false, c.from.ensures, range),
    )
