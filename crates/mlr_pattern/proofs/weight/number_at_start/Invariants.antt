use Rattle.std.proofs.Common.{◌≡◌, ◌<◌, length}
use Rattle.std.specs.Str.Parse.{digits_value_after}
use Rattle.std.specs.List.{take_while}
use Rattle.std.specs.Char.{is_ascii_digit}
use Rattle.mlr_pattern.specs.Weight.{number_at_start}
use Rattle.mlr_pattern.proofs.weight.number_at_start.Given as goal

abbrev pub invariant-loop-left : goal.invariant-loop-left
invariant-loop-left l =
    (digits_value_after 10 l.number (take_while is_ascii_digit l.left) ≡ number_at_start l.fn.text) × (l.number < 10000)

abbrev pub decreases-loop-left : goal.decreases-loop-left
decreases-loop-left l = length l.left
