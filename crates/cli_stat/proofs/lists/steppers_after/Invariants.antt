use Rattle.std.proofs.Common.{◌≡◌, ◌++◌, drop}
use Rattle.std.specs.List.{filter_map}
use Rattle.stat_base.specs.Steppers.{stepper_named}
use Rattle.cli_stat.proofs.lists.steppers_after.Given as goal

-- the steppers of the remaining names follow those so far
abbrev pub invariant-loop-name : goal.invariant-loop-name
invariant-loop-name l = l.steppers ++ filter_map stepper_named (drop l.name-index l.name-items) ≡ filter_map stepper_named l.name-items
