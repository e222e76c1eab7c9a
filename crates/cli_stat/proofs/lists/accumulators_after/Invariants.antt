use Rattle.std.proofs.Common.{◌≡◌, ◌++◌, drop}
use Rattle.std.specs.List.{filter_map}
use Rattle.stat_base.specs.Accumulators.{accumulator_named}
use Rattle.cli_stat.proofs.lists.accumulators_after.Given as goal

-- the accumulators of the remaining names follow those so far
abbrev pub invariant-loop-name : goal.invariant-loop-name
invariant-loop-name l = l.accumulators ++ filter_map accumulator_named (drop l.name-index l.name-items) ≡ filter_map accumulator_named l.name-items
