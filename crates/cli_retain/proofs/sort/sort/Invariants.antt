use Rattle.std.proofs.Common.{◌≡◌, ◌++◌, drop}
use Rattle.std.specs.List.{filter_map}
use Rattle.cli_retain.specs.Sort.{flag_of}
use Rattle.cli_retain.proofs.sort.sort.Given as goal

-- the flags of the remaining options follow those so far
abbrev pub invariant-loop-option : goal.invariant-loop-option
invariant-loop-option l = l.flags ++ filter_map flag_of (drop l.option-index l.given.options) ≡ filter_map flag_of l.given.options
