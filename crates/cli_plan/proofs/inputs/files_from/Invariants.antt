use Rattle.std.proofs.Common.{◌≡◌, ◌≤◌, ◌++◌, drop, length}
use Rattle.std.specs.Prelude.{map, filter}
use Rattle.cli_plan.specs.Inputs.{file_of, is_from}
use Rattle.cli_plan.proofs.inputs.files_from.Given as goal

-- the files so far, and those of the flags that remain
abbrev pub invariant-loop-flag : goal.invariant-loop-flag
invariant-loop-flag l =
    (l.files ++ map file_of (filter is_from (drop l.flag-index l.flags)) ≡ map file_of (filter is_from l.flags))
    × (length l.files ≤ l.flag-index)
