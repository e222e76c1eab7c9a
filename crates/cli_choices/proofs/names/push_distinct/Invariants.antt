use Rattle.std.proofs.Common.{◌≡◌, ◌++◌, drop}
use Rattle.cli_choices.specs.Names.{distinct_after}
use Rattle.cli_choices.proofs.names.push_distinct.Given as goal

-- the remaining new names follow those so far
abbrev pub invariant-loop-name : goal.invariant-loop-name
invariant-loop-name l =
    l.names ++ distinct_after l.names (drop l.name-index l.all) ≡ l.initial.names ++ distinct_after l.initial.names l.all
