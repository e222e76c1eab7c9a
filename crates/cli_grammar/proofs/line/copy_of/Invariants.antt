use Rattle.std.proofs.Common.{◌≡◌, drop, ◌++◌}
use Rattle.cli_grammar.proofs.line.copy_of.Given as goal

-- the copies so far, and the names that remain
abbrev pub invariant-loop-name : goal.invariant-loop-name
invariant-loop-name l =
    l.copies ++ drop l.name-index l.names ≡ l.names
