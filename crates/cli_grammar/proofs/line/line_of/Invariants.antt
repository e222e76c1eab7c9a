use Rattle.std.proofs.Common.{◌≡◌, drop}
use Rattle.cli_grammar.specs.Reading.{line_from, line_in}
use Rattle.cli_grammar.proofs.line.line_of.Given as goal

-- the remaining words make the line
abbrev pub invariant-loop-before : goal.invariant-loop-before
invariant-loop-before l =
    line_from l.before l.flags l.verbs l.place (drop l.before l.words) ≡ line_in l.words
