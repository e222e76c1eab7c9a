use Rattle.std.proofs.Common.{drop, false}
use Rattle.std.specs.Prelude.{map}
use Rattle.mlr_pattern.specs.Several.{patterns_in}
use Rattle.cli_verbs.specs.PatternWords.{pattern_in}
use Rattle.cli_verbs.proofs.Compiling.{Compiling}
use Rattle.cli_verbs.proofs.pattern.push_patterns.Given as goal

abbrev pub invariant-loop-name : goal.invariant-loop-name
invariant-loop-name l =
    Compiling (map (pattern_in l.number false) l.names) (map (pattern_in l.number false) (drop l.name-index l.names))
    (patterns_in l.initial.patterns) (patterns_in l.patterns)
