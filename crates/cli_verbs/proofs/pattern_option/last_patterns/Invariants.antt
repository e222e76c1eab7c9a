use Rattle.std.proofs.Common.{◌≡◌, List, [], drop}
use Rattle.mlr_pattern.specs.Several.{patterns_in}
use Rattle.cli_verbs.specs.Compiled.{AreCompiled}
use Rattle.cli_verbs.specs.PatternOption.{last_patterns, patterns_among}
use Rattle.cli_verbs.specs.PatternWords.{PatternWord}
use Rattle.cli_verbs.proofs.Passing.{Passing}
use Rattle.cli_verbs.proofs.pattern_option.last_patterns.Given as goal

-- the patterns are those of the last `-r` so far
abbrev pub invariant-loop-given : goal.invariant-loop-given
invariant-loop-given l = record {
  last : (words : List PatternWord) × (AreCompiled words (patterns_in l.patterns) × (last_patterns words (drop l.given-index l.options) ≡ last_patterns [] l.options));
  passing : Passing (patterns_among l.options) (patterns_among (drop l.given-index l.options));
}
