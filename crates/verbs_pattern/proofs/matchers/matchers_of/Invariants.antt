use Rattle.std.proofs.Common.{◌≡◌, map, take}
use Rattle.std.specs.Arc.{arc_value}
use Rattle.regex.specs.Bytes.{regex_pattern, matcher_pattern}
use Rattle.verbs_pattern.proofs.matchers.matchers_of.Given as goal

abbrev pub invariant-loop-place : goal.invariant-loop-place
invariant-loop-place l = map matcher_pattern l.matchers.items ≡ map (λ pattern. regex_pattern (arc_value pattern)) (take l.place l.patterns)
