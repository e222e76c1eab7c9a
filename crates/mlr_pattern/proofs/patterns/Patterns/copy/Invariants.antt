use Rattle.std.proofs.Common.{◌≡◌, map, take}
use Rattle.std.specs.Arc.{arc_value}
use Rattle.regex.specs.Bytes.{regex_pattern}
use Rattle.mlr_pattern.proofs.patterns.Patterns.copy.Given as goal

-- the patterns so far are shared
abbrev pub invariant-loop-pattern : goal.invariant-loop-pattern
invariant-loop-pattern l = map (λ p. regex_pattern (arc_value p)) l.patterns.items ≡ map (λ p. regex_pattern (arc_value p)) (take l.pattern-index l.pattern-items)
