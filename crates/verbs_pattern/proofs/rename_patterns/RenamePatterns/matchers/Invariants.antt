use Rattle.std.proofs.Common.{◌≡◌, map, take}
use Rattle.std.specs.Arc.{arc_value}
use Rattle.regex.specs.Bytes.{matcher_pattern, regex_pattern}
use Rattle.verbs_pattern.proofs.rename_patterns.RenamePatterns.matchers.Given as goal

-- the matchers so far are of the first patterns
abbrev pub invariant-loop-place : goal.invariant-loop-place
invariant-loop-place l =
    map matcher_pattern l.matchers.items ≡ map (λ rule. regex_pattern (arc_value rule.0)) (take l.place l.rules)
