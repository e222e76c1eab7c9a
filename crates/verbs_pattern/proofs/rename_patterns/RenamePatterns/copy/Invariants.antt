use Rattle.std.proofs.Common.{◌≡◌, ℕ, List, map, take}
use Rattle.std.specs.Arc.{arc_value}
use Rattle.regex.specs.Patterns.{Re}
use Rattle.regex.specs.Bytes.{regex_pattern}
use Rattle.verbs_pattern.proofs.rename_patterns.RenamePatterns.copy.Given as goal

-- the rules copied so far have the same patterns and texts
abbrev pub invariant-loop-pattern : goal.invariant-loop-pattern
invariant-loop-pattern l = map {B = Re × List ℕ} (λ r. (regex_pattern (arc_value r.0), r.1)) l.pairs.items ≡ map (λ r. (regex_pattern (arc_value r.0), r.1)) (take l.pattern-index l.pattern-items)
