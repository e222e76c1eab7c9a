use Rattle.std.proofs.Common.{◌≡◌, drop, map}
use Rattle.std.specs.Arc.{arc_value}
use Rattle.regex.specs.Bytes.{matcher_pattern, regex_pattern}
use Rattle.verbs_pattern.specs.Renaming.{renamed_by_each}
use Rattle.verbs_pattern.proofs.rename_patterns.rename_by_each.Given as goal

-- renaming the fields so far by the remaining rules gives what all rules give
abbrev pub invariant-loop-place : goal.invariant-loop-place
invariant-loop-place l = record {
  same : map matcher_pattern l.matchers ≡ map matcher_pattern l.fn.matchers;
  renamed :
      renamed_by_each l.which (map (λ rule. (regex_pattern (arc_value rule.0), rule.1)) (drop l.place l.rules)) l.fields
      ≡ renamed_by_each l.which (map (λ rule. (regex_pattern (arc_value rule.0), rule.1)) l.rules) l.fn.fields;
}
