-- The rules of `rename -r` and `rename -g`.
use Rattle.std.specs.Prelude.{ℕ, List, map}
use Rattle.std.specs.Arc.{arc_value}
use Rattle.regex.specs.Patterns.{Re}
use Rattle.regex.specs.Bytes.{regex_pattern}
use Rattle.verbs_pattern.specs.declared.rename_patterns.RenamePatterns.{RenamePatterns}

-- the patterns, as compiled by `regex`, each with its replacement
abbrev pub rules_in : RenamePatterns → List (Re × List ℕ)
rules_in options = map (λ rule. (regex_pattern (arc_value rule.0), rule.1)) options.pairs.items

-- the patterns alone
abbrev pub patterns_of : RenamePatterns → List Re
patterns_of options = map (λ rule. regex_pattern (arc_value rule.0)) options.pairs.items
