-- Lists of patterns.
use Rattle.std.specs.Prelude.{List, map}
use Rattle.std.specs.Arc.{arc_value}
use Rattle.regex.specs.Patterns.{Re}
use Rattle.regex.specs.Bytes.{regex_pattern}
use Rattle.mlr_pattern.specs.declared.patterns.Patterns.{Patterns}

-- the patterns, as compiled by `regex`
abbrev pub patterns_in : Patterns → List Re
patterns_in patterns = map (λ pattern. regex_pattern (arc_value pattern)) patterns.patterns.items
