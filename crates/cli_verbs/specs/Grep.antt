-- The options of `grep`.
use Rattle.std.specs.Prelude.{◌≡◌, List, [], ◌∷◌, codes}
use Rattle.std.specs.Arc.{arc_value}
use Rattle.cli_grammar.specs.Options.{has}
use Rattle.cli_grammar.specs.declared.given.VerbWords.{VerbWords}
use Rattle.verbs_pattern.specs.declared.grep.Grep.{Grep}
use Rattle.cli_verbs.specs.Compiled.{IsCompiled}
use Rattle.cli_verbs.specs.OwnPattern.{own_pattern}
use Rattle.cli_verbs.specs.PatternWords.{PatternWord}

-- the pattern in the words of `grep`
abbrev pub grep_pattern : VerbWords → PatternWord
grep_pattern given = own_pattern (has (codes "-i") given.options) given

abbrev pub grep_patterns : VerbWords → List PatternWord
grep_patterns given = grep_pattern given ∷ []

-- The options are those that the words give.
pub record IsGrepOf (given : VerbWords) (options : Grep) : Type 0 where
  pub either_case : options.either_case ≡ has (codes "-i") given.options
  pub others : options.others ≡ has (codes "-v") given.options
  pub compiled : IsCompiled (grep_pattern given) (arc_value options.pattern)
