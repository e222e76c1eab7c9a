-- The options of `cut`.
use Rattle.std.specs.Prelude.{◌≡◌, true, false, List, [], map, codes, if◌then◌else◌}
use Rattle.cli_grammar.specs.Options.{has}
use Rattle.cli_grammar.specs.declared.given.VerbWords.{VerbWords}
use Rattle.mlr_pattern.specs.Several.{patterns_in}
use Rattle.verbs_pattern.specs.declared.cut.Cut.{Cut}
use Rattle.verbs_pattern.specs.declared.cut.CutFields.{CutFields}
use Rattle.verbs_pattern.specs.declared.cut.CutFields.TheVariants.{Names, Patterns}
use Rattle.cli_choices.specs.Choices.{names_after, number_after}
use Rattle.cli_verbs.specs.Compiled.{AreCompiled}
use Rattle.cli_verbs.specs.PatternWords.{PatternWord, pattern_in}

-- the names after `-f` as patterns
abbrev pub name_patterns : VerbWords → List PatternWord
name_patterns given = map (pattern_in (number_after (codes "-f") given.options) false) (names_after (codes "-f") given.options)

-- the patterns in the words of `cut`
abbrev pub cut_patterns : VerbWords → List PatternWord
cut_patterns given = if has (codes "-r") given.options then name_patterns given else []

-- the fields are those that the words give
abbrev pub AreCutFieldsOf : VerbWords → CutFields → Type 0
AreCutFieldsOf given (Names names) = (has (codes "-r") given.options ≡ false) × (names ≡ names_after (codes "-f") given.options)
AreCutFieldsOf given (Patterns patterns) = (has (codes "-r") given.options ≡ true) × AreCompiled (name_patterns given) (patterns_in patterns)

-- The options are those that the words give.
pub record IsCutOf (given : VerbWords) (options : Cut) : Type 0 where
  pub fields : AreCutFieldsOf given options.fields
  pub ordered : options.ordered ≡ has (codes "-o") given.options
  pub complement : options.complement ≡ has (codes "-x") given.options
