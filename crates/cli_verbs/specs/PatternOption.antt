-- The patterns of a verb whose option `-r` has names that are patterns.
use Rattle.std.specs.Prelude.{false, List, [], ◌∷◌, ◌++◌, map, codes, if◌then◌else◌}
use Rattle.std.specs.Str.{bytes_eq}
use Rattle.cli_grammar.specs.declared.given.Given.{Given}
use Rattle.cli_grammar.specs.declared.given.VerbWords.{VerbWords}
use Rattle.cli_choices.specs.Choices.{argument_of, following}
use Rattle.cli_choices.specs.Names.{names_in}
use Rattle.cli_verbs.specs.PatternWords.{PatternWord, pattern_in}

-- the names after `-r` as patterns
abbrev pub named_patterns : Given → List PatternWord
named_patterns given = map (pattern_in (following given.number) false) (names_in (argument_of given))

-- the patterns of an option, if its names are some
abbrev pub patterns_given : Given → List PatternWord
patterns_given given = if bytes_eq given.name (codes "-r") then named_patterns given else []

abbrev pub patterns_among : List Given → List PatternWord
patterns_among [] = []
patterns_among (given ∷ options) = patterns_given given ++ patterns_among options

-- the patterns in the words of a verb
abbrev pub option_patterns : VerbWords → List PatternWord
option_patterns given = patterns_among given.options

-- the patterns of an option, or else those before
abbrev pub later_patterns : List PatternWord → Given → List PatternWord
later_patterns before given = if bytes_eq given.name (codes "-r") then named_patterns given else before

-- the patterns of the last `-r`
abbrev pub last_patterns : List PatternWord → List Given → List PatternWord
last_patterns before [] = before
last_patterns before (given ∷ options) = last_patterns (later_patterns before given) options
