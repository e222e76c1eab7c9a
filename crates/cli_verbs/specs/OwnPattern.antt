-- The pattern in the first word of a verb's own.
use Rattle.std.specs.Prelude.{Bool, false, List, [], ◌∷◌}
use Rattle.cli_grammar.specs.declared.given.VerbWords.{VerbWords}
use Rattle.cli_choices.specs.Choices.{own_word}
use Rattle.cli_verbs.specs.PatternWords.{PatternWord, pattern_in}

-- the pattern in the first word of a verb's own
abbrev pub own_pattern : Bool → VerbWords → PatternWord
own_pattern either_case given = pattern_in given.own either_case (own_word 0 given)

-- the only pattern of a verb, which doesn't ignore the case of letters by an option
abbrev pub own_patterns : VerbWords → List PatternWord
own_patterns given = own_pattern false given ∷ []
