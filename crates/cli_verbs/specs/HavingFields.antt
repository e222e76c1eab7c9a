-- The options of `having-fields`.
use Rattle.std.specs.Prelude.{◌≡◌, ℕ, Bool, true, false, ◌||◌, List, [], ◌∷◌, ◌++◌, codes, if◌then◌else◌}
use Rattle.std.specs.Arc.{arc_value}
use Rattle.std.specs.Str.{bytes_eq}
use Rattle.cli_grammar.specs.declared.given.Given.{Given}
use Rattle.cli_grammar.specs.declared.given.VerbWords.{VerbWords}
use Rattle.verbs_pattern.specs.declared.having_fields.HavingFields.{HavingFields}
use Rattle.verbs_pattern.specs.declared.having_fields.HavingFields.TheVariants.{AtLeast, AtMost, WhichAre, AllDefined, AnyDefined, AllMatching, AnyMatching}
use Rattle.cli_choices.specs.Choices.{argument_of, following}
use Rattle.cli_verbs.specs.Compiled.{IsCompiled}
use Rattle.cli_choices.specs.Names.{names_in}
use Rattle.cli_verbs.specs.PatternWords.{PatternWord, pattern_in}

-- whether the word after the option with this name is a pattern
abbrev pub is_pattern_option : List ℕ → Bool
is_pattern_option name = bytes_eq name (codes "--all-matching") || bytes_eq name (codes "--any-matching")

-- the pattern in the word after an option
abbrev pub pattern_given : Given → PatternWord
pattern_given given = pattern_in (following given.number) false (argument_of given)

-- the pattern of an option, if its word is one
abbrev pub patterns_given : Given → List PatternWord
patterns_given given = if is_pattern_option given.name then pattern_given given ∷ [] else []

abbrev pub patterns_among : List Given → List PatternWord
patterns_among [] = []
patterns_among (given ∷ options) = patterns_given given ++ patterns_among options

-- the patterns in the words of `having-fields`
abbrev pub having_patterns : VerbWords → List PatternWord
having_patterns given = patterns_among given.options

-- the condition of the option with this name, by names
abbrev pub having_names : List ℕ → List (List ℕ) → HavingFields
having_names name names =
    if bytes_eq name (codes "--at-most") then AtMost names else (
    if bytes_eq name (codes "--which-are") then WhichAre names else (
    if bytes_eq name (codes "--all-defined") then AllDefined names else (
    if bytes_eq name (codes "--any-defined") then AnyDefined names else AtLeast names)))

-- the condition of an option whose word is a pattern
abbrev pub IsMatchingBy : Given → HavingFields → Type 0
IsMatchingBy given (AllMatching pattern) = (bytes_eq given.name (codes "--all-matching") ≡ true) × IsCompiled (pattern_given given) (arc_value pattern)
IsMatchingBy given (AnyMatching pattern) = (bytes_eq given.name (codes "--all-matching") ≡ false) × IsCompiled (pattern_given given) (arc_value pattern)
IsMatchingBy given _ = ⊥

-- the condition of an option, by whether its word is a pattern
abbrev pub IsHavingWhere : Bool → Given → HavingFields → Type 0
IsHavingWhere true given options = IsMatchingBy given options
IsHavingWhere false given options = options ≡ having_names given.name (names_in (argument_of given))

-- the condition of an option
abbrev pub IsHavingBy : Given → HavingFields → Type 0
IsHavingBy given options = IsHavingWhere (is_pattern_option given.name) given options

-- the condition of the last of these options
abbrev pub IsHavingIn : List Given → HavingFields → Type 0
IsHavingIn [] options = options ≡ AtLeast (names_in [])
IsHavingIn (given ∷ []) options = IsHavingBy given options
IsHavingIn (given ∷ other ∷ more) options = IsHavingIn (other ∷ more) options

-- the options are those that the words give
abbrev pub IsHavingFieldsOf : VerbWords → HavingFields → Type 0
IsHavingFieldsOf given options = IsHavingIn given.options options
