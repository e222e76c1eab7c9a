-- The options of `reshape`.
use Rattle.std.specs.Prelude.{◌≡◌, ℕ, true, false, List, [], ◌∷◌, codes}
use Rattle.cli_grammar.specs.Options.{has}
use Rattle.cli_grammar.specs.declared.given.VerbWords.{VerbWords}
use Rattle.mlr_pattern.specs.Several.{patterns_in}
use Rattle.verbs_reshape.specs.declared.reshape.Reshape.{Reshape}
use Rattle.verbs_reshape.specs.declared.reshape.Reshape.TheVariants.{Long, Wide}
use Rattle.verbs_reshape.specs.declared.to_long.LongFields.{LongFields}
use Rattle.verbs_reshape.specs.declared.to_long.LongFields.TheVariants.{Names, Patterns}
use Rattle.cli_choices.specs.Choices.{names_after, word_or}
use Rattle.cli_choices.specs.Names.{all_names}
use Rattle.cli_verbs.specs.Compiled.{AreCompiled}
use Rattle.cli_verbs.specs.PatternOption.{last_patterns}

-- the first two names, of which one that is missing is empty
abbrev pub first_two : List (List ℕ) → List ℕ × List ℕ
first_two [] = ([], [])
first_two (key ∷ []) = (key, [])
first_two (key ∷ value ∷ names) = (key, value)

-- the two names in a word
abbrev pub two_names : List ℕ → List ℕ × List ℕ
two_names word = first_two (all_names word)

-- the fields that are made long are those that the words give
abbrev pub AreLongFieldsOf : VerbWords → LongFields → Type 0
AreLongFieldsOf given (Names names) = (has (codes "-r") given.options ≡ false) × (names ≡ names_after (codes "-i") given.options)
AreLongFieldsOf given (Patterns patterns) = (has (codes "-r") given.options ≡ true) × AreCompiled (last_patterns [] given.options) (patterns_in patterns)

-- the direction and its names are those that the words give
abbrev pub IsReshapeOf : VerbWords → Reshape → Type 0
IsReshapeOf given (Long options) =
    (has (codes "-s") given.options ≡ false) × AreLongFieldsOf given options.fields × ((options.key, options.value) ≡ two_names (word_or [] (codes "-o") given.options))
IsReshapeOf given (Wide options) = (has (codes "-s") given.options ≡ true) × ((options.key, options.value) ≡ two_names (word_or [] (codes "-s") given.options))
