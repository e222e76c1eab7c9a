-- The options of `rename`.
use Rattle.std.specs.Prelude.{◌≡◌, ℕ, Bool, true, false, ◌||◌, List, [], ◌∷◌, ◌++◌, codes, map, if◌then◌else◌}
use Rattle.std.specs.Arc.{arc_value}
use Rattle.std.specs.declared.sync.Arc.{Arc}
use Rattle.regex.specs.declared.bytes.regex.Regex.{Regex}
use Rattle.cli_grammar.specs.Options.{has}
use Rattle.cli_grammar.specs.declared.given.VerbWords.{VerbWords}
use Rattle.mlr_pattern.specs.declared.which.Which.{Which}
use Rattle.mlr_pattern.specs.declared.which.Which.TheVariants.{First, All}
use Rattle.verbs_fields.specs.declared.rename_names.Renaming.{Renaming}
use Rattle.verbs_pattern.specs.declared.rename.Rename.{Rename}
use Rattle.verbs_pattern.specs.declared.rename.Rename.TheVariants.{Names, Patterns}
use Rattle.cli_choices.specs.Choices.{own_word}
use Rattle.cli_verbs.specs.Compiled.{IsCompiled}
use Rattle.cli_choices.specs.Names.{all_names}
use Rattle.cli_verbs.specs.PatternWords.{PatternWord, pattern_in}

-- the renamings by these names, taken two by two; an odd last name is left out
abbrev pub renamings_of : List (List ℕ) → List Renaming
renamings_of (old ∷ new ∷ names) = record { old = old; new = new } ∷ renamings_of names
renamings_of _ = []

-- the old names as patterns
abbrev pub old_words : ℕ → List (List ℕ) → List PatternWord
old_words number (old ∷ new ∷ names) = pattern_in number false old ∷ old_words number names
old_words number _ = []

-- whether the old names are patterns
abbrev pub by_patterns : VerbWords → Bool
by_patterns given = has (codes "-r") given.options || has (codes "-g") given.options

-- which matches are replaced
abbrev pub which_of : VerbWords → Which
which_of given = if has (codes "-g") given.options then All else First

-- the names in the words of `rename`
abbrev pub rename_names : VerbWords → List (List ℕ)
rename_names given = all_names (own_word 0 given)

-- the patterns in the words of `rename`
abbrev pub rename_patterns : VerbWords → List PatternWord
rename_patterns given = if by_patterns given then old_words given.own (rename_names given) else []

-- the compiled patterns, each with the name that replaces its matches
abbrev pub compiled_rules : {Z : Type 0} → List (Arc Regex Z × List ℕ) → List (Regex × List ℕ)
compiled_rules rules = map (λ rule. (arc_value rule.0, rule.1)) rules

-- the rules are those of these names, taken two by two
abbrev pub AreRulesOf : ℕ → List (List ℕ) → List (Regex × List ℕ) → Type 0
AreRulesOf number (old ∷ new ∷ names) (rule ∷ rules) =
    IsCompiled (pattern_in number false old) rule.0 × (rule.1 ≡ new) × AreRulesOf number names rules
AreRulesOf number (old ∷ new ∷ names) [] = ⊥
AreRulesOf number _ rules = rules ≡ []

-- Rules of these names follow those before.
pub record AreMoreRules (number : ℕ) (names : List (List ℕ)) (before after : List (Regex × List ℕ)) : Type 0 where
  pub more : List (Regex × List ℕ)
  pub rules : AreRulesOf number names more
  pub appended : after ≡ before ++ more

-- A rule follows those before.
pub record IsNextRule (word : PatternWord) (new : List ℕ) (before after : List (Regex × List ℕ)) : Type 0 where
  pub pattern : Regex
  pub compiled : IsCompiled word pattern
  pub appended : after ≡ before ++ (pattern, new) ∷ []

-- the options are those that the words give
abbrev pub IsRenameOf : VerbWords → Rename → Type 0
IsRenameOf given (Names renamings) = (by_patterns given ≡ false) × (renamings.items ≡ renamings_of (rename_names given))
IsRenameOf given (Patterns options) =
    (by_patterns given ≡ true) × AreRulesOf given.own (rename_names given) (compiled_rules options.pairs.items) × (options.which ≡ which_of given)
