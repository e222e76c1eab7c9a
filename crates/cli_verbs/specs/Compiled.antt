-- Compiled patterns.
use Rattle.std.specs.Prelude.{◌≡◌, List, [], ◌∷◌, ◌++◌}
use Rattle.regex.specs.Bytes.{regex_config, regex_pattern, regex_source, IsReadFromSource}
use Rattle.regex.specs.Patterns.{Re}
use Rattle.regex.specs.declared.bytes.regex.Regex.{Regex}
use Rattle.mlr_pattern.specs.Reading.{options}
use Rattle.cli_verbs.specs.PatternWords.{PatternWord}

-- The pattern is compiled from the text of the word, with its options.
pub record IsCompiled (word : PatternWord) (pattern : Regex) : Type 0 where
  pub source : regex_source pattern ≡ word.text
  pub config : regex_config pattern ≡ options word.either_case
  pub read : IsReadFromSource pattern

-- The pattern, as searched for, is compiled from the word.
pub record IsCompiledTo (word : PatternWord) (re : Re) : Type 0 where
  pub pattern : Regex
  pub is_pattern : re ≡ regex_pattern pattern
  pub compiled : IsCompiled word pattern

-- the patterns are compiled from the words
abbrev pub AreCompiled : List PatternWord → List Re → Type 0
AreCompiled [] [] = Unit {0}
AreCompiled (word ∷ words) (re ∷ res) = IsCompiledTo word re × AreCompiled words res
AreCompiled _ _ = ⊥

-- Patterns that are compiled from the words follow those before.
pub record AreMoreCompiled (words : List PatternWord) (before after : List Re) : Type 0 where
  pub more : List Re
  pub compiled : AreCompiled words more
  pub appended : after ≡ before ++ more

-- The pattern that is compiled from the word follows those before.
pub record IsNextCompiled (word : PatternWord) (before after : List Re) : Type 0 where
  pub next : Re
  pub compiled : IsCompiledTo word next
  pub appended : after ≡ before ++ next ∷ []
