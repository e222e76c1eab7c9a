-- Patterns in words, and which words regex refuses.
use Rattle.std.specs.Prelude.{◌≡◌, ◌⊎◌, ◌≤◌, ℕ, Bool, ◌||◌, List, [], ◌∷◌}
use Rattle.mlr_pattern.specs.Reading.{IsPatternText}
use Rattle.mlr_pattern.specs.Weight.{weight}
use Rattle.mlr_pattern.specs.Word.{shed, is_either_case}
use Rattle.mlr_event.specs.declared.refusal.Refusal.{Refusal}
use Rattle.mlr_event.specs.declared.refusal.Why.TheVariants.{BadPattern, PatternSize}

-- A pattern in a word: the number of the word, the text of the pattern, and whether it ignores the case of letters.
pub record PatternWord : Type 0 where
  pub number : ℕ
  pub text : List ℕ
  pub either_case : Bool

-- the pattern in a word, which may ignore the case of letters by an option, too
abbrev pub pattern_in : ℕ → Bool → List ℕ → PatternWord
pattern_in number either_case word = record { number = number; text = shed word; either_case = either_case || is_either_case word }

-- regex reads the word
abbrev pub IsGoodPattern : PatternWord → Type 0
IsGoodPattern word = IsPatternText word.either_case word.text

-- regex refuses the word: it reads no pattern, or one that is too large
abbrev pub IsRefusedPattern : PatternWord → Refusal → Type 0
IsRefusedPattern word refusal = (refusal.word ≡ word.number)
    × (((refusal.why ≡ BadPattern) × ¬ (IsGoodPattern word)) ⊎ ((refusal.why ≡ PatternSize) × IsGoodPattern word × (1000 ≤ weight word.text)))

-- regex reads all of these words
abbrev pub AreGoodPatterns : List PatternWord → Type 0
AreGoodPatterns [] = Unit {0}
AreGoodPatterns (word ∷ words) = IsGoodPattern word × AreGoodPatterns words

-- the first of these words that regex refuses is refused
abbrev pub IsFirstRefused : List PatternWord → Refusal → Type 0
IsFirstRefused [] refusal = ⊥
IsFirstRefused (word ∷ words) refusal = IsRefusedPattern word refusal ⊎ (IsGoodPattern word × IsFirstRefused words refusal)
