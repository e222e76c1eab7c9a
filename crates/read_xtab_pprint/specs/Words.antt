-- The words of a line, one by one.
use Rattle.std.specs.Prelude.{◌≡◌, ◌<◌, ℕ, List, ◌∷◌, length}
use Rattle.read_xtab_pprint.specs.Pprint.{words_of}

-- the first word of a text, and the text after it
abbrev pub IsWordCut : List ℕ → List ℕ → List ℕ → Type 0
IsWordCut text word rest = (words_of text ≡ word ∷ words_of rest) × (length rest < length text)
