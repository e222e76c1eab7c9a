-- The cells of a line of PPRINT, one by one.
use Rattle.std.specs.Prelude.{◌≡◌, ◌<◌, ◌==◌, if◌then◌else◌, ℕ, Bool, true, false, List, [], ◌∷◌, length, Some}
use Rattle.mlr_spec.specs.Ascii.{vertical_bar}
use Rattle.read_xtab_pprint.specs.Pprint.{cells_of, is_bar, words_of}

abbrev pub is_barred : List ℕ → Bool
is_barred [] = false
is_barred (b ∷ line) = b == vertical_bar

-- the second, fourth, sixth word and so on
abbrev pub second_words : List (List ℕ) → List (List ℕ)
second_words [] = []
second_words (bar ∷ []) = []
second_words (bar ∷ cell ∷ words) = cell ∷ second_words words

-- the cells among these words: each second word of a line with bars, else each word
abbrev pub cells_left : Bool → List (List ℕ) → List (List ℕ)
cells_left true words = second_words words
cells_left false words = words

-- the cells of a line
abbrev pub cells_in : List ℕ → List (List ℕ)
cells_in line = cells_left (is_barred line) (words_of line)

-- whether bars and words alternate, from the first bar to the last
abbrev pub takes_turns : List (List ℕ) → Bool
takes_turns [] = false
takes_turns (bar ∷ []) = is_bar bar
takes_turns (bar ∷ cell ∷ words) = if is_bar bar then takes_turns words else false

-- the first cell of a text, and the text after it
abbrev pub IsCellCut : Bool → List ℕ → List ℕ → List ℕ → Type 0
IsCellCut barred text cell rest = (cells_left barred (words_of text) ≡ cell ∷ cells_left barred (words_of rest)) × (length rest < length text)

-- a line of cells has this number of cells
abbrev pub IsCount : List ℕ → ℕ → Type 0
IsCount line count = (cells_of line ≡ Some (cells_in line)) × (count ≡ length (cells_in line))
