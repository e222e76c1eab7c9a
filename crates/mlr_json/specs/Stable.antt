-- What is found at the start of a text stays found when bytes follow.
use Rattle.std.specs.Prelude.{◌≡◌, ◌⊎◌, ℕ, ◌<◌, Bool, true, false, List, ◌++◌, length}
use Rattle.mlr_spec.specs.JsonTokens.{raw, unit, Lexeme, blank, mark, word, quote, piece, found, first_lexeme}

-- a lexeme that more bytes may make longer
abbrev pub is_run : Lexeme → Bool
is_run blank = true
is_run (mark m) = false
is_run (word text) = true
is_run quote = false
is_run (piece (raw text)) = true
is_run (piece (unit u)) = false

-- one that can't grow, and a run that ends before the text, are there whatever follows
abbrev pub StaysFound : Bool → List ℕ → List ℕ → Type 0
StaysFound inside text more =
    (lexeme : Lexeme) (len : ℕ) → first_lexeme inside text ≡ found lexeme len → (is_run lexeme ≡ false) ⊎ (len < length text)
    → first_lexeme inside (text ++ more) ≡ found lexeme len
