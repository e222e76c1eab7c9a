-- A string without escapes that ends within a text.
use Rattle.std.specs.Prelude.{◌≡◌, ℕ, ◌+◌, ◌≤◌, ◌==◌, Bool, false, List, [], ◌∷◌, length, drop}
use Rattle.mlr_spec.specs.Ascii.{quote_mark}
use Rattle.mlr_spec.specs.JsonTokens.{found, lexeme_inside, piece, quote}
use Rattle.mlr_spec.specs.JsonTokens as lexeme

-- the text begins with these raw bytes, `len` in number, and a closing quote
pub record IsPlain (text raw : List ℕ) (len : ℕ) : Type 0 where
  pub bytes : lexeme_inside text ≡ found (piece (lexeme.raw raw)) len
  pub closing : lexeme_inside (drop len text) ≡ found quote 1
  pub some : 1 ≤ len
  pub within : len + 1 ≤ length text

abbrev pub starts_quoted : List ℕ → Bool
starts_quoted [] = false
starts_quoted (b ∷ text) = b == quote_mark
