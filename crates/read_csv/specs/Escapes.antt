-- The first byte of a text, with its escape resolved.
use Rattle.std.specs.Prelude.{◌≡◌, ℕ, ◌<◌, List, ◌∷◌, length}
use Rattle.read_csv.specs.Tsv.{unescaped}

pub record Unescapes (text : List ℕ) (byte : ℕ) (rest : List ℕ) : Type 0 where
  pub more : unescaped text ≡ byte ∷ unescaped rest
  pub shorter : length rest < length text
