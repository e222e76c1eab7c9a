-- Which pieces a string that is being read holds.
use Rattle.std.specs.Prelude.{◌≡◌, ℕ, List, [], ◌∷◌, ◌++◌, Option, Some, None}
use Rattle.mlr_spec.specs.JsonTokens.{Piece, unit, decoded}
use Rattle.mlr_json.specs.declared.string.StringBuilder.{StringBuilder}

-- a unit that may be a pair with the next one
abbrev pub pending : Option ℕ → List Piece
pending None = []
pending (Some u) = unit u ∷ []

-- whatever follows these pieces, the text of all is the text so far, then that of the unit that waits and of
-- what follows
pub record Holds (builder : StringBuilder) (pieces : List Piece) : Type 0 where
  pub decodes : (rest : List Piece) → decoded (pieces ++ rest) ≡ builder.text ++ decoded (pending builder.high ++ rest)
