-- The pieces of a value's text, and the fields that are made of them.
use Rattle.std.specs.Prelude.{ℕ, ◌+◌, List, [], ◌∷◌, length, take, drop, Option, Some, None}
use Rattle.std.specs.Option.{option_map}
use Rattle.mlr_spec.specs.JsonGrammar.{text_value}
use Rattle.mlr_spec.specs.Split.{place_in, split_by}
use Rattle.mlr_spec.specs.Tree.{Tree}
use Rattle.mlr_event.specs.Reading.{suffixed}
use Rattle.verbs_base.specs.Records.{Fields}

-- what precedes and what follows the first separator; no text has an empty separator
abbrev pub split_once : List ℕ → List ℕ → Option (List ℕ × List ℕ)
split_once [] text = None
split_once (b ∷ separator) text = option_map (λ place. (take place text, drop (place + length (b ∷ separator)) text)) (place_in (b ∷ separator) text)

-- the pieces between the separators; an empty separator leaves the text whole
abbrev pub pieces_of : List ℕ → List ℕ → List (List ℕ)
pieces_of [] text = text ∷ []
pieces_of (b ∷ separator) text = split_by (b ∷ separator) text

-- the pair of a piece: what precedes and what follows the first separator; a piece without one keeps the field's name
abbrev pub pair_of_piece : List ℕ → List ℕ → List ℕ → List ℕ × Tree
pair_of_piece name separator piece = elim (split_once separator piece) [
  | Some parts ↦ (parts.0, text_value parts.1)
  | None ↦ (name, text_value piece)
]

-- the pieces as the fields `x_1`, `x_2` and so on, from a number on
abbrev pub numbered : List ℕ → ℕ → List (List ℕ) → Fields
numbered name number [] = []
numbered name number (piece ∷ pieces) = (suffixed name number, text_value piece) ∷ numbered name (number + 1) pieces
