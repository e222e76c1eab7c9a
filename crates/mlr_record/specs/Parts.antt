-- A text cut at its first separator.
use Rattle.std.specs.Prelude.{ℕ, ◌+◌, List, [], length, take, drop, Option, Some, None}
use Rattle.std.specs.Option.{option_map}
use Rattle.mlr_spec.specs.Split.{place_in, split_by}

-- the text before the first separator: the whole text where there is none
abbrev pub first_part : List ℕ → List ℕ → List ℕ
first_part separator text = elim (place_in separator text) [
  | None ↦ text
  | Some place ↦ take place text
]

-- the text after the first separator, if there is one
abbrev pub after_first : List ℕ → List ℕ → Option (List ℕ)
after_first separator text = option_map (λ place. drop (place + length separator) text) (place_in separator text)

-- the parts of the remaining text, if there is one
abbrev pub parts_of_rest : List ℕ → Option (List ℕ) → List (List ℕ)
parts_of_rest separator None = []
parts_of_rest separator (Some rest) = split_by separator rest
