-- A text split at each place of a separator.
use Rattle.std.specs.Prelude.{ℕ, zero, suc, ◌+◌, if◌then◌else◌, Bool, List, [], ◌∷◌, length, take, drop, Option, Some, None}
use Rattle.std.specs.Option.{option_map}
use Rattle.std.specs.Str.{bytes_eq}

abbrev pub begins_with : List ℕ → List ℕ → Bool
begins_with separator text = bytes_eq (take (length separator) text) separator

-- the first place at which a text continues with the separator, which isn't empty
abbrev pub place_in : List ℕ → List ℕ → Option ℕ
place_in separator [] = None
place_in separator (b ∷ text) = if begins_with separator (b ∷ text) then Some 0 else option_map (λ place. place + 1) (place_in separator text)

-- what precedes the first separator, and the parts that follow it, in at most n steps
abbrev pub parts_from : ℕ → List ℕ → List ℕ → List (List ℕ)
parts_from zero separator text = text ∷ []
parts_from (suc n) separator text = elim (place_in separator text) [
  | None ↦ text ∷ []
  | Some place ↦ take place text ∷ parts_from n separator (drop (place + length separator) text)
]

-- the parts of a text between the separators
abbrev pub split_by : List ℕ → List ℕ → List (List ℕ)
split_by separator text = parts_from (length text) separator text
