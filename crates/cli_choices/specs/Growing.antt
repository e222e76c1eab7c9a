-- A list of names that grows.
use Rattle.std.specs.Prelude.{ℕ, if◌then◌else◌, List, [], ◌∷◌, ◌++◌}
use Rattle.mlr_event.specs.Reading.{is_among}

-- the names with another, unless it is among them
abbrev pub with_new : List (List ℕ) → List ℕ → List (List ℕ)
with_new names name = if is_among names name then names else names ++ name ∷ []
