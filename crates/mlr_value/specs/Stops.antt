-- Texts that contain one of a few bytes.
use Rattle.std.specs.Prelude.{ℕ, Bool, ◌==◌, List}
use Rattle.std.specs.List.{list_any}

-- whether a byte is one of the stops
abbrev pub is_stop : List ℕ → ℕ → Bool
is_stop stops b = list_any (λ stop. b == stop) stops

-- whether a text contains one of them
abbrev pub has_stop : List ℕ → List ℕ → Bool
has_stop stops text = list_any (is_stop stops) text
