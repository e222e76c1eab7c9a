-- Which bytes of a JSON string are escaped, and what an append that found no memory leaves.
use Rattle.std.specs.Prelude.{◌≡◌, ℕ, Bool, ◌||◌, ◌==◌, nat_lt, List, ◌++◌}
use Rattle.mlr_spec.specs.Ascii.{space, quote_mark, backslash}

abbrev pub is_escaped : ℕ → Bool
is_escaped b = nat_lt b space || b == quote_mark || b == backslash

-- the new text begins with the old one
abbrev pub RepresentsBefore : List ℕ → List ℕ → Type 0
RepresentsBefore old new = (more : List ℕ) × (new ≡ old ++ more)
