-- The longest prefix of a text that ends with LF.
use Rattle.std.specs.Prelude.{ℕ, ◌==◌, Bool, if◌then◌else◌, List, [], ◌∷◌}
use Rattle.std.specs.List.{list_any}
use Rattle.mlr_spec.specs.Ascii.{line_feed}

-- whether a text contains an LF
abbrev pub has_end : List ℕ → Bool
has_end bytes = list_any (λ b. b == line_feed) bytes

-- the bytes up to the last LF
abbrev pub ended_prefix : List ℕ → List ℕ
ended_prefix [] = []
ended_prefix (b ∷ bytes) = if has_end (b ∷ bytes) then b ∷ ended_prefix bytes else []
