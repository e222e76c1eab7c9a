-- Texts that match a pattern.
use Rattle.std.specs.Prelude.{ℕ, Bool, List, is_some}
use Rattle.std.specs.List.{list_any}
use Rattle.regex.specs.Patterns.{Re, find}

-- whether the pattern matches somewhere in the text
abbrev pub has_match : Re → List ℕ → Bool
has_match re text = is_some (find re text 0)

-- whether one of the patterns matches somewhere in the text
abbrev pub any_matches : List Re → List ℕ → Bool
any_matches patterns text = list_any (λ re. has_match re text) patterns
