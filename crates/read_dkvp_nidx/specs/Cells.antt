-- The cells of a line of a Markdown table, found bar by bar.
use Rattle.std.specs.Prelude.{◌≡◌, ℕ, ◌+◌, ◌<◌, ◌==◌, Bool, false, not, ◌&&◌, if◌then◌else◌, List, [], ◌∷◌, ◌++◌, length, Option, Some, None}
use Rattle.mlr_spec.specs.Ascii.{backslash, vertical_bar}
use Rattle.read_dkvp_nidx.specs.Markdown.{bar_parts, cells_after, closed}

-- the place of the first bar that no backslash precedes, where p is the place of the text and `last` the byte
-- before it
abbrev pub bar_from : ℕ → ℕ → List ℕ → Option ℕ
bar_from p last [] = None
bar_from p last (b ∷ text) = if b == vertical_bar && not (last == backslash) then Some p else bar_from (p + 1) b text

-- a text after a bar, which is cut at its first bar that isn't escaped
abbrev pub IsBarCut : List ℕ → List ℕ → List ℕ → Type 0
IsBarCut text part rest = (bar_parts vertical_bar text ≡ part ∷ bar_parts vertical_bar rest) × (length part + length rest < length text)

abbrev pub HasNoBar : List ℕ → Type 0
HasNoBar text = bar_parts vertical_bar text ≡ text ∷ []

-- the cells of the prefix, then these cells; None if these are None
abbrev pub with_prefix : List (List ℕ) → Option (List (List ℕ)) → Option (List (List ℕ))
with_prefix prefix None = None
with_prefix prefix (Some cells) = Some (prefix ++ cells)

-- the cells of a line: those found so far, and those of the remaining parts
abbrev pub cells_with : List (List ℕ) → List (List ℕ) → Option (List (List ℕ))
cells_with [] parts = cells_after parts
cells_with (cell ∷ cells) parts = with_prefix (cell ∷ cells) (closed parts)

-- whether the byte is a backslash that escapes a bar
abbrev pub is_escape : ℕ → List ℕ → Bool
is_escape b [] = false
is_escape b (c ∷ text) = b == backslash && c == vertical_bar
