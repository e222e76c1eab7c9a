-- A text in which matches of a pattern are replaced.
use Rattle.std.specs.Prelude.{ℕ, ◌-◌, ◌&&◌, ◌==◌, List, [], ◌∷◌, ◌++◌, take, if◌then◌else◌}
use Rattle.std.specs.Char.{is_ascii_digit}
use Rattle.mlr_spec.specs.Ascii.{digit_zero, backslash}
use Rattle.regex.specs.Patterns.{Re, Match, find_all}
use Rattle.regex.specs.Replace.{group_bytes, replaced_by}
use Rattle.mlr_pattern.specs.declared.which.Which.{Which}
use Rattle.mlr_pattern.specs.declared.which.Which.TheVariants.{First, All}

-- The replacement of a match: a backslash and a digit are replaced by the text of the group of this number,
-- and any other byte is itself.
abbrev pub filled : (ℕ → List ℕ) → List ℕ → List ℕ
filled group [] = []
filled group (b ∷ []) = b ∷ []
filled group (b ∷ d ∷ by) =
    if (b == backslash) && is_ascii_digit d then group (d - digit_zero) ++ filled group by
    else b ∷ filled group (d ∷ by)

-- The matches that are replaced: the first or all of those that `regex` finds in a text, from left to right.
abbrev pub matches_of : Which → Re → List ℕ → List Match
matches_of First re text = take 1 (find_all re text)
matches_of All re text = find_all re text

-- The text with each of these matches replaced. Group 0 is the whole match, and a group that isn't part of
-- the match has the empty text.
abbrev pub replaced : List ℕ → List ℕ → List Match → List ℕ
replaced text by matches = replaced_by (λ m. filled (group_bytes text m) by) text 0 matches
