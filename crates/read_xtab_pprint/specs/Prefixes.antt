-- The longest prefix of an XTAB file that ends with an empty line.
use Rattle.std.specs.Prelude.{ℕ, zero, suc, Bool, false, not, ◌&&◌, ◌==◌, if◌then◌else◌, List, [], ◌∷◌, length, take}
use Rattle.mlr_lines.specs.Lines.{begun_line, fixed_lines}
use Rattle.mlr_event.specs.declared.options.Comments.{Comments}
use Rattle.mlr_event.specs.Reading.{is_comment}
use Rattle.read_xtab_pprint.specs.Xtab.{is_gap}

-- an empty line, or a line of spaces, that isn't a comment
abbrev pub is_empty_line : Comments → List ℕ → Bool
is_empty_line comments line = not (is_comment comments line) && is_gap line

-- whether the last of these lines is such a line
abbrev pub end_empty : Comments → List (List ℕ) → Bool
end_empty comments [] = false
end_empty comments (line ∷ []) = is_empty_line comments line
end_empty comments (line ∷ next ∷ lines) = end_empty comments (next ∷ lines)

-- whether a text ends with the line ending of an empty line
abbrev pub ends_with_gap : Comments → List ℕ → Bool
ends_with_gap comments text = length (begun_line text) == 0 && end_empty comments (fixed_lines text)

-- the longest prefix of at most n bytes that ends so, or no bytes
abbrev pub gap_prefix_within : ℕ → Comments → List ℕ → List ℕ
gap_prefix_within zero comments bytes = []
gap_prefix_within (suc n) comments bytes =
    if ends_with_gap comments (take (suc n) bytes) then take (suc n) bytes else gap_prefix_within n comments bytes

-- the longest prefix that ends so, or no bytes
abbrev pub gap_prefix : Comments → List ℕ → List ℕ
gap_prefix comments bytes = gap_prefix_within (length bytes) comments bytes
