-- The pattern in a word of a command line.
use Rattle.std.specs.Prelude.{ℕ, ◌-◌, Bool, ◌&&◌, ◌==◌, nat_le, List, length, if◌then◌else◌, slice_index, slice_range}
use Rattle.mlr_spec.specs.Ascii.{quote_mark}

-- the word is `"..."`
abbrev pub is_quoted : List ℕ → Bool
is_quoted word = nat_le 2 (length word) && (slice_index word 0 == quote_mark) && (slice_index word (length word - 1) == quote_mark)

-- the word is `"..."i`, which ignores the case of letters
abbrev pub is_either_case : List ℕ → Bool
is_either_case word =
    nat_le 3 (length word) && (slice_index word 0 == quote_mark) && (slice_index word (length word - 2) == quote_mark)
    && (slice_index word (length word - 1) == 105)

-- the text of the pattern: the text between the quotes, or else the whole word
abbrev pub shed : List ℕ → List ℕ
shed word =
    if is_quoted word then slice_range word 1 (length word - 1)
    else if is_either_case word then slice_range word 1 (length word - 2)
    else word
