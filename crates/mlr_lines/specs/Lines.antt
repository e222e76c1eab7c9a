-- The lines of a file, and those that its first bytes determine.
use Rattle.std.specs.Prelude.{ℕ, ◌-◌, ◌==◌, if◌then◌else◌, List, [], ◌∷◌, ◌++◌, map, take, drop, length, slice_index}
use Rattle.std.specs.Str.{bytes_eq}
use Rattle.mlr_spec.specs.Ascii.{line_feed, carriage_return}

-- a file without the byte order mark of UTF-8 at its start
abbrev pub without_mark : List ℕ → List ℕ
without_mark bytes = if bytes_eq (take 3 bytes) (239 ∷ 187 ∷ 191 ∷ []) then drop 3 bytes else bytes

-- the lines that end in the text, each without its LF, where `begun` precedes the first one
abbrev pub ended_after : List ℕ → List ℕ → List (List ℕ)
ended_after begun [] = []
ended_after begun (b ∷ bytes) = if b == line_feed then begun ∷ ended_after [] bytes else ended_after (begun ++ b ∷ []) bytes

-- the rest of the text after the last LF, where `begun` precedes the text
abbrev pub begun_after : List ℕ → List ℕ → List ℕ
begun_after begun [] = begun
begun_after begun (b ∷ bytes) = if b == line_feed then begun_after [] bytes else begun_after (begun ++ b ∷ []) bytes

-- the ended lines of the bytes so far, each without its LF, and the line that has begun after them
abbrev pub ended_lines : List ℕ → List (List ℕ)
ended_lines bytes = ended_after [] (without_mark bytes)

abbrev pub begun_line : List ℕ → List ℕ
begun_line bytes = begun_after [] (without_mark bytes)

-- a line without the CR at its end
abbrev pub without_return : List ℕ → List ℕ
without_return line = if slice_index line (length line - 1) == carriage_return then take (length line - 1) line else line

-- the ended lines of the bytes so far, each without its line ending (LF or CR LF)
abbrev pub fixed_lines : List ℕ → List (List ℕ)
fixed_lines bytes = map without_return (ended_lines bytes)

-- the last line of a file that doesn't end with LF; none if the rest is empty
abbrev pub last_line : List ℕ → List (List ℕ)
last_line [] = []
last_line (b ∷ line) = (b ∷ line) ∷ []

-- the lines of a whole file; a last line without LF keeps the CR at its end
abbrev pub whole_lines : List ℕ → List (List ℕ)
whole_lines bytes = fixed_lines bytes ++ last_line (begun_line bytes)
