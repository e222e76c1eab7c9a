-- How the lines of a block are held as bytes, which no public clause speaks of: a line is the number of its cells and
-- then its cells, each of which is its length and its text. A number below 255 takes one byte, any other a byte 255
-- and eight more.
use Rattle.std.specs.Prelude.{ℕ, zero, suc, ◌≡◌, nat_lt, if◌then◌else◌, List, [], ◌∷◌, ◌++◌, length, take, drop}
use Rattle.std.specs.Int.{w64, from_le_bytes, to_le_bytes}
use Rattle.std.specs.List.{flat_map}

abbrev pub length_code : ℕ → List ℕ
length_code n = if nat_lt n 255 then n ∷ [] else 255 ∷ to_le_bytes w64 n

abbrev pub cell_code : List ℕ → List ℕ
cell_code text = length_code (length text) ++ text

abbrev pub line_code : List (List ℕ) → List ℕ
line_code line = length_code (length line) ++ flat_map cell_code line

-- the number that bytes begin with, and the bytes after it
abbrev pub long_length : List ℕ → ℕ × List ℕ
long_length bytes = if nat_lt (length bytes) 8 then (0, []) else (from_le_bytes w64 (take 8 bytes), drop 8 bytes)

abbrev pub first_length : List ℕ → ℕ × List ℕ
first_length [] = (0, [])
first_length (b ∷ bytes) = if nat_lt b 255 then (b, bytes) else long_length bytes

-- the text of the cell that bytes begin with, and the bytes after it
abbrev pub first_cell : List ℕ → List ℕ
first_cell bytes = take (first_length bytes).0 (first_length bytes).1

abbrev pub after_cell : List ℕ → List ℕ
after_cell bytes = drop (first_length bytes).0 (first_length bytes).1

-- so many cells
unfoldable pub cells : ℕ → List ℕ → List (List ℕ)
cells zero bytes = []
cells (suc n) bytes = first_cell bytes ∷ cells n (after_cell bytes)

unfoldable pub after_cells : ℕ → List ℕ → List ℕ
after_cells zero bytes = bytes
after_cells (suc n) bytes = after_cells n (after_cell bytes)

-- the line that bytes begin with, and the bytes after it
abbrev pub first_line : List ℕ → List (List ℕ)
first_line bytes = cells (first_length bytes).0 (first_length bytes).1

abbrev pub after_line : List ℕ → List ℕ
after_line bytes = after_cells (first_length bytes).0 (first_length bytes).1

-- at most so many lines
unfoldable pub lines_within : ℕ → List ℕ → List (List (List ℕ))
lines_within zero bytes = []
lines_within (suc n) [] = []
lines_within (suc n) (b ∷ bytes) = first_line (b ∷ bytes) ∷ lines_within n (after_line (b ∷ bytes))

-- all lines
unfoldable pub lines_in : List ℕ → List (List (List ℕ))
lines_in bytes = lines_within (length bytes) bytes

-- the bytes are one line, or lines one after another
abbrev pub IsLine : List ℕ → Type 0
IsLine bytes = bytes ≡ line_code (first_line bytes)

abbrev pub IsLines : List ℕ → Type 0
IsLines bytes = bytes ≡ flat_map line_code (lines_in bytes)

-- the rows in full chunks, and then those in the last one
abbrev pub rows_in : List (List (List (List ℕ))) → List (List (List ℕ)) → List (List (List ℕ))
rows_in full last = flat_map (λ lines. lines) full ++ last

-- the lines of a block: the line of keys, and the rows
abbrev pub block_lines : List ℕ → List (List (List ℕ)) → List (List (List ℕ))
block_lines [] rows = []
block_lines (b ∷ keys) rows = first_line (b ∷ keys) ∷ rows
