-- The lines that are read off the bytes of lines are these lines.
use Rattle.std.proofs.Common.{◌≡◌, ℕ, zero, suc, ◌+◌, ◌<◌, ◌≤◌, ◌^◌, Bool, true, false, if◌then◌else◌, subst, List, [], ◌∷◌, ◌++◌, length, take, drop, refl, ap, ap₂, sym, ◌∙◌, append_assoc, arith, inl, inr}
use Rattle.std.specs.Prelude.{nat_lt}
use Rattle.std.specs.Int.{w64, to_le_bytes, from_le_bytes}
use Rattle.std.specs.List.{flat_map}
use Rattle.std.proofs.lemmas.Bool.{cases_Bool, cond-false, cond-true, le-ltb}
use Rattle.std.proofs.lemmas.Grind.{flat_map-append}
use Rattle.std.proofs.lemmas.List.{append-nil, length-append, length-drop}
use Rattle.std.proofs.lemmas.Nat.{from_le_bytes-to_le_bytes_8}
use Rattle.std.proofs.Math.Seq.{drop-append_seam, take-append_seam}
use Rattle.text_columns.specs.Chunks.{IsLine, IsLines, after_cell, after_cells, after_line, cell_code, cells, first_cell, first_length, first_line, length_code, line_code, lines_in, lines_within, long_length}

length-long : (n : ℕ) (rest : List ℕ) → n < 2 ^ 64 → long_length (to_le_bytes w64 n ++ rest) ≡ (n, rest)
length-long n rest fits =
    let bytes = to_le_bytes w64 n in
    let size : length bytes ≡ 8 = refl in
    let long : nat_lt (length (bytes ++ rest)) 8 ≡ false = le-ltb (length (bytes ++ rest)) 8 (omega (arith, size, length-append bytes rest)) in
    cond-false (nat_lt (length (bytes ++ rest)) 8) _ _ long
    ∙ ap₂ (λ (number after : List ℕ). (from_le_bytes w64 number, after)) (take-append_seam bytes rest) (drop-append_seam bytes rest)
    ∙ ap (λ (number : ℕ). (number, rest)) (from_le_bytes-to_le_bytes_8 n fits)

length-first : (n : ℕ) (rest : List ℕ) → n < 2 ^ 64 → first_length (length_code n ++ rest) ≡ (n, rest)
length-first n rest fits =
    elim (cases_Bool (nat_lt n 255)) as (λ _. first_length (length_code n ++ rest) ≡ (n, rest)) [
      | inl short ↦ ap (λ code. first_length (code ++ rest)) (cond-true (nat_lt n 255) _ _ short) ∙ cond-true (nat_lt n 255) _ _ short
      | inr long ↦ ap (λ code. first_length (code ++ rest)) (cond-false (nat_lt n 255) _ _ long) ∙ length-long n rest fits
    ]

code-some : (n : ℕ) → 1 ≤ length (length_code n)
code-some n =
    elim (cases_Bool (nat_lt n 255)) as (λ _. 1 ≤ length (length_code n)) [
      | inl short ↦ omega (arith, ap length (cond-true (nat_lt n 255) (n ∷ []) (255 ∷ to_le_bytes w64 n) short))
      | inr long ↦ omega (arith, ap length (cond-false (nat_lt n 255) (n ∷ []) (255 ∷ to_le_bytes w64 n) long))
    ]

-- a cell
module _ (text rest : List ℕ) (fits : length text < 2 ^ 64) where
  cell-parts : first_length (cell_code text ++ rest) ≡ (length text, text ++ rest)
  cell-parts = ap first_length (append_assoc (length_code (length text)) text rest) ∙ length-first (length text) (text ++ rest) fits

  cell-first : first_cell (cell_code text ++ rest) ≡ text
  cell-first = ap (λ (parts : ℕ × List ℕ). take parts.0 parts.1) cell-parts ∙ take-append_seam text rest

  cell-after : after_cell (cell_code text ++ rest) ≡ rest
  cell-after = ap (λ (parts : ℕ × List ℕ). drop parts.0 parts.1) cell-parts ∙ drop-append_seam text rest

cell-bounds : (text : List ℕ) → length text < length (cell_code text)
cell-bounds text = omega (arith, code-some (length text), length-append (length_code (length text)) text)

-- the cells of a line
cells-many : (line : List (List ℕ)) → length line ≤ length (flat_map cell_code line)
cells-many [] = omega arith
cells-many (cell ∷ line) = omega (arith, cells-many line, cell-bounds cell, length-append (cell_code cell) (flat_map cell_code line))

cells-first : (line : List (List ℕ)) (rest : List ℕ) → length (flat_map cell_code line ++ rest) < 2 ^ 64
    → (cells (length line) (flat_map cell_code line ++ rest) ≡ line) × (after_cells (length line) (flat_map cell_code line ++ rest) ≡ rest)
unfolding cells after_cells
cells-first [] rest fits = (refl, refl)
cells-first (cell ∷ line) rest fits =
    let bytes = flat_map cell_code (cell ∷ line) ++ rest in
    let more = flat_map cell_code line ++ rest in
    let is : bytes ≡ cell_code cell ++ more = append_assoc (cell_code cell) (flat_map cell_code line) rest in
    let size : length bytes ≡ length (cell_code cell) + length more = ap length is ∙ length-append (cell_code cell) more in
    let short : length cell < 2 ^ 64 = omega (arith, size, fits, cell-bounds cell) in
    let here : first_cell bytes ≡ cell = ap first_cell is ∙ cell-first cell more short in
    let after : after_cell bytes ≡ more = ap after_cell is ∙ cell-after cell more short in
    let later = cells-first line rest (omega (arith, size, fits)) in
    (ap₂ (λ (c : List ℕ) (cs : List (List ℕ)). c ∷ cs) here (ap (cells (length line)) after ∙ later.0), ap (after_cells (length line)) after ∙ later.1)

-- a line
module _ (line : List (List ℕ)) (rest : List ℕ) (fits : length (line_code line ++ rest) < 2 ^ 64) where
  line-is : line_code line ++ rest ≡ length_code (length line) ++ (flat_map cell_code line ++ rest)
  line-is = append_assoc (length_code (length line)) (flat_map cell_code line) rest

  line-size : (length line < 2 ^ 64) × (length (flat_map cell_code line ++ rest) < 2 ^ 64)
  line-size =
      let size = ap length line-is ∙ length-append (length_code (length line)) (flat_map cell_code line ++ rest) in
      let cells_size = length-append (flat_map cell_code line) rest in
      (omega (arith, fits, size, cells_size, cells-many line), omega (arith, fits, size))

  line-parts : first_length (line_code line ++ rest) ≡ (length line, flat_map cell_code line ++ rest)
  line-parts = ap first_length line-is ∙ length-first (length line) (flat_map cell_code line ++ rest) line-size.0

  line-first : first_line (line_code line ++ rest) ≡ line
  line-first = ap (λ (parts : ℕ × List ℕ). cells parts.0 parts.1) line-parts ∙ (cells-first line rest line-size.1).0

  line-after : after_line (line_code line ++ rest) ≡ rest
  line-after = ap (λ (parts : ℕ × List ℕ). after_cells parts.0 parts.1) line-parts ∙ (cells-first line rest line-size.1).1

line-some : (line : List (List ℕ)) (rest : List ℕ) → 0 < length (line_code line ++ rest)
line-some line rest =
    omega (arith, code-some (length line), length-append (length_code (length line)) (flat_map cell_code line), length-append (line_code line) rest)

pub line-bytes : (line : List (List ℕ)) → (line_code line ≡ [] → ⊥)
line-bytes line none =
    omega (arith, ap length none, code-some (length line), length-append (length_code (length line)) (flat_map cell_code line))

-- what is read is shorter
long-shorter : (bytes : List ℕ) → length (long_length bytes).1 ≤ length bytes
long-shorter bytes =
    let number = from_le_bytes w64 (take 8 bytes) in
    elim (cases_Bool (nat_lt (length bytes) 8)) as (λ _. length (long_length bytes).1 ≤ length bytes) [
      | inl few ↦ omega (arith, ap (λ (parts : ℕ × List ℕ). length parts.1) (cond-true (nat_lt (length bytes) 8) (0, []) (number, drop 8 bytes) few))
      | inr many ↦
          omega (arith, length-drop 8 bytes, ap (λ (parts : ℕ × List ℕ). length parts.1) (cond-false (nat_lt (length bytes) 8) (0, []) (number, drop 8 bytes) many))
    ]

rest-shorter : (b : ℕ) (bytes : List ℕ) → length (first_length (b ∷ bytes)).1 ≤ length bytes
rest-shorter b bytes =
    elim (cases_Bool (nat_lt b 255)) as (λ _. length (first_length (b ∷ bytes)).1 ≤ length bytes) [
      | inl short ↦ omega (arith, ap (λ (parts : ℕ × List ℕ). length parts.1) (cond-true (nat_lt b 255) (b, bytes) (long_length bytes) short))
      | inr long ↦
          omega (arith, long-shorter bytes, ap (λ (parts : ℕ × List ℕ). length parts.1) (cond-false (nat_lt b 255) (b, bytes) (long_length bytes) long))
    ]

length-shorter : (bytes : List ℕ) → length (first_length bytes).1 ≤ length bytes
length-shorter [] = omega arith
length-shorter (b ∷ bytes) = omega (arith, rest-shorter b bytes)

after_cells-shorter : (n : ℕ) (bytes : List ℕ) → length (after_cells n bytes) ≤ length bytes
unfolding after_cells
after_cells-shorter zero bytes = omega arith
after_cells-shorter (suc n) bytes =
    omega (arith, after_cells-shorter n (after_cell bytes), length-drop (first_length bytes).0 (first_length bytes).1, length-shorter bytes)

pub after-shorter : (bytes : List ℕ) → 0 < length bytes → length (after_line bytes) < length bytes
after-shorter [] some = absurd (omega (arith, some))
after-shorter (b ∷ bytes) some =
    let parts = first_length (b ∷ bytes) in
    omega (arith, after_cells-shorter parts.0 parts.1, rest-shorter b bytes)

-- lines
within-enough : (n m : ℕ) (bytes : List ℕ) → length bytes ≤ n → length bytes ≤ m → lines_within n bytes ≡ lines_within m bytes
unfolding lines_within
within-enough zero zero bytes below_n below_m = refl
within-enough zero (suc m) [] below_n below_m = refl
within-enough zero (suc m) (b ∷ bytes) below_n below_m = absurd (omega (arith, below_n))
within-enough (suc n) zero [] below_n below_m = refl
within-enough (suc n) zero (b ∷ bytes) below_n below_m = absurd (omega (arith, below_m))
within-enough (suc n) (suc m) [] below_n below_m = refl
within-enough (suc n) (suc m) (b ∷ bytes) below_n below_m =
    let rest = after_line (b ∷ bytes) in
    let shorter = after-shorter (b ∷ bytes) (omega arith) in
    ap (λ (lines : List (List (List ℕ))). first_line (b ∷ bytes) ∷ lines) (within-enough n m rest (omega (arith, shorter, below_n)) (omega (arith, shorter, below_m)))

pub lines-none : (bytes : List ℕ) → length bytes ≡ 0 → lines_in bytes ≡ []
unfolding lines_in lines_within
lines-none [] none = refl
lines-none (b ∷ bytes) none = absurd (omega (arith, none))

pub lines-empty : (bytes : List ℕ) → length bytes ≡ 0 → IsLines bytes
lines-empty [] none = sym (ap (flat_map line_code) (lines-none [] refl))
lines-empty (b ∷ bytes) none = absurd (omega (arith, none))

pub lines-step : (bytes : List ℕ) → 0 < length bytes → lines_in bytes ≡ first_line bytes ∷ lines_in (after_line bytes)
unfolding lines_in lines_within
lines-step [] some = absurd (omega (arith, some))
lines-step (b ∷ bytes) some =
    let rest = after_line (b ∷ bytes) in
    let shorter = after-shorter (b ∷ bytes) some in
    ap (λ (lines : List (List (List ℕ))). first_line (b ∷ bytes) ∷ lines) (within-enough (length bytes) (length rest) rest (omega (arith, shorter)) (omega arith))

lines-coded : (lines : List (List (List ℕ))) → length (flat_map line_code lines) < 2 ^ 64 → lines_in (flat_map line_code lines) ≡ lines
lines-coded [] fits = lines-none [] refl
lines-coded (line ∷ lines) fits =
    let more = flat_map line_code lines in
    lines-step (line_code line ++ more) (line-some line more)
    ∙ ap₂ (λ (l : List (List ℕ)) (ls : List (List (List ℕ))). l ∷ ls) (line-first line more fits)
    (ap lines_in (line-after line more fits) ∙ lines-coded lines (omega (arith, fits, length-append (line_code line) more)))

-- a line appended to lines
module _ (old line : List ℕ) (lines : IsLines old) (one : IsLine line) (fits : length (old ++ line) < 2 ^ 64) where
  pushed : old ++ line ≡ flat_map line_code (lines_in old ++ first_line line ∷ [])
  pushed =
      ap₂ (λ (a b : List ℕ). a ++ b) lines (one ∙ sym (append-nil (line_code (first_line line))))
      ∙ sym (flat_map-append line_code (lines_in old) (first_line line ∷ []))

  pub push-lines : lines_in (old ++ line) ≡ lines_in old ++ first_line line ∷ []
  push-lines = ap lines_in pushed ∙ lines-coded (lines_in old ++ first_line line ∷ []) (omega (arith, fits, ap length pushed))

  pub push-kept : IsLines (old ++ line)
  push-kept = pushed ∙ ap (flat_map line_code) (sym push-lines)

-- a line that is appended if there is room for it
pub push-within : (ok : Bool) (old line new : List ℕ) → IsLines old → IsLine line → new ≡ (if ok then old ++ line else old) → length new < 2 ^ 64
    → IsLines new × (lines_in new ≡ (if ok then lines_in old ++ first_line line ∷ [] else lines_in old))
push-within true old line new lines one is fits =
    let short : length (old ++ line) < 2 ^ 64 = omega (arith, fits, ap length is) in
    (subst IsLines (sym is) (push-kept old line lines one short), ap lines_in is ∙ push-lines old line lines one short)
push-within false old line new lines one is fits = (subst IsLines (sym is) lines, ap lines_in is)

-- one line in a chunk of its own
pub one-line : (old line new : List ℕ) → length old ≡ 0 → IsLine line → new ≡ old ++ line → length new < 2 ^ 64 → IsLines new × (lines_in new ≡ first_line line ∷ [])
one-line old line new none one is fits =
    let empty : IsLines old = lines-empty old none in
    let short : length (old ++ line) < 2 ^ 64 = omega (arith, fits, ap length is) in (
      subst IsLines (sym is) (push-kept old line empty one short),
      ap lines_in is ∙ push-lines old line empty one short ∙ ap (λ (lines : List (List (List ℕ))). lines ++ first_line line ∷ []) (lines-none old none),
    )

-- bytes that a line was written to
module _ (bytes : List ℕ) (line : List (List ℕ)) (is : bytes ≡ line_code line) (fits : length bytes < 2 ^ 64) where
  pub written-line : first_line bytes ≡ line
  written-line =
      let same : bytes ≡ line_code line ++ [] = is ∙ sym (append-nil (line_code line)) in
      ap first_line same ∙ line-first line [] (omega (arith, fits, ap length same))

  pub written-one : IsLine bytes
  written-one = is ∙ ap line_code (sym written-line)
