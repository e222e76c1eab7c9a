-- Marks of names, of which a number has one in each bit.
use Rattle.std.specs.Prelude.{◌≡◌, true, ℕ, ◌+◌, ◌*◌, ◌%◌, List, [], ◌∷◌, length, get_or}
use Rattle.std.specs.Int.{bit_at}
use Rattle.mlr_event.specs.Reading.{is_among}
use Rattle.mlr_fields.specs.declared.marks.NameMarks.{NameMarks}

-- the number of a name's mark: its first and its last byte and its length determine it
abbrev pub mark_of : List ℕ → ℕ
mark_of [] = 0
mark_of (b ∷ rest) = (b + 2 * get_or (b ∷ rest) (length rest) b + length rest) % 64

-- each of the names has its mark
abbrev pub AreMarked : NameMarks → List (List ℕ) → Type 0
AreMarked marks names = (name : List ℕ) → is_among names name ≡ true → bit_at marks.bits (mark_of name) ≡ 1
