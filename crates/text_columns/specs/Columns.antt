-- Texts in columns, and the widths of columns.
use Rattle.std.specs.Prelude.{ℕ, ◌≡◌, ◌||◌, Bool, if◌then◌else◌, List, [], ◌∷◌, ◌++◌, codes, max}
use Rattle.text_columns.specs.Pprint.{all_padded, cell_text, padded_but_last, widths_of}
use Rattle.text_columns.specs.Width.{code_points}
use Rattle.text_columns.specs.Xtab.{padded}

abbrev pub column_gap : Bool → List ℕ
column_gap barred = if barred then codes " | " else codes " "

abbrev pub in_columns : Bool → List ℕ → List (List ℕ) → List (List ℕ)
in_columns barred widths line = if barred then all_padded widths line else padded_but_last widths line

abbrev pub in_column : Bool → ℕ → List ℕ → List ℕ
in_column filled width text = if filled then padded width (cell_text text) else cell_text text

-- a cell with the spaces that fill its column and the gap after it, if there are more
abbrev pub column_text : Bool → Bool → ℕ → List ℕ → List ℕ
column_text barred more width text = in_column (barred || more) width text ++ (if more then column_gap barred else [])

-- these are the widths of the columns of a block, if it has lines
abbrev pub AreWidths : List ℕ → List (List (List ℕ)) → Type 0
AreWidths widths [] = Unit {0}
AreWidths widths (first ∷ rows) = widths ≡ widths_of first (first ∷ rows)

-- the widths with what a line shows in the columns
abbrev pub widened : List (List ℕ) → List ℕ → List ℕ
widened [] widths = widths
widened (cell ∷ line) [] = []
widened (cell ∷ line) (width ∷ widths) = max width (code_points (cell_text cell)) ∷ widened line widths
