-- The weight of a pattern, which its text determines.
use Rattle.std.specs.Prelude.{ℕ, ◌*◌, max, ◌||◌, ◌==◌, List, [], ◌∷◌, length, if◌then◌else◌}
use Rattle.std.specs.Char.{is_ascii_digit}
use Rattle.std.specs.List.{take_while}
use Rattle.std.specs.Str.Parse.{digits_value}
use Rattle.mlr_spec.specs.Ascii.{comma, left_brace}

-- the decimal number at the start of a text, or 0 if it doesn't start with a digit
abbrev pub number_at_start : List ℕ → ℕ
number_at_start text = digits_value 10 (take_while is_ascii_digit text)

-- the factor of a `{` or a `,` is the number that directly follows it, or 1 if that is 0; any other byte has
-- the factor 1
abbrev pub factor : ℕ → List ℕ → ℕ
factor b following = if (b == left_brace) || (b == comma) then max 1 (number_at_start following) else 1

abbrev pub factors : List ℕ → ℕ
factors [] = 1
factors (b ∷ text) = factor b text * factors text

-- the number of bytes, multiplied by the factors of all bytes
abbrev pub weight : List ℕ → ℕ
weight text = length text * factors text
