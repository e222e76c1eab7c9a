-- Fractions read byte by byte, and the bytes that a number begins with.
use Rattle.std.specs.Prelude.{ℕ, Bool, true, false, not, ◌&&◌, ◌||◌, ◌==◌, nat_lt, if◌then◌else◌, List, [], ◌∷◌}
use Rattle.mlr_spec.specs.Ascii.{dot}
use Rattle.mlr_spec.specs.Infer.{digit, are_digits, unsigned, is_e}

-- whether a text continues as a fraction, where digits and a point were read before it or weren't
abbrev pub fraction_from : Bool → Bool → List ℕ → Bool
fraction_from digits point [] = digits
fraction_from digits point (b ∷ text) =
    if is_e b then digits && are_digits 10 (unsigned text) else (
    if b == dot then not point && fraction_from digits true text else (
    nat_lt (digit b) 10 && fraction_from true point text))

-- a first byte that a number without its sign may have: a decimal digit or a point
abbrev pub may_be_number : List ℕ → Bool
may_be_number [] = false
may_be_number (b ∷ text) = nat_lt (digit b) 10 || b == dot
