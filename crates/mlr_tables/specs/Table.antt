-- Tables of names.
use Rattle.std.specs.Prelude.{ℕ, suc, Bool, true, ◌&&◌, if◌then◌else◌, List, [], ◌∷◌}
use Rattle.std.specs.Cmp.Lexicographic.{slice_cmp}
use Rattle.std.specs.Ordering.{nat_cmp, is_lt}
use Rattle.std.specs.Str.{bytes_eq}
use Rattle.std.specs.Option.{option_map}
use Rattle.std.specs.declared.option.Option.{Option}
use Rattle.std.specs.declared.option.Option.TheVariants.{Some, None}

-- each name is less than the next one, byte by byte
abbrev pub is_ascending : List (List ℕ) → Bool
is_ascending [] = true
is_ascending (name ∷ []) = true
is_ascending (name ∷ next ∷ names) = is_lt (slice_cmp nat_cmp name next) && is_ascending (next ∷ names)

-- the row of a name, from 0
abbrev pub row_of : List ℕ → List (List ℕ) → Option ℕ
row_of name [] = None
row_of name (first ∷ names) = if bytes_eq first name then Some 0 else option_map suc (row_of name names)
