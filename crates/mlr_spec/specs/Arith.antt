-- What arithmetic gives: five rules, of which the first that fits decides, and a table over unbounded whole numbers.
use Rattle.std.specs.Prelude.{ℕ, ◌/◌, ◌^◌, Bool, not, ◌||◌, nat_lt, ◌==◌, if◌then◌else◌, [], ℤ, pos, negsuc, ◌+ℤ◌, ◌-ℤ◌, ◌*ℤ◌, neg_ℤ, unsigned_abs}
use Rattle.std.specs.Int.{w64, int_div_euclid, int_rem_euclid, int_pow, int_wrap, int_bit_and, int_bit_or, int_bit_xor, int_bit_not, int_shl, int_shr, cast_signed, cast_unsigned}
use Rattle.std.specs.declared.option.Option.{Option}
use Rattle.std.specs.declared.option.Option.TheVariants.{Some, None}
use Rattle.mlr_spec.specs.declared.arith.Op.{Op}
use Rattle.mlr_spec.specs.declared.arith.Op.TheVariants.{Plus, Minus, Times, DotPlus, DotMinus, DotTimes, Divide, IntDivide, Mod, Power, BitAnd, BitOr, BitXor, ShiftLeft, ShiftRight, ShiftRightZero}
use Rattle.mlr_spec.specs.declared.arith.Op1.{Op1}
use Rattle.mlr_spec.specs.declared.arith.Op1.TheVariants.{Neg, Pos, BitNot}
use Rattle.mlr_spec.specs.Tree.{Tree, absent, empty, int, error, is_absent, is_empty, is_number}

-- in -2^63 .. 2^63 - 1
abbrev pub fits : ℤ → Bool
fits (pos n) = nat_lt n (2 ^ 63)
fits (negsuc n) = nat_lt n (2 ^ 63)

-- the quotient rounded towards minus infinity: by a positive divisor the remainder isn't negative
abbrev pub floor_div : ℤ → ℤ → ℤ
floor_div x (pos y) = int_div_euclid x (pos y)
floor_div x (negsuc y) = int_div_euclid (neg_ℤ x) (neg_ℤ (negsuc y))

-- what is left of it has the sign of the divisor
abbrev pub floor_rem : ℤ → ℤ → ℤ
floor_rem x y = x -ℤ y *ℤ floor_div x y

abbrev pub is_zero : ℤ → Bool
is_zero z = unsigned_abs z == 0

-- a shift count modulo 64
abbrev pub shift_count : ℤ → ℕ
shift_count y = unsigned_abs (int_rem_euclid y (pos 64))

-- the table: the exact result for two ints, where there is one
abbrev pub exact : Op → ℤ → ℤ → Option ℤ
exact Plus x y = Some (x +ℤ y)
exact Minus x y = Some (x -ℤ y)
exact Times x y = Some (x *ℤ y)
exact DotPlus x y = Some (int_wrap w64 (x +ℤ y))
exact DotMinus x y = Some (int_wrap w64 (x -ℤ y))
exact DotTimes x y = Some (int_wrap w64 (x *ℤ y))
exact Divide x y = if is_zero y || not (is_zero (floor_rem x y)) then None else Some (floor_div x y)
exact IntDivide x y = if is_zero y then None else Some (floor_div x y)
exact Mod x y = if is_zero y then None else Some (floor_rem x y)
exact Power x (pos n) = Some (int_pow x n)
exact Power x (negsuc n) = None
exact BitAnd x y = Some (int_bit_and w64 x y)
exact BitOr x y = Some (int_bit_or w64 x y)
exact BitXor x y = Some (int_bit_xor w64 x y)
exact ShiftLeft x y = Some (int_shl w64 x (shift_count y))
exact ShiftRight x y = Some (int_shr x (shift_count y))
exact ShiftRightZero x y = Some (cast_signed w64 (cast_unsigned w64 x / 2 ^ shift_count y))

-- the same for one int
abbrev pub exact1 : Op1 → ℤ → ℤ
exact1 Neg x = neg_ℤ x
exact1 Pos x = x
exact1 BitNot x = int_bit_not w64 x

-- a result if it fits in 64 bits
abbrev pub fitting : Option ℤ → Option ℤ
fitting None = None
fitting (Some n) = if fits n then Some n else None

-- a result as a value without a spelling
abbrev pub tree_of_result : Option ℤ → Tree
tree_of_result None = error
tree_of_result (Some n) = int n []

-- rule 5 for two ints, and rule 4 where one number is a fraction or wide
abbrev pub of_numbers : Op → Tree → Tree → Tree
of_numbers op (int x _) (int y _) = tree_of_result (fitting (exact op x y))
of_numbers op _ _ = error

-- a number, empty or absent
abbrev pub is_operand : Tree → Bool
is_operand x = is_number x || is_empty x || is_absent x

-- the rules in their order
abbrev pub arith_of : Op → Tree → Tree → Tree
arith_of op x y =
    if not (is_operand x) || not (is_operand y) then error else (
    if is_absent x then y else (
    if is_absent y then x else (
    if is_empty x || is_empty y then empty else of_numbers op x y)))

-- the same for one operand, where `+` keeps the spelling
abbrev pub arith1_of : Op1 → Tree → Tree
arith1_of op absent = absent
arith1_of op empty = empty
arith1_of Pos (int n spelling) = int n spelling
arith1_of op (int n spelling) = tree_of_result (fitting (Some (exact1 op n)))
arith1_of op _ = error
