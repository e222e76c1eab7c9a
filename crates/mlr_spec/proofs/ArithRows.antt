-- Arithmetic and the orders on worked examples: each computes to the value beside it.
use Rattle.std.specs.Prelude.{◌≡◌, ◌-◌, ◌^◌, [], codes, refl, true, false, ℤ, pos, negsuc}
use Rattle.std.specs.Int.{int_wrap}
use Rattle.std.specs.Fmt.{digits}
use Rattle.std.specs.declared.cmp.Ordering.TheVariants.{Less, Equal, Greater}
use Rattle.mlr_spec.specs.declared.arith.Op.TheVariants.{Plus, DotPlus, Divide, IntDivide, Mod, Power, ShiftRight}
use Rattle.mlr_spec.specs.declared.arith.Op1.TheVariants.{Neg, Pos}
use Rattle.mlr_spec.specs.declared.arith.Order.TheVariants.{Text, Folded, NumberDown, Mixed}
use Rattle.mlr_spec.specs.Arith.{arith_of, arith1_of}
use Rattle.mlr_spec.specs.Order.{order_of}
use Rattle.mlr_spec.specs.Tree.{Tree, absent, empty, string, int, fraction, boolean, error, map_of}

abbrev made : ℤ → Tree
made n = int n []

absent_summand : arith_of Plus absent (int (pos 15) (codes "0x0F")) ≡ int (pos 15) (codes "0x0F")
absent_summand = refl

empty_and_fraction : arith_of Plus empty (fraction (codes "0.50")) ≡ empty
empty_and_fraction = refl

fraction_summand : arith_of Plus (fraction (codes "0.50")) (made (pos 1)) ≡ error
fraction_summand = refl

six_by_four : arith_of Divide (made (pos 6)) (made (pos 4)) ≡ error
six_by_four = refl

six_by_three : arith_of Divide (made (pos 6)) (made (pos 3)) ≡ made (pos 2)
six_by_three = refl

rounded_down : arith_of IntDivide (made (pos 7)) (made (negsuc 1)) ≡ made (negsuc 3)
rounded_down = refl

sign_of_modulus : arith_of Mod (made (pos 7)) (made (negsuc 1)) ≡ made (negsuc 0)
sign_of_modulus = refl

large_power : arith_of Power (made (pos 2)) (made (pos 63)) ≡ error
large_power = refl

greatest_and_one : arith_of Plus (made (pos (2 ^ 63 - 1))) (made (pos 1)) ≡ error
greatest_and_one = refl

around : arith_of DotPlus (made (pos (2 ^ 63 - 1))) (made (pos 1)) ≡ made (negsuc (2 ^ 63 - 1))
unfolding int_wrap
around = refl

least_by_minus_one : arith_of IntDivide (made (negsuc (2 ^ 63 - 1))) (made (negsuc 0)) ≡ error
least_by_minus_one = refl

shifted_by_65 : arith_of ShiftRight (made (pos 5)) (made (pos 65)) ≡ made (pos 2)
shifted_by_65 = refl

least_negated : arith1_of Neg (made (negsuc (2 ^ 63 - 1))) ≡ error
least_negated = refl

plus_alone : arith1_of Pos (int (pos 15) (codes "0x0F")) ≡ int (pos 15) (codes "0x0F")
plus_alone = refl

texts : order_of Text (made (pos 10)) (made (pos 9)) ≡ Less
unfolding digits
texts = refl

collection_last : order_of Text (map_of []) (string (codes "z")) ≡ Greater
collection_last = refl

either_case : order_of Folded (string (codes "AB")) (string (codes "ab")) ≡ Equal
either_case = refl

others_first : order_of NumberDown absent (made (pos 9)) ≡ Less
others_first = refl

truth_before_empty : order_of Mixed (boolean true) empty ≡ Less
truth_before_empty = refl

false_before_true : order_of Mixed (boolean false) (boolean true) ≡ Less
false_before_true = refl
