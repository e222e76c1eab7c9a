-- Results that fit in 64 bits, as the type of a number and `fits` say it.
use Rattle.std.proofs.Common.{◌≡◌, ◌^◌, true, ℤ, pos, negsuc, FitsSigned, w64, lt-ltb, Some, ap}
use Rattle.std.specs.Int.{int_wrap}
use Rattle.std.proofs.lemmas.Int.{SFits-int_wrap}
use Rattle.std.specs.Prelude.{if◌then◌else◌}
use Rattle.mlr_spec.specs.Arith.{fits, fitting}
use Rattle.std.specs.declared.option.Option.TheVariants.{None}

pub fits-true : (z : ℤ) → FitsSigned w64 z → fits z ≡ true
fits-true (pos n) f = lt-ltb n (2 ^ 63) f.sfits
fits-true (negsuc n) f = lt-ltb n (2 ^ 63) f.sfits

-- a number of the type fits
pub fitting-itself : (z : ℤ) → FitsSigned w64 z → fitting (Some z) ≡ Some z
fitting-itself z f = ap (λ b. if b then Some z else None) (fits-true z f)

-- what is left of a number in 64 bits fits
pub fitting-wrap : (z : ℤ) → fitting (Some (int_wrap w64 z)) ≡ Some (int_wrap w64 z)
fitting-wrap z = fitting-itself (int_wrap w64 z) (SFits-int_wrap w64 z)
