-- Powers beyond the 64th: those of 0, 1 and -1 alone fit in 64 bits, and they go by whether the exponent is even.
use Rattle.std.proofs.Common.{◌≡◌, ℕ, zero, suc, ◌^◌, ◌%◌, ◌<◌, ◌≤◌, Bool, true, false, ℤ, pos, negsuc, Some, ap, sym, ◌∙◌, refl, arith}
use Rattle.std.proofs.Math.Nat.{pow-suc, pow-le-pow_left, le_trans}
use Rattle.std.proofs.Math.Pow.{pow_mono}
use Rattle.std.specs.Prelude.{if◌then◌else◌, cond, neg_ℤ, ◌==◌}
use Rattle.std.specs.Int.{int_pow}
use Rattle.std.specs.declared.option.Option.TheVariants.{None}
use Rattle.mlr_spec.specs.Arith.{fits, fitting}

one-pow : (n : ℕ) → 1 ^ n ≡ 1
one-pow zero = refl
one-pow (suc n) = omega (arith, pow-suc 1 n, one-pow n)

zero-pow : (n : ℕ) → 0 < n → 0 ^ n ≡ 0
zero-pow zero h = absurd (omega arith)
zero-pow (suc n) h = omega (arith, pow-suc 0 n)

large : (a n : ℕ) → 2 ≤ a → 64 ≤ n → 2 ^ 64 ≤ a ^ n
large a n two h = le_trans (pow_mono h) (pow-le-pow_left two n)

unfit : (m : ℕ) → 2 ^ 64 ≤ m → fits (pos m) ≡ false
unfit m h = grind (arith, h)

unfit-neg : (m : ℕ) → 2 ^ 64 ≤ m → fits (neg_ℤ (pos m)) ≡ false
unfit-neg zero h = absurd (omega arith)
unfit-neg (suc m) h = grind (arith, h)

unfit-either : (even : Bool) (m : ℕ) → 2 ^ 64 ≤ m → fits (cond even (pos m) (neg_ℤ (pos m))) ≡ false
unfit-either true m h = unfit m h
unfit-either false m h = unfit-neg m h

none : (z : ℤ) → fits z ≡ false → fitting (Some z) ≡ None
none z h = ap (λ b. if b then Some z else None) h

-- two exponents from 64 up, which are even or odd together, have the same powers as far as they fit
pub same_power : (x : ℤ) (n k : ℕ) → 64 ≤ n → 64 ≤ k → n % 2 ≡ k % 2
    → fitting (Some (int_pow x n)) ≡ fitting (Some (int_pow x k))
same_power (pos zero) n k p q e = ap (λ m. fitting (Some (pos m))) (zero-pow n (omega arith) ∙ sym (zero-pow k (omega arith)))
same_power (pos (suc zero)) n k p q e = ap (λ m. fitting (Some (pos m))) (one-pow n ∙ sym (one-pow k))
same_power (pos (suc (suc a))) n k p q e = large_pos n p ∙ sym (large_pos k q)
  where
    large_pos : (m : ℕ) → 64 ≤ m → fitting (Some (pos (suc (suc a) ^ m))) ≡ None
    large_pos m h = none (pos (suc (suc a) ^ m)) (unfit _ (large (suc (suc a)) m (omega arith) h))
same_power (negsuc zero) n k p q e =
    let same : 1 ^ n ≡ 1 ^ k = one-pow n ∙ sym (one-pow k) in
    λ i. fitting (Some (cond (e i == 0) (pos (same i)) (neg_ℤ (pos (same i)))))
same_power (negsuc (suc a)) n k p q e = large_neg n p ∙ sym (large_neg k q)
  where
    large_neg : (m : ℕ) → 64 ≤ m → fitting (Some (int_pow (negsuc (suc a)) m)) ≡ None
    large_neg m h =
        none (int_pow (negsuc (suc a)) m) (unfit-either (m % 2 == 0) _ (large (suc (suc a)) m (omega arith) h))
