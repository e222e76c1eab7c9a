-- The numbers of `seqgen` are between its start and its stop.
use Rattle.std.proofs.Common.{◌≡◌, ℕ, zero, suc, ◌+◌, ◌*◌, ◌/◌, ◌^◌, ◌<◌, ◌≤◌, true, if◌then◌else◌, ℤ, pos, negsuc, neg_ℤ, refl, sym, ap, ap₂, ◌∙◌, ◌-◌, to_z, of_z, arith, inl, inr, w64, FitsSigned, subst}
use Rattle.std.specs.Prelude.{◌+ℤ◌, ◌-ℤ◌, ◌*ℤ◌, ◌≤ℤ◌, int_le, int_lt, unsigned_abs}
use Rattle.std.specs.Int.{w128}
use Rattle.std.specs.Prelude.{Result, Ok, Err}
use Rattle.std.specs.Result.{OkIff, result_unwrap_or}
use Rattle.std.proofs.lemmas.Bool.{cases_Bool}
use Rattle.std.proofs.lemmas.Int.{fits_signed_mul, ints}
use Rattle.std.proofs.Math.Facts.{to_z-of_z}
use Rattle.std.proofs.Math.Nat.{div-mul-le_self, mul-le-mul_right}
use Rattle.verbs_seq.specs.Seq.{count_between, number_from}

not-negative : (z : ℤ) → pos 0 ≤ℤ z → pos (unsigned_abs z) ≡ z
not-negative (pos n) h = refl
not-negative (negsuc n) h = absurd (omega (arith, ints))

ordered : (a b : ℤ) → int_le a b ≡ true → a ≤ℤ b
ordered a b h = grind (arith, ints)

distance : (a b : ℤ) → a ≤ℤ b → pos (unsigned_abs (b -ℤ a)) ≡ b -ℤ a
distance a b h = not-negative (b -ℤ a) (omega (arith, ints))

-- the steps to a place aren't longer than the whole distance
reach : (i p d : ℕ) → i < d / p + 1 → i * p ≤ d
reach i p d below =
    let e : d / p * p ≤ d = div-mul-le_self d p in
    let g : i * p ≤ d / p * p = mul-le-mul_right p (let h : i ≤ d / p = omega arith in h) in
    omega arith

-- a number between two numbers of 64 bits has 64 bits
between-up : (start stop : ℤ) (k : ℕ) → start ≤ℤ stop → k ≤ unsigned_abs (stop -ℤ start) → FitsSigned w64 start → FitsSigned w64 stop → FitsSigned w64 (start +ℤ pos k)
between-up start stop k le near first last =
    let d = distance start stop le in
    omega (arith, ints)

between-down : (start stop : ℤ) (k : ℕ) → stop ≤ℤ start → k ≤ unsigned_abs (stop -ℤ start) → FitsSigned w64 start → FitsSigned w64 stop → FitsSigned w64 (start +ℤ neg_ℤ (pos k))
between-down start stop k le near first last =
    let d : pos (unsigned_abs (start -ℤ stop)) ≡ start -ℤ stop = distance stop start le in
    let same : unsigned_abs (stop -ℤ start) ≡ unsigned_abs (start -ℤ stop) = abs-turned stop start in
    omega (arith, ints)
  where
    abs-neg : (z : ℤ) → unsigned_abs (neg_ℤ z) ≡ unsigned_abs z
    abs-neg (pos zero) = refl
    abs-neg (pos (suc n)) = refl
    abs-neg (negsuc n) = refl

    abs-turned : (a b : ℤ) → unsigned_abs (a -ℤ b) ≡ unsigned_abs (b -ℤ a)
    abs-turned a b = ap unsigned_abs (let e : a -ℤ b ≡ neg_ℤ (b -ℤ a) = omega (arith, ints) in e) ∙ abs-neg (b -ℤ a)

goes-up : (p : ℕ) → int_lt (pos 0) (pos (suc p)) ≡ true
goes-up p = grind (arith, ints)

pub number-fits : (start stop step : ℤ) (i : ℕ) → i < count_between start stop step → FitsSigned w64 start → FitsSigned w64 stop → FitsSigned w64 (number_from start step i)
number-fits start stop (pos zero) i below first last = let none : i * 0 ≡ 0 = omega arith in subst (λ k. FitsSigned w64 (start +ℤ pos k)) (sym none) (omega (arith, ints))
number-fits start stop (pos (suc p)) i below first last =
    let count = unsigned_abs (stop -ℤ start) / suc p + 1 in
    let up : i < (if int_le start stop then count else 0) = subst (λ b. i < (if (if b then int_le start stop else int_le stop start) then count else 0)) (goes-up p) below in
    elim (cases_Bool (int_le start stop)) [
      | inl le ↦
          between-up start stop (i * suc p) (ordered start stop le) (reach i (suc p) (unsigned_abs (stop -ℤ start)) (subst (λ b. i < (if b then count else 0)) le up)) first last
      | inr beyond ↦ absurd (let none : i < 0 = subst (λ b. i < (if b then count else 0)) beyond up in omega arith)
    ]
number-fits start stop (negsuc q) i below first last =
    let count = unsigned_abs (stop -ℤ start) / suc q + 1 in
    elim (cases_Bool (int_le stop start)) [
      | inl le ↦
          let down = between-down start stop (i * suc q) (ordered stop start le) (reach i (suc q) (unsigned_abs (stop -ℤ start)) (subst (λ b. i < (if b then count else 0)) le below)) first last in
          subst (λ z. FitsSigned w64 (start +ℤ z)) (times-down i q) down
      | inr beyond ↦ absurd (let none : i < 0 = subst (λ b. i < (if b then count else 0)) beyond below in omega arith)
    ]
  where
    times-down : (i q : ℕ) → neg_ℤ (pos (i * suc q)) ≡ pos i *ℤ negsuc q
    times-down i q = refl

pub fits-wider : (z : ℤ) → FitsSigned w64 z → FitsSigned w128 z
fits-wider z h = omega (arith, ints)

-- the number, computed with 128 bits
pub is-number : (start step : ℤ) (i : ℕ) → FitsSigned w64 start → FitsSigned w64 step → i < 2 ^ 64 → (a b d : ℤ) → a ≡ to_z w64 (of_z w64 start) → b ≡ pos i → d ≡ to_z w64 (of_z w64 step)
    → to_z w128 (of_z w128 a) +ℤ to_z w128 (of_z w128 (to_z w128 (of_z w128 b) *ℤ to_z w128 (of_z w128 d))) ≡ number_from start step i
is-number start step i f g small a b d is is_2 is_3 =
    let first : to_z w128 (of_z w128 a) ≡ start = ap (λ z. to_z w128 (of_z w128 z)) (is ∙ to_z-of_z f) ∙ to_z-of_z (fits-wider start f) in
    let place : to_z w128 (of_z w128 b) ≡ pos i = ap (λ z. to_z w128 (of_z w128 z)) is_2 ∙ to_z-of_z (let e : FitsSigned w128 (pos i) = omega (arith, ints) in e) in
    let by : to_z w128 (of_z w128 d) ≡ step = ap (λ z. to_z w128 (of_z w128 z)) (is_3 ∙ to_z-of_z g) ∙ to_z-of_z (fits-wider step g) in
    let product : to_z w128 (of_z w128 (to_z w128 (of_z w128 b) *ℤ to_z w128 (of_z w128 d))) ≡ pos i *ℤ step =
    ap (λ z. to_z w128 (of_z w128 z)) (ap₂ (λ x y. x *ℤ y) place by) ∙ to_z-of_z (fits_signed_mul w128 (pos i) step (2 ^ 64 - 1) (2 ^ 63) (omega arith) (abs-of step g) (omega arith)) in
    ap₂ (λ x y. x +ℤ y) first product
  where
    abs-of : (z : ℤ) → FitsSigned w64 z → unsigned_abs z ≤ 2 ^ 63
    abs-of (pos n) h = omega (arith, ints)
    abs-of (negsuc n) h = omega (arith, ints)

-- the conversion returns a number that fits
pub converted : {E : Type 0} (r : Result ℤ E) (number sum other got : ℤ) → sum ≡ number → FitsSigned w64 number → OkIff r (FitsSigned w64 sum) sum → got ≡ result_unwrap_or r other
    → to_z w64 (of_z w64 got) ≡ number
converted (Ok x) number sum other got is fits ok gives = ap (λ z. to_z w64 (of_z w64 z)) (gives ∙ ok.1 ∙ is) ∙ to_z-of_z fits
converted (Err e) number sum other got is fits bad gives = absurd (bad (subst (FitsSigned w64) (sym is) fits))
