-- The weight of a pattern, byte by byte.
use Rattle.std.proofs.Common.{◌≡◌, ℕ, suc, ◌+◌, ◌*◌, ◌-◌, ◌<◌, ◌≤◌, min, max, nat_le, Bool, true, false, cond, ◌==◌, ◌||◌, List, [], ◌∷◌, length, drop, take, get_or, refl, sym, ap, ◌∙◌, arith, inl, inr}
use Rattle.std.proofs.lemmas.Bool.{cases_lt, le-leb, cond-true}
use Rattle.std.proofs.lemmas.List.{drop_more, take_rest}
use Rattle.std.proofs.Math.Nat.{mul_assoc, mul-le-mul, min-eq_left, min-eq_right}
use Rattle.std.specs.Str.Parse.{digits_value_after}
use Rattle.std.specs.Char.{is_ascii_digit, digit_value}
use Rattle.std.specs.Int.{IsInRange}
use Rattle.std.proofs.lemmas.Str.{digit_value_digit}
use Rattle.std.specs.List.{take_while, prefix_len}
use Rattle.mlr_pattern.specs.Weight.{factor, factors, number_at_start}

-- a list that isn't empty is its first element followed by the rest
pub whole_of_first : (xs : List ℕ) → 1 ≤ length xs → xs ≡ get_or xs 0 0 ∷ take (length xs - 1) (drop 1 xs)
whole_of_first xs h = drop_more xs 0 0 (omega (arith, h)) ∙ ap (λ rest. get_or xs 0 0 ∷ rest) (sym (take_rest xs 1))

-- more digits never make a number smaller
pub grows : (n : ℕ) (digits : List ℕ) → n ≤ digits_value_after 10 n digits
grows n [] = omega arith
grows n (c ∷ digits) = omega (arith, grows (n * 10 + digit_value c) digits)

more_take : (b : ℕ) (text : List ℕ) → is_ascii_digit b ≡ true → take_while is_ascii_digit (b ∷ text) ≡ b ∷ take_while is_ascii_digit text
more_take b text h =
    let one : 1 + prefix_len is_ascii_digit text ≡ suc (prefix_len is_ascii_digit text) = omega arith in
    ap (λ n. take n (b ∷ text)) (cond-true (is_ascii_digit b) (1 + prefix_len is_ascii_digit text) 0 h ∙ one)

-- one more digit
pub more_digits : (n m b : ℕ) (text rest : List ℕ) → text ≡ b ∷ rest → is_ascii_digit b ≡ true → IsInRange 48 57 b →
    digits_value_after 10 n (take_while is_ascii_digit text) ≡ m →
    digits_value_after 10 (n * 10 + (b - 48)) (take_while is_ascii_digit rest) ≡ m
more_digits n m b text rest is h range e =
    let worth : b - 48 ≡ digit_value b = omega (arith, digit_value_digit b range) in
    ap (λ d. digits_value_after 10 (n * 10 + d) (take_while is_ascii_digit rest)) worth
    ∙ ap (digits_value_after 10 n) (sym (more_take b rest h))
    ∙ ap (λ l. digits_value_after 10 n (take_while is_ascii_digit l)) (sym is)
    ∙ e

-- a number that has reached 1,000 already, and one whose digits have ended
pub large_already : (n m : ℕ) (digits : List ℕ) → 1000 ≤ n → digits_value_after 10 n digits ≡ m → min n 1000 ≡ min 1000 m
large_already n m digits h e = omega (arith, grows n digits)

pub ended : (n m : ℕ) (text : List ℕ) → length text < 1 → digits_value_after 10 n (take_while is_ascii_digit text) ≡ m → min n 1000 ≡ min 1000 m
ended n m [] h e = omega (arith, e)
ended n m (b ∷ text) h e = absurd (omega (arith, h))

pub no_digit : (n m : ℕ) (text : List ℕ) → 1 ≤ length text → is_ascii_digit (get_or text 0 0) ≡ false →
    digits_value_after 10 n (take_while is_ascii_digit text) ≡ m → min n 1000 ≡ min 1000 m
no_digit n m [] l h e = absurd (omega (arith, l))
no_digit n m (b ∷ text) l h e =
    let none : digits_value_after 10 n (take_while is_ascii_digit (b ∷ text)) ≡ n = rw h refl in
    omega (arith, none, e)

either : (t : Bool) (n : ℕ) → 1 ≤ cond t (max 1 n) 1
either true n = omega arith
either false n = omega arith

pub factor_no_less : (b : ℕ) (text : List ℕ) → 1 ≤ factor b text
factor_no_less b text = either ((b == 123) || (b == 44)) (number_at_start text)

pub no_less_than_1 : (text : List ℕ) → 1 ≤ factors text
no_less_than_1 [] = omega arith
no_less_than_1 (b ∷ text) =
    mul-le-mul (factor_no_less b text) (no_less_than_1 text)

-- a weight of 1,000 or more stays so
pub heavy_already : (w : ℕ) (text : List ℕ) → 1000 ≤ w → nat_le 1000 (w * factors text) ≡ true
heavy_already w text h = le-leb 1000 _ (mul-le-mul h (no_less_than_1 text))

-- a factor counts only up to 1,000
pub capped : (w f rest : ℕ) → 1 ≤ w → 1 ≤ rest → nat_le 1000 (w * min 1000 f * rest) ≡ nat_le 1000 (w * (f * rest))
capped w f rest hw hr = elim (cases_lt f 1000) [
  | inl lt ↦ ap (nat_le 1000) (ap (λ n. w * n * rest) (min-eq_right (omega (arith, lt))) ∙ mul_assoc w f rest)
  | inr ge ↦
      le-leb 1000 _ (mul-le-mul (mul-le-mul hw (sym_le (min-eq_left ge))) hr)
      ∙ sym (le-leb 1000 _ (mul-le-mul hw (mul-le-mul ge hr)))
]
  where
    sym_le : {n : ℕ} → n ≡ 1000 → 1000 ≤ n
    sym_le e = omega arith

pub at_least : {f n : ℕ} → 1 ≤ f → n ≡ min 1000 f → 1 ≤ n
at_least h e = omega (arith, h, e)
