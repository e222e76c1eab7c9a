-- The number of a row of digits, read byte by byte.
use Rattle.std.proofs.Common.{◌≡◌, ℕ, ◌+◌, ◌*◌, ◌^◌, ◌<◌, ◌≤◌, Bool, true, false, cond, ◌&&◌, nat_lt, List, [], ◌∷◌, length, suc, Option, Some, None, refl, ap, sym, subst, ◌∙◌, add-zero, zero-add, arith}
use Rattle.std.proofs.Math.Nat.{pow-zero, pow-suc, mul-le-mul_left}
use Rattle.std.proofs.lemmas.Bool.{le-ltb, lt-ltb}
use Rattle.std.specs.List.{list_all, prefix_len}
use Rattle.mlr_spec.specs.Infer.{digit, are_digits, number}
use Rattle.mlr_infer.specs.declared.inference.Digits.{Digits}
use Rattle.mlr_infer.specs.declared.inference.Digits.TheVariants.{Whole, Until}
use Rattle.mlr_infer.specs.declared.inference.Magnitude.{Magnitude}
use Rattle.mlr_infer.specs.declared.inference.Magnitude.TheVariants.{Word, Large}
use Rattle.mlr_infer.specs.Magnitude.{bounded, magnitude_of, digits_of, digits_from, large_from}

pub bounded_word : (n : ℕ) → n < 2 ^ 64 → bounded n ≡ Word n
bounded_word n h = ap (λ (t : Bool). cond t (Word n) Large) (lt-ltb n (2 ^ 64) h)

pub bounded_large : (n : ℕ) → 2 ^ 64 ≤ n → bounded n ≡ Large
bounded_large n h = ap (λ (t : Bool). cond t (Word n) Large) (le-ltb n (2 ^ 64) h)

-- one more digit, by Horner's rule and by powers
digit_by_power : (before base d power rest : ℕ) → (before * base + d) * power + rest ≡ before * (power * base) + (d * power + rest)
digit_by_power before base d power rest = omega arith

digit_step : (before base d n rest : ℕ) → (before * base + d) * base ^ n + rest ≡ before * base ^ suc n + (d * base ^ n + rest)
digit_step before base d n rest =
    digit_by_power before base d (base ^ n) rest ∙ ap (λ p. before * p + (d * base ^ n + rest)) (sym (pow-suc base n))

no_digits : (base before : ℕ) → before ≡ before * base ^ 0 + 0
no_digits base before =
    let one : before ≡ before * 1 + 0 = omega arith in
    one ∙ ap (λ p. before * p + 0) (sym (pow-zero base))

one_more_place : (place n : ℕ) → place + 1 + n ≡ place + (1 + n)
one_more_place place n = omega arith

digits_from-number : (base before place : ℕ) (text : List ℕ) → digits_from base before place text
    ≡ cond (list_all (λ b. nat_lt (digit b) base) text) (Whole (bounded (before * base ^ length text + number base text))) (Until (place + prefix_len (λ b. nat_lt (digit b) base) text))
digits_from-number base before place [] = ap (λ n. Whole (bounded n)) (no_digits base before)
digits_from-number base before place (b ∷ text) =
    elim (nat_lt (digit b) base) as (λ t. cond t (digits_from base (before * base + digit b) (place + 1) text) (Until place)
    ≡ cond (t && list_all (λ b. nat_lt (digit b) base) text) (Whole (bounded (before * base ^ length (b ∷ text) + number base (b ∷ text)))) (Until (place + cond t (1 + prefix_len (λ b. nat_lt (digit b) base) text) 0))) [
      | true ↦ digits_from-number base (before * base + digit b) (place + 1) text
          ∙ ap (λ n. cond (list_all (λ b. nat_lt (digit b) base) text) (Whole (bounded n)) (Until (place + 1 + prefix_len (λ b. nat_lt (digit b) base) text))) (digit_step before base (digit b) (length text) (number base text))
          ∙ ap (λ n. cond (list_all (λ b. nat_lt (digit b) base) text) (Whole (bounded (before * base ^ length (b ∷ text) + number base (b ∷ text)))) (Until n)) (one_more_place place (prefix_len (λ b. nat_lt (digit b) base) text))
      | false ↦ ap Until (sym (add-zero place))
    ]

digits_from-large : (base before place : ℕ) (text : List ℕ) → 0 < base → 2 ^ 64 ≤ before → digits_from base before place text ≡ large_from base place text
digits_from-large base before place [] some large = ap Whole (bounded_large before large)
digits_from-large base before place (b ∷ text) some large =
    elim (nat_lt (digit b) base) as (λ t. cond t (digits_from base (before * base + digit b) (place + 1) text) (Until place) ≡ cond t (large_from base (place + 1) text) (Until place)) [
      | true ↦ digits_from-large base (before * base + digit b) (place + 1) text some (omega (arith, mul-le-mul_left before some))
      | false ↦ refl
    ]

-- the digit that takes the number past 64 bits
pub digits_from-too_large : (base before place d b : ℕ) (text : List ℕ) → d ≡ digit b → d < base → (before * base + d < 2 ^ 64 → ⊥)
    → digits_from base before place (b ∷ text) ≡ large_from base (place + 1) text
digits_from-too_large base before place d b text e below over =
    ap (λ t. cond t (digits_from base (before * base + digit b) (place + 1) text) (Until place)) (lt-ltb (digit b) base (subst (λ n. n < base) e below))
    ∙ digits_from-large base (before * base + digit b) (place + 1) text (omega arith) (subst (λ n. 2 ^ 64 ≤ before * base + n) e (omega arith))

-- where the loop begins
pub digits_from-start : (base : ℕ) (text : List ℕ) → digits_from base 0 0 text ≡ digits_of base text
unfolding digits_of
digits_from-start base text =
    let none_before : 0 * base ^ length text + number base text ≡ number base text = omega arith in
    digits_from-number base 0 0 text
    ∙ ap (λ n. cond (list_all (λ b. nat_lt (digit b) base) text) (Whole (bounded n)) (Until (0 + prefix_len (λ b. nat_lt (digit b) base) text))) none_before
    ∙ ap (λ n. cond (list_all (λ b. nat_lt (digit b) base) text) (Whole (bounded (number base text))) (Until n)) (zero-add (prefix_len (λ b. nat_lt (digit b) base) text))

-- what the place of the first other byte is
until_at : (t : Bool) (m : Magnitude) (n place : ℕ) → Until place ≡ cond t (Whole m) (Until n) → place ≡ n
until_at true m n place e = cc
until_at false m n place e = cc

pub place_of_until : (base place : ℕ) (text : List ℕ) → Until place ≡ digits_of base text → place ≡ prefix_len (λ b. nat_lt (digit b) base) text
unfolding digits_of
place_of_until base place text e =
    until_at (list_all (λ b. nat_lt (digit b) base) text) (bounded (number base text)) (prefix_len (λ b. nat_lt (digit b) base) text) place e

-- the magnitude of digits that are a whole text
abbrev pub of_whole : Digits → Option Magnitude
of_whole (Whole magnitude) = Some magnitude
of_whole (Until place) = None

of_whole_at : (t : Bool) (m : Magnitude) (n : ℕ) → of_whole (cond t (Whole m) (Until n)) ≡ cond t (Some m) None
of_whole_at true m n = refl
of_whole_at false m n = refl

pub of_whole-digits : (base : ℕ) (text : List ℕ) → 0 < length text → of_whole (digits_of base text) ≡ magnitude_of base text
unfolding digits_of magnitude_of
of_whole-digits base [] some = absurd (omega arith)
of_whole-digits base (b ∷ text) some =
    of_whole_at (are_digits base (b ∷ text)) (bounded (number base (b ∷ text))) (prefix_len (λ b. nat_lt (digit b) base) (b ∷ text))
