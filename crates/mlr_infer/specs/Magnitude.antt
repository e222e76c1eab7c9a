-- The number of a row of digits as far as 64 bits hold it, and the kinds that it gives.
use Rattle.std.specs.Prelude.{ℕ, ◌+◌, ◌*◌, ◌^◌, Bool, ◌&&◌, nat_lt, if◌then◌else◌, List, [], ◌∷◌, drop, Option, Some, None}
use Rattle.std.specs.List.{list_all, prefix_len}
use Rattle.mlr_spec.specs.declared.infer.Kind.{Kind}
use Rattle.mlr_spec.specs.declared.infer.Kind.TheVariants.{Str, Frac, Wide}
use Rattle.mlr_spec.specs.Infer.{digit, are_digits, number, base_of, is_based, is_octal, is_fraction, whole, word}
use Rattle.mlr_infer.specs.declared.inference.Digits.{Digits}
use Rattle.mlr_infer.specs.declared.inference.Digits.TheVariants.{Whole, Until}
use Rattle.mlr_infer.specs.declared.inference.Magnitude.{Magnitude}
use Rattle.mlr_infer.specs.declared.inference.Magnitude.TheVariants.{Word, Large}

-- a number as far as 64 bits hold it
abbrev pub bounded : ℕ → Magnitude
bounded n = if nat_lt n (2 ^ 64) then Word n else Large

-- the number of one or more digits of this base; None of any other text
unfoldable pub magnitude_of : ℕ → List ℕ → Option Magnitude
magnitude_of base text = if are_digits base text then Some (bounded (number base text)) else None

-- the same in base 8 of a text with a leading zero, where the flag asks for it
unfoldable pub octal_of : Bool → List ℕ → Option Magnitude
octal_of octal text = if octal && is_octal text then Some (bounded (number 8 text)) else None

-- how far a text goes in digits of this base: all of it, with their number, or until its first other byte
unfoldable pub digits_of : ℕ → List ℕ → Digits
digits_of base text =
    if list_all (λ b. nat_lt (digit b) base) text then Whole (bounded (number base text))
    else Until (prefix_len (λ b. nat_lt (digit b) base) text)

-- the same from a place in a text on, with the number of the digits before it
abbrev pub digits_from : ℕ → ℕ → ℕ → List ℕ → Digits
digits_from base before place [] = Whole (bounded before)
digits_from base before place (b ∷ text) =
    if nat_lt (digit b) base then digits_from base (before * base + digit b) (place + 1) text else Until place

-- the same where the digits before are too many for 64 bits
abbrev pub large_from : ℕ → ℕ → List ℕ → Digits
large_from base place [] = Whole Large
large_from base place (b ∷ text) = if nat_lt (digit b) base then large_from base (place + 1) text else Until place

-- `whole` and `word` of a magnitude
unfoldable pub whole_of : Bool → Magnitude → Kind
whole_of negative (Word n) = whole negative n
whole_of negative Large = Wide

unfoldable pub word_of : Bool → Magnitude → Kind
word_of negative (Word n) = word negative n
word_of negative Large = Wide

-- the rows for a text that isn't all digits
unfoldable pub after_digits : Bool → List ℕ → Kind
after_digits negative text =
    if is_based text then word negative (number (base_of text) (drop 2 text)) else (
    if is_fraction text then Frac else Str)
