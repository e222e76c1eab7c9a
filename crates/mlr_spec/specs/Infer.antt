-- What a text from data is: the rules of inference by rows, over whole texts.
use Rattle.std.specs.Prelude.{ℕ, ◌+◌, ◌-◌, ◌*◌, ◌^◌, Bool, false, not, ◌&&◌, ◌||◌, ◌==◌, nat_lt, nat_le, if◌then◌else◌, List, [], ◌∷◌, ◌++◌, length, drop, pos, neg_ℤ, ◌-ℤ◌}
use Rattle.std.specs.List.{list_all, list_any, before_first, after_first}
use Rattle.mlr_spec.specs.Ascii.{plus_sign, minus_sign, dot, digit_zero, digit_nine, letter_upper_a, letter_upper_b, letter_upper_e, letter_upper_f, letter_upper_o, letter_upper_x, letter_a, letter_b, letter_e, letter_f, letter_o, letter_x}
use Rattle.mlr_spec.specs.declared.infer.Kind.{Kind}
use Rattle.mlr_spec.specs.declared.infer.Kind.TheVariants.{Empty, Str, Int, Frac, Wide}
use Rattle.mlr_spec.specs.declared.infer.InferOpts.{InferOpts}
use Rattle.mlr_spec.specs.Tree.{Tree, empty, string, int, fraction, wide}

-- what a byte is worth as a digit of a base up to 16: 0 to 9, a to f, A to F; any other byte is no digit
abbrev pub digit : ℕ → ℕ
digit b =
    if nat_le digit_zero b && nat_le b digit_nine then b - digit_zero else (
    if nat_le letter_a b && nat_le b letter_f then b - 87 else (
    if nat_le letter_upper_a b && nat_le b letter_upper_f then b - 55 else 16))

-- one or more digits of this base
abbrev pub are_digits : ℕ → List ℕ → Bool
are_digits base [] = false
are_digits base (b ∷ text) = list_all (λ c. nat_lt (digit c) base) (b ∷ text)

-- the number of a row of digits: the sum of each digit times its power of the base
abbrev pub number : ℕ → List ℕ → ℕ
number base [] = 0
number base (b ∷ text) = digit b * base ^ length text + number base text

-- whether a text begins with `-`, and the text without a sign before it
abbrev pub is_negative : List ℕ → Bool
is_negative [] = false
is_negative (b ∷ text) = b == minus_sign

abbrev pub unsigned : List ℕ → List ℕ
unsigned [] = []
unsigned (b ∷ text) = if b == plus_sign || b == minus_sign then text else b ∷ text

-- a whole number with its sign: an int in -2^63 .. 2^63 - 1, else wide
abbrev pub whole : Bool → ℕ → Kind
whole negative n =
    if negative then (if nat_le n (2 ^ 63) then Int (neg_ℤ (pos n)) else Wide)
    else (if nat_lt n (2 ^ 63) then Int (pos n) else Wide)

-- the same of a text in a base that it names: without `-`, 2^63 .. 2^64 - 1 is the two's complement
abbrev pub word : Bool → ℕ → Kind
word negative n =
    if not negative && nat_le (2 ^ 63) n && nat_lt n (2 ^ 64) then Int (pos n -ℤ pos (2 ^ 64))
    else whole negative n

-- the base that a text names by its first two bytes, `0x`, `0b` or `0o` in either case; 0 if it names none
abbrev pub base_of_letter : ℕ → ℕ
base_of_letter b =
    if b == letter_x || b == letter_upper_x then 16 else (
    if b == letter_b || b == letter_upper_b then 2 else (
    if b == letter_o || b == letter_upper_o then 8 else 0))

abbrev pub base_of : List ℕ → ℕ
base_of [] = 0
base_of (z ∷ []) = 0
base_of (z ∷ b ∷ text) = if z == digit_zero then base_of_letter b else 0

-- a based text: digits of that base after the two bytes of its prefix
abbrev pub is_based : List ℕ → Bool
is_based text = are_digits (base_of text) (drop 2 text)

-- two or more digits, all of them 0 to 7, of which the first is 0
abbrev pub is_octal : List ℕ → Bool
is_octal [] = false
is_octal (b ∷ text) = b == digit_zero && are_digits 8 text

-- decimal digits with at most one point, before, among or after them
abbrev pub is_mantissa : List ℕ → Bool
is_mantissa text = are_digits 10 (before_first (λ b. b == dot) text ++ after_first (λ b. b == dot) text)

-- `e` or `E`
abbrev pub is_e : ℕ → Bool
is_e b = b == letter_e || b == letter_upper_e

-- a mantissa, and after an `e`, if there is one, digits with or without a sign
abbrev pub is_fraction : List ℕ → Bool
is_fraction text =
    is_mantissa (before_first is_e text)
    && (not (list_any is_e text) || are_digits 10 (unsigned (after_first is_e text)))

-- the rows for a text without its sign; the first that fits decides
unfoldable pub kind_after_sign : Bool → Bool → List ℕ → Kind
kind_after_sign octal negative text =
    if octal && is_octal text then whole negative (number 8 text) else (
    if are_digits 10 text then whole negative (number 10 text) else (
    if is_based text then word negative (number (base_of text) (drop 2 text)) else (
    if is_fraction text then Frac else Str)))

-- the kind of a whole text
abbrev pub kind_of : InferOpts → List ℕ → Kind
kind_of opts [] = Empty
kind_of opts (b ∷ text) =
    if opts.none then Str else kind_after_sign opts.octal (is_negative (b ∷ text)) (unsigned (b ∷ text))

-- a text of this kind as a value
abbrev pub tree_of_kind : Kind → List ℕ → Tree
tree_of_kind Empty text = empty
tree_of_kind Str text = string text
tree_of_kind (Int n) text = int n text
tree_of_kind Frac text = fraction text
tree_of_kind Wide text = wide text

-- a text from data as a value
abbrev pub tree_of_data : InferOpts → List ℕ → Tree
tree_of_data opts text = tree_of_kind (kind_of opts text) text
