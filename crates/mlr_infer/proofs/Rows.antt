-- The rows of the definition, in the words of the functions that read them.
use Rattle.std.proofs.Common.{◌≡◌, ℕ, ◌^◌, ◌<◌, ◌≤◌, Bool, true, false, cond, not, ◌&&◌, ◌==◌, nat_lt, nat_le, List, [], ◌∷◌, length, drop, Option, Some, None, refl, ap, sym, ◌∙◌, arith, pos, neg_ℤ, ◌-ℤ◌}
use Rattle.std.proofs.lemmas.Bool.{le-ltb, lt-leb, ltb-false, or_parts, eqb-true, and_left, and_right, false_from_ne_true, true≢false}
use Rattle.std.specs.List.{list_all}
use Rattle.mlr_spec.specs.declared.infer.Kind.{Kind}
use Rattle.mlr_spec.specs.declared.infer.Kind.TheVariants.{Str, Int, Frac, Wide}
use Rattle.mlr_spec.specs.declared.infer.InferOpts.{InferOpts}
use Rattle.mlr_spec.specs.Infer.{digit, are_digits, number, base_of, base_of_letter, is_negative, is_octal, is_fraction, is_e, kind_after_sign, kind_of, unsigned, whole, word}
use Rattle.mlr_infer.specs.declared.inference.Magnitude.{Magnitude}
use Rattle.mlr_infer.specs.declared.inference.Magnitude.TheVariants.{Word, Large}
use Rattle.mlr_infer.specs.Magnitude.{bounded, magnitude_of, octal_of, whole_of, word_of, after_digits}
use Rattle.mlr_infer.specs.Fraction.{may_be_number, fraction_from}
use Rattle.mlr_infer.proofs.Fractions.{fraction_from-whole}

whole-large : (negative : Bool) (n : ℕ) → 2 ^ 64 ≤ n → Wide ≡ whole negative n
whole-large true n h = ap (λ (t : Bool). cond t (Int (neg_ℤ (pos n))) Wide) (sym (lt-leb n (2 ^ 63) (omega arith)))
whole-large false n h = ap (λ (t : Bool). cond t (Int (pos n)) Wide) (sym (le-ltb n (2 ^ 63) (omega arith)))

whole_of_step : (negative : Bool) (n : ℕ) (t : Bool) → nat_lt n (2 ^ 64) ≡ t → whole_of negative (cond t (Word n) Large) ≡ whole negative n
unfolding whole_of
whole_of_step negative n true e = refl
whole_of_step negative n false e = whole-large negative n (ltb-false n (2 ^ 64) e)

pub whole_of-bounded : (negative : Bool) (n : ℕ) → whole_of negative (bounded n) ≡ whole negative n
whole_of-bounded negative n = whole_of_step negative n (nat_lt n (2 ^ 64)) refl

word_of_step : (negative : Bool) (n : ℕ) (t : Bool) → nat_lt n (2 ^ 64) ≡ t → word_of negative (cond t (Word n) Large) ≡ word negative n
unfolding word_of
word_of_step negative n true e = refl
word_of_step negative n false e =
    whole-large negative n (ltb-false n (2 ^ 64) e)
    ∙ sym (ap (λ (t : Bool). cond t (Int (pos n -ℤ pos (2 ^ 64))) (whole negative n)) (and_right (not negative && nat_le (2 ^ 63) n) (nat_lt n (2 ^ 64)) e))

pub word_of-bounded : (negative : Bool) (n : ℕ) → word_of negative (bounded n) ≡ word negative n
word_of-bounded negative n = word_of_step negative n (nat_lt n (2 ^ 64)) refl

same_both : (t : Bool) → cond t false false ≡ false
same_both true = refl
same_both false = refl

-- the first row that fits
abbrev pub first_row : Bool → Option Magnitude → Option Magnitude → Option Magnitude → Bool → Kind
first_row negative (Some octal) decimal based fraction = whole_of negative octal
first_row negative None (Some decimal) based fraction = whole_of negative decimal
first_row negative None None (Some based) fraction = word_of negative based
first_row negative None None None fraction = cond fraction Frac Str

rows_at : (negative octal decimal based fraction : Bool) (m n k : ℕ)
    → cond octal (whole negative m) (cond decimal (whole negative n) (cond based (word negative k) (cond fraction Frac Str)))
    ≡ first_row negative (cond octal (Some (bounded m)) None) (cond decimal (Some (bounded n)) None) (cond based (Some (bounded k)) None) fraction
rows_at negative true decimal based fraction m n k = sym (whole_of-bounded negative m)
rows_at negative false true based fraction m n k = sym (whole_of-bounded negative n)
rows_at negative false false true fraction m n k = sym (word_of-bounded negative k)
rows_at negative false false false fraction m n k = refl

kind_by_rows : (octal negative : Bool) (text : List ℕ) → kind_after_sign octal negative text ≡ first_row negative (octal_of octal text) (magnitude_of 10 text) (magnitude_of (base_of text) (drop 2 text)) (is_fraction text)
unfolding kind_after_sign octal_of magnitude_of
kind_by_rows octal negative text =
    rows_at negative (octal && is_octal text) (are_digits 10 text) (are_digits (base_of text) (drop 2 text)) (is_fraction text) (number 8 text) (number 10 text) (number (base_of text) (drop 2 text))

pub kind_from_rows : (octal negative : Bool) (text : List ℕ) (in_octal in_decimal in_base : Option Magnitude) (fraction : Bool)
    → in_octal ≡ octal_of octal text → in_decimal ≡ magnitude_of 10 text → in_base ≡ magnitude_of (base_of text) (drop 2 text) → fraction ≡ is_fraction text
    → first_row negative in_octal in_decimal in_base fraction ≡ kind_after_sign octal negative text
kind_from_rows octal negative text in_octal in_decimal in_base fraction o d b f =
    ap (λ (r : Option Magnitude). first_row negative r in_decimal in_base fraction) o
    ∙ ap (λ (r : Option Magnitude). first_row negative (octal_of octal text) r in_base fraction) d
    ∙ ap (λ (r : Option Magnitude). first_row negative (octal_of octal text) (magnitude_of 10 text) r fraction) b
    ∙ ap (λ (r : Bool). first_row negative (octal_of octal text) (magnitude_of 10 text) (magnitude_of (base_of text) (drop 2 text)) r) f
    ∙ sym (kind_by_rows octal negative text)

-- the rows after that of the decimal digits
pub first_row-after_digits : (negative : Bool) (text : List ℕ) → after_digits negative text ≡ first_row negative None None (magnitude_of (base_of text) (drop 2 text)) (is_fraction text)
unfolding after_digits magnitude_of
first_row-after_digits negative text =
    rows_at negative false false (are_digits (base_of text) (drop 2 text)) (is_fraction text) 0 0 (number (base_of text) (drop 2 text))

pub after_digits-from : (negative : Bool) (text : List ℕ) (in_base : Option Magnitude) (fraction : Bool)
    → in_base ≡ magnitude_of (base_of text) (drop 2 text) → fraction ≡ is_fraction text → first_row negative None None in_base fraction ≡ after_digits negative text
after_digits-from negative text in_base fraction b f =
    ap (λ (r : Option Magnitude). first_row negative None None r fraction) b
    ∙ ap (λ (r : Bool). first_row negative None None (magnitude_of (base_of text) (drop 2 text)) r) f
    ∙ sym (first_row-after_digits negative text)

pub some_bytes : (text : List ℕ) → (length text == 0) ≡ false → 0 < length text
some_bytes [] some = absurd (true≢false some)
some_bytes (b ∷ text) some = omega arith

pub magnitude_of-zero : (text : List ℕ) → magnitude_of 0 text ≡ None
unfolding magnitude_of
magnitude_of-zero [] = refl
magnitude_of-zero (b ∷ text) =
    ap (λ t. cond (t && list_all (λ c. nat_lt (digit c) 0) text) (Some (bounded (number 0 (b ∷ text)))) None) (le-ltb (digit b) 0 (omega arith))

pub magnitude_of-no_base : (text : List ℕ) → base_of text ≡ 0 → None ≡ magnitude_of (base_of text) (drop 2 text)
magnitude_of-no_base text e = sym (ap (λ base. magnitude_of base (drop 2 text)) e ∙ magnitude_of-zero (drop 2 text))

are_digits-zero : (text : List ℕ) → are_digits 0 text ≡ false
are_digits-zero [] = refl
are_digits-zero (b ∷ text) = ap (λ t. t && list_all (λ c. nat_lt (digit c) 0) text) (le-ltb (digit b) 0 (omega arith))

-- a text whose first byte is neither a decimal digit nor a point
base_of-no_zero : (b : ℕ) (text : List ℕ) → (b == 48) ≡ false → base_of (b ∷ text) ≡ 0
base_of-no_zero b [] e = refl
base_of-no_zero b (c ∷ text) e = ap (λ (t : Bool). cond t (base_of_letter c) 0) e

no_fraction : (b : ℕ) (text : List ℕ) → nat_lt (digit b) 10 ≡ false → (b == 46) ≡ false → is_fraction (b ∷ text) ≡ false
no_fraction b text e h =
    sym (fraction_from-whole (b ∷ text))
    ∙ ap (λ (t : Bool). cond (is_e b) false (cond t (fraction_from false true text) (nat_lt (digit b) 10 && fraction_from true false text))) h
    ∙ ap (λ (t : Bool). cond (is_e b) false (t && fraction_from true false text)) e
    ∙ same_both (is_e b)

no_zero : (b : ℕ) → nat_lt (digit b) 10 ≡ false → (b == 48) ≡ false
no_zero b e = false_from_ne_true (b == 48) (λ h. true≢false (sym (ap (λ n. nat_lt (digit n) 10) (eqb-true b 48 h)) ∙ e))

rows_that_fail : (negative octal decimal based fraction : Bool) (m n k : ℕ) → octal ≡ false → decimal ≡ false → based ≡ false → fraction ≡ false
    → cond octal (whole negative m) (cond decimal (whole negative n) (cond based (word negative k) (cond fraction Frac Str))) ≡ Str
rows_that_fail negative true decimal based fraction m n k p q r s = absurd (true≢false p)
rows_that_fail negative false true based fraction m n k p q r s = absurd (true≢false q)
rows_that_fail negative false false true fraction m n k p q r s = absurd (true≢false r)
rows_that_fail negative false false false true m n k p q r s = absurd (true≢false s)
rows_that_fail negative false false false false m n k p q r s = refl

pub no_number : (octal negative : Bool) (text : List ℕ) → may_be_number text ≡ false → kind_after_sign octal negative text ≡ Str
unfolding kind_after_sign
no_number octal negative [] e =
    rows_that_fail negative (octal && false) false false false 0 0 (number 0 []) (and_right octal false refl) refl refl refl
no_number octal negative (b ∷ text) e =
    let first = or_parts (nat_lt (digit b) 10) (b == 46) e in
    let zero : (b == 48) ≡ false = no_zero b first.0 in
    rows_that_fail negative (octal && is_octal (b ∷ text)) (are_digits 10 (b ∷ text)) (are_digits (base_of (b ∷ text)) (drop 2 (b ∷ text))) (is_fraction (b ∷ text))
    (number 8 (b ∷ text)) (number 10 (b ∷ text)) (number (base_of (b ∷ text)) (drop 2 (b ∷ text)))
    (and_right octal _ (and_left (b == 48) _ zero))
    (and_left (nat_lt (digit b) 10) _ first.0)
    (ap (λ base. are_digits base (drop 2 (b ∷ text))) (base_of-no_zero b text zero) ∙ are_digits-zero (drop 2 (b ∷ text)))
    (no_fraction b text first.0 first.1)

pub kind_of-some : (opts : InferOpts) (text : List ℕ) → (length text == 0) ≡ false → opts.none ≡ false
    → kind_of opts text ≡ kind_after_sign opts.octal (is_negative text) (unsigned text)
kind_of-some opts [] some inferred = absurd (true≢false some)
kind_of-some opts (b ∷ text) some inferred =
    ap (λ t. cond t Str (kind_after_sign opts.octal (is_negative (b ∷ text)) (unsigned (b ∷ text)))) inferred

pub no_bytes : (octal negative : Bool) (text : List ℕ) → (length text == 0) ≡ true → kind_after_sign octal negative text ≡ Str
no_bytes octal negative [] none = no_number octal negative [] refl
no_bytes octal negative (b ∷ text) none = absurd (omega (arith, eqb-true (length (b ∷ text)) 0 none))
