-- A fraction, read byte by byte in one pass.
use Rattle.std.proofs.Common.{◌≡◌, ℕ, ◌+◌, Bool, true, false, cond, not, ◌&&◌, ◌||◌, ◌==◌, nat_lt, List, [], ◌∷◌, ◌++◌, length, take, drop, suc, ◌-◌, refl, ap, sym, ◌∙◌, arith}
use Rattle.std.proofs.lemmas.Bool.{eqb-true, lt-ltb, or_from, false_from_ne_true, true≢false}
use Rattle.std.proofs.lemmas.List.{take_rest}
use Rattle.std.specs.List.{list_all, list_any, before_first, after_first, prefix_len, position_or_len}
use Rattle.mlr_spec.specs.Infer.{digit, are_digits, unsigned, is_e, is_fraction}
use Rattle.mlr_infer.specs.Fraction.{fraction_from}

-- the first of a text that passes, by one byte more
before_first-no : (p : ℕ → Bool) (b : ℕ) (text : List ℕ) → p b ≡ false → before_first p (b ∷ text) ≡ b ∷ before_first p text
before_first-no p b text e =
    let n = position_or_len p text in
    let one_more : 1 + n ≡ suc n = omega arith in
    ap (λ t. take (cond (not t) (1 + n) 0) (b ∷ text)) e ∙ ap (λ k. take k (b ∷ text)) one_more

before_first-yes : (p : ℕ → Bool) (b : ℕ) (text : List ℕ) → p b ≡ true → before_first p (b ∷ text) ≡ []
before_first-yes p b text e = ap (λ t. take (cond (not t) (1 + position_or_len p text) 0) (b ∷ text)) e

after_first-no : (p : ℕ → Bool) (b : ℕ) (text : List ℕ) → p b ≡ false → after_first p (b ∷ text) ≡ after_first p text
after_first-no p b text e =
    let n = position_or_len p text in
    let one_more : 1 + n + 1 ≡ suc (n + 1) = omega arith in
    ap (λ t. drop (cond (not t) (1 + n) 0 + 1) (b ∷ text)) e ∙ ap (λ k. drop k (b ∷ text)) one_more

after_first-yes : (p : ℕ → Bool) (b : ℕ) (text : List ℕ) → p b ≡ true → after_first p (b ∷ text) ≡ text
after_first-yes p b text e = ap (λ t. drop (cond (not t) (1 + position_or_len p text) 0 + 1) (b ∷ text)) e

abbrev is_point : ℕ → Bool
is_point b = b == 46

abbrev pub is_decimal : ℕ → Bool
is_decimal b = nat_lt (digit b) 10

abbrev has_bytes : List ℕ → Bool
has_bytes [] = false
has_bytes (b ∷ text) = true

-- the mantissa alone
abbrev mantissa_from : Bool → Bool → List ℕ → Bool
mantissa_from digits point [] = digits
mantissa_from digits point (b ∷ text) =
    cond (is_point b) (not point && mantissa_from digits true text) (is_decimal b && mantissa_from true point text)

or_true : (t : Bool) → (t || true) ≡ true
or_true true = refl
or_true false = refl

or_false : (t : Bool) → (t || false) ≡ t
or_false true = refl
or_false false = refl

only_digits : (t : Bool) → t ≡ ((t || false) && true)
only_digits true = refl
only_digits false = refl

point_is_no_digit : (b : ℕ) → is_point b ≡ true → is_decimal b ≡ false
point_is_no_digit b e = ap is_decimal (eqb-true b 46 e)

digit_is_no_point : (b : ℕ) → is_decimal b ≡ true → is_point b ≡ false
digit_is_no_point b e = false_from_ne_true (is_point b) (λ h. true≢false (sym e ∙ point_is_no_digit b h))

digit_is_no_e : (b : ℕ) → is_decimal b ≡ true → is_e b ≡ false
digit_is_no_e b e =
    or_from (b == 101) (b == 69)
    (false_from_ne_true (b == 101) (λ h. true≢false (sym e ∙ ap is_decimal (eqb-true b 101 h))))
    (false_from_ne_true (b == 69) (λ h. true≢false (sym e ∙ ap is_decimal (eqb-true b 69 h))))

-- after the point
after_point_step : (digits : Bool) (b : ℕ) (text : List ℕ) (t : Bool) → is_point b ≡ t
    → mantissa_from true true text ≡ list_all is_decimal text
    → cond t false (is_decimal b && mantissa_from true true text) ≡ ((digits || true) && (is_decimal b && list_all is_decimal text))
after_point_step digits b text true e h =
    ap (λ u. u && list_all is_decimal text) (sym (point_is_no_digit b e))
    ∙ ap (λ u. u && (is_decimal b && list_all is_decimal text)) (sym (or_true digits))
after_point_step digits b text false e h =
    ap (λ u. is_decimal b && u) h ∙ ap (λ u. u && (is_decimal b && list_all is_decimal text)) (sym (or_true digits))

after_point : (digits : Bool) (text : List ℕ) → mantissa_from digits true text ≡ ((digits || has_bytes text) && list_all is_decimal text)
after_point digits [] = only_digits digits
after_point digits (b ∷ text) = after_point_step digits b text (is_point b) refl (after_point true text)

abbrev without_point : List ℕ → List ℕ
without_point text = before_first is_point text ++ after_first is_point text

abbrev digits_alone : Bool → List ℕ → Bool
digits_alone digits text = (digits || has_bytes text) && list_all is_decimal text

before_point_step : (digits : Bool) (b : ℕ) (text : List ℕ) (t : Bool) → is_point b ≡ t
    → mantissa_from digits true text ≡ digits_alone digits text
    → mantissa_from true false text ≡ list_all is_decimal (without_point text)
    → cond t (mantissa_from digits true text) (is_decimal b && mantissa_from true false text) ≡ digits_alone digits (without_point (b ∷ text))
before_point_step digits b text true e h k =
    h ∙ sym (ap (λ (w : List ℕ). digits_alone digits (w ++ after_first is_point (b ∷ text))) (before_first-yes is_point b text e)
    ∙ ap (λ (w : List ℕ). digits_alone digits w) (after_first-yes is_point b text e))
before_point_step digits b text false e h k =
    ap (λ u. is_decimal b && u) k
    ∙ ap (λ u. u && (is_decimal b && list_all is_decimal (without_point text))) (sym (or_true digits))
    ∙ sym (ap (λ (w : List ℕ). digits_alone digits (w ++ after_first is_point (b ∷ text))) (before_first-no is_point b text e)
    ∙ ap (λ (w : List ℕ). digits_alone digits ((b ∷ before_first is_point text) ++ w)) (after_first-no is_point b text e))

before_point : (digits : Bool) (text : List ℕ) → mantissa_from digits false text ≡ digits_alone digits (without_point text)
before_point digits [] = only_digits digits
before_point digits (b ∷ text) = before_point_step digits b text (is_point b) refl (after_point digits text) (before_point true text)

are_digits-alone : (text : List ℕ) → digits_alone false text ≡ are_digits 10 text
are_digits-alone [] = refl
are_digits-alone (b ∷ text) = refl

-- the exponent, too
abbrev has_exponent : Bool → List ℕ → Bool
has_exponent any text = not any || are_digits 10 (unsigned text)

abbrev parts : Bool → Bool → List ℕ → Bool
parts digits point text = mantissa_from digits point (before_first is_e text) && has_exponent (list_any is_e text) (after_first is_e text)

shared : (q x y m n e f g : Bool) → f ≡ (m && e) → g ≡ (n && e) → cond q (x && f) (y && g) ≡ (cond q (x && m) (y && n) && e)
shared true true y m n e f g h k = h
shared true false y m n e f g h k = refl
shared false x true m n e f g h k = k
shared false x false m n e f g h k = refl

parts_step : (digits point : Bool) (b : ℕ) (text : List ℕ) (t : Bool) → is_e b ≡ t
    → fraction_from digits true text ≡ parts digits true text
    → fraction_from true point text ≡ parts true point text
    → cond t (digits && are_digits 10 (unsigned text)) (cond (is_point b) (not point && fraction_from digits true text) (is_decimal b && fraction_from true point text)) ≡ parts digits point (b ∷ text)
parts_step digits point b text true e h k =
    sym (ap (λ (w : List ℕ). mantissa_from digits point w && has_exponent (list_any is_e (b ∷ text)) (after_first is_e (b ∷ text))) (before_first-yes is_e b text e)
    ∙ ap (λ (w : List ℕ). digits && has_exponent (list_any is_e (b ∷ text)) w) (after_first-yes is_e b text e)
    ∙ ap (λ u. digits && has_exponent (u || list_any is_e text) text) e)
parts_step digits point b text false e h k =
    shared (is_point b) (not point) (is_decimal b) _ _ _ _ _ h k
    ∙ sym (ap (λ (w : List ℕ). mantissa_from digits point w && has_exponent (list_any is_e (b ∷ text)) (after_first is_e (b ∷ text))) (before_first-no is_e b text e)
    ∙ ap (λ (w : List ℕ). mantissa_from digits point (b ∷ before_first is_e text) && has_exponent (list_any is_e (b ∷ text)) w) (after_first-no is_e b text e)
    ∙ ap (λ u. mantissa_from digits point (b ∷ before_first is_e text) && has_exponent (u || list_any is_e text) (after_first is_e text)) e)

and_true : (t : Bool) → t ≡ (t && true)
and_true true = refl
and_true false = refl

fraction_from-parts : (digits point : Bool) (text : List ℕ) → fraction_from digits point text ≡ parts digits point text
fraction_from-parts digits point [] = and_true digits
fraction_from-parts digits point (b ∷ text) =
    parts_step digits point b text (is_e b) refl (fraction_from-parts digits true text) (fraction_from-parts true point text)

pub fraction_from-whole : (text : List ℕ) → fraction_from false false text ≡ is_fraction text
fraction_from-whole text =
    fraction_from-parts false false text
    ∙ ap (λ u. u && has_exponent (list_any is_e text) (after_first is_e text))
    (before_point false (before_first is_e text) ∙ are_digits-alone (without_point (before_first is_e text)))

-- after the digits that a text begins with
digits_step : (digits : Bool) (b : ℕ) (text : List ℕ) (t : Bool) → is_decimal b ≡ t
    → fraction_from true false text ≡ fraction_from true false (drop (prefix_len is_decimal text) text)
    → fraction_from (digits || nat_lt 0 (cond t (1 + prefix_len is_decimal text) 0)) false (drop (cond t (1 + prefix_len is_decimal text) 0) (b ∷ text)) ≡ fraction_from digits false (b ∷ text)
digits_step digits b text true e h =
    let n = prefix_len is_decimal text in
    let one_more : 1 + n ≡ suc n = omega arith in
    ap (λ t. fraction_from (digits || t) false (drop (1 + n) (b ∷ text))) (lt-ltb 0 (1 + n) (omega arith))
    ∙ ap (λ t. fraction_from t false (drop (1 + n) (b ∷ text))) (or_true digits)
    ∙ ap (λ k. fraction_from true false (drop k (b ∷ text))) one_more
    ∙ sym h
    ∙ sym (ap (λ t. cond t (digits && are_digits 10 (unsigned text)) (cond (is_point b) (fraction_from digits true text) (is_decimal b && fraction_from true false text))) (digit_is_no_e b e)
    ∙ ap (λ t. cond t (fraction_from digits true text) (is_decimal b && fraction_from true false text)) (digit_is_no_point b e)
    ∙ ap (λ t. t && fraction_from true false text) e)
digits_step digits b text false e h = ap (λ t. fraction_from t false (b ∷ text)) (or_false digits)

digits_first : (digits : Bool) (text : List ℕ) → fraction_from (digits || nat_lt 0 (prefix_len is_decimal text)) false (drop (prefix_len is_decimal text) text) ≡ fraction_from digits false text
digits_first digits [] = or_false digits
digits_first digits (b ∷ text) = digits_step digits b text (is_decimal b) refl (sym (digits_first true text))

fraction_from-digits : (text : List ℕ) → fraction_from (nat_lt 0 (prefix_len is_decimal text)) false (drop (prefix_len is_decimal text) text) ≡ is_fraction text
fraction_from-digits text = digits_first false text ∙ fraction_from-whole text

pub is_fraction-following : (place : ℕ) (text : List ℕ) (fraction : Bool) → place ≡ prefix_len is_decimal text
    → fraction ≡ fraction_from (nat_lt 0 place) false (take (length text - place) (drop place text)) → fraction ≡ is_fraction text
is_fraction-following place text fraction e f =
    f ∙ ap (λ (rest : List ℕ). fraction_from (nat_lt 0 place) false rest) (take_rest text place)
    ∙ ap (λ n. fraction_from (nat_lt 0 n) false (drop n text)) e
    ∙ fraction_from-digits text
