-- A number's text is a word, and no other word than that number.
use Rattle.std.proofs.Common.{◌≡◌, ℕ, ◌<◌, ◌≤◌, Bool, true, false, cond, not, ◌||◌, ◌&&◌, ◌==◌, nat_lt, nat_le, List, [], ◌∷◌, Some, None, ◌⊎◌, inl, inr, refl, ap, sym, subst, ◌∙◌, arith}
use Rattle.std.specs.List.{list_all}
use Rattle.std.specs.Str.{bytes_eq}
use Rattle.std.specs.Prelude.{codes}
use Rattle.std.proofs.lemmas.Bool.{or_right, eqb-true, cases_Bool, and_parts, ltb-true, leb-true, le-leb, false_from_ne_true, true≢false}
use Rattle.std.proofs.lemmas.Slice.Eq.{bytes_eq-Decides}
use Rattle.mlr_spec.specs.declared.infer.Kind.{Kind}
use Rattle.mlr_spec.specs.declared.infer.Kind.TheVariants.{Empty, Str, Int, Frac, Wide}
use Rattle.mlr_spec.specs.Infer.{digit, are_digits, is_negative, unsigned, base_of_letter, is_based, is_e, is_fraction, kind_after_sign, kind_of}
use Rattle.mlr_spec.specs.Tree.{Tree}
use Rattle.mlr_spec.specs.JsonTokens.{is_word_byte, number_of_kind, word_value, word_token, token_of_word}
use Rattle.mlr_infer.specs.Fraction.{fraction_from}
use Rattle.mlr_infer.proofs.Fractions.{fraction_from-whole}
use Rattle.mlr_json.specs.Readable.{plain}

or-left : (a b : Bool) → a ≡ true → (a || b) ≡ true
or-left a b h = ap (λ x. x || b) h

module _ (c : ℕ) where
  lower : Bool
  lower = nat_le 97 c && nat_le c 122

  and-true : (a b : Bool) → a ≡ true → b ≡ true → (a && b) ≡ true
  and-true a b h k = ap (λ x. x && b) h ∙ k

  letter-word : 97 ≤ c → c ≤ 122 → is_word_byte c ≡ true
  letter-word low high =
      or-left _ _ (or-left _ _ (or-left _ _ (or-left _ _ (or-left _ _ (or-left _ _ (and-true (nat_le 97 c) (nat_le c 122) (le-leb 97 c low) (le-leb c 122 high)))))))

  capital-word : 65 ≤ c → c ≤ 90 → is_word_byte c ≡ true
  capital-word low high =
      or-left _ _ (or-left _ _ (or-left _ _ (or-left _ _ (or-left _ _ (or_right (nat_le 97 c && nat_le c 122) _ (and-true (nat_le 65 c) (nat_le c 90) (le-leb 65 c low) (le-leb c 90 high)))))))

  decimal-word : 48 ≤ c → c ≤ 57 → is_word_byte c ≡ true
  decimal-word low high =
      or-left _ _ (or-left _ _ (or-left _ _ (or-left _ _ (or_right (nat_le 97 c && nat_le c 122 || nat_le 65 c && nat_le c 90) _ (and-true (nat_le 48 c) (nat_le c 57) (le-leb 48 c low) (le-leb c 57 high))))))

  digit-word : (base : ℕ) → base ≤ 16 → nat_lt (digit c) base ≡ true → is_word_byte c ≡ true
  digit-word base small h =
      elim (cases_Bool (nat_le 48 c && nat_le c 57)) [
        | inl y ↦ let p = and_parts (nat_le 48 c) (nat_le c 57) y in decimal-word (leb-true 48 c p.0) (leb-true c 57 p.1)
        | inr n1 ↦ elim (cases_Bool (nat_le 97 c && nat_le c 102)) [
          | inl y ↦ let p = and_parts (nat_le 97 c) (nat_le c 102) y in let high : c ≤ 102 = leb-true c 102 p.1 in letter-word (leb-true 97 c p.0) (omega arith)
          | inr n2 ↦ elim (cases_Bool (nat_le 65 c && nat_le c 70)) [
            | inl y ↦ let p = and_parts (nat_le 65 c) (nat_le c 70) y in let high : c ≤ 70 = leb-true c 70 p.1 in capital-word (leb-true 65 c p.0) (omega arith)
            | inr n3 ↦
                let none : digit c ≡ 16 = rw (n1, n2, n3) refl in
                let below : digit c < base = ltb-true (digit c) base h in
                absurd (omega arith)
          ]
        ]
      ]

digits-words : (base : ℕ) (t : List ℕ) → base ≤ 16 → list_all (λ c. nat_lt (digit c) base) t ≡ true → list_all is_word_byte t ≡ true
digits-words base [] small h = refl
digits-words base (c ∷ t) small h =
    let p = and_parts (nat_lt (digit c) base) (list_all (λ x. nat_lt (digit x) base) t) h in
    and-true c (is_word_byte c) (list_all is_word_byte t) (digit-word c base small p.0) (digits-words base t small p.1)

are_digits-words : (base : ℕ) (t : List ℕ) → base ≤ 16 → are_digits base t ≡ true → list_all is_word_byte t ≡ true
are_digits-words base [] small h = refl
are_digits-words base (c ∷ t) small h = digits-words base (c ∷ t) small h

-- a sign before it
same-word : (b c : ℕ) → (b == c) ≡ true → is_word_byte c ≡ true → is_word_byte b ≡ true
same-word b c h k = ap is_word_byte (eqb-true b c h) ∙ k

or-cases : (a b : Bool) → (a || b) ≡ true → (a ≡ true) ⊎ (b ≡ true)
or-cases true b h = inl refl
or-cases false b h = inr h

unsigned-words : (t : List ℕ) → list_all is_word_byte (unsigned t) ≡ true → list_all is_word_byte t ≡ true
unsigned-words [] h = refl
unsigned-words (b ∷ t) h =
    elim (cases_Bool (b == 43 || b == 45)) [
      | inl y ↦
          let here : is_word_byte b ≡ true = elim (or-cases (b == 43) (b == 45) y) [ inl p ↦ same-word b 43 p refl | inr p ↦ same-word b 45 p refl ] in
          and-true b (is_word_byte b) (list_all is_word_byte t) here (ap (λ v. list_all is_word_byte (cond v t (b ∷ t))) (sym y) ∙ h)
      | inr n ↦ ap (λ v. list_all is_word_byte (cond v t (b ∷ t))) (sym n) ∙ h
    ]

-- a fraction
fraction-words : (digits point : Bool) (t : List ℕ) → fraction_from digits point t ≡ true → list_all is_word_byte t ≡ true
fraction-words digits point [] h = refl
fraction-words digits point (b ∷ t) h =
    elim (cases_Bool (is_e b)) [
      | inl y ↦
          let here : is_word_byte b ≡ true = elim (or-cases (b == 101) (b == 69) y) [ inl p ↦ same-word b 101 p refl | inr p ↦ same-word b 69 p refl ] in
          let rest : (digits && are_digits 10 (unsigned t)) ≡ true = ap (λ v. cond v (digits && are_digits 10 (unsigned t)) (cond (b == 46) (not point && fraction_from digits true t) (nat_lt (digit b) 10 && fraction_from true point t))) (sym y) ∙ h in
          and-true b (is_word_byte b) (list_all is_word_byte t) here (unsigned-words t (are_digits-words 10 (unsigned t) (omega arith) (and_parts digits (are_digits 10 (unsigned t)) rest).1))
      | inr n ↦
          let rest : cond (b == 46) (not point && fraction_from digits true t) (nat_lt (digit b) 10 && fraction_from true point t) ≡ true =
          ap (λ v. cond v (digits && are_digits 10 (unsigned t)) (cond (b == 46) (not point && fraction_from digits true t) (nat_lt (digit b) 10 && fraction_from true point t))) (sym n) ∙ h in
          elim (cases_Bool (b == 46)) [
            | inl y ↦
                let more : (not point && fraction_from digits true t) ≡ true = ap (λ v. cond v (not point && fraction_from digits true t) (nat_lt (digit b) 10 && fraction_from true point t)) (sym y) ∙ rest in
                and-true b (is_word_byte b) (list_all is_word_byte t) (same-word b 46 y refl) (fraction-words digits true t (and_parts (not point) (fraction_from digits true t) more).1)
            | inr k ↦
                let more : (nat_lt (digit b) 10 && fraction_from true point t) ≡ true = ap (λ v. cond v (not point && fraction_from digits true t) (nat_lt (digit b) 10 && fraction_from true point t)) (sym k) ∙ rest in
                let p = and_parts (nat_lt (digit b) 10) (fraction_from true point t) more in
                and-true b (is_word_byte b) (list_all is_word_byte t) (digit-word b 10 (omega arith) p.0) (fraction-words true point t p.1)
          ]
    ]

-- a text in a base that it names
base-small : (b : ℕ) → (base_of_letter b ≤ 16) × ((is_word_byte b ≡ true) ⊎ (base_of_letter b ≡ 0))
base-small b =
    elim (cases_Bool (b == 120 || b == 88)) [
      | inl y ↦ (rw y (omega arith), inl (elim (or-cases (b == 120) (b == 88) y) [ inl p ↦ same-word b 120 p refl | inr p ↦ same-word b 88 p refl ]))
      | inr n1 ↦ elim (cases_Bool (b == 98 || b == 66)) [
        | inl y ↦ (rw (n1, y) (omega arith), inl (elim (or-cases (b == 98) (b == 66) y) [ inl p ↦ same-word b 98 p refl | inr p ↦ same-word b 66 p refl ]))
        | inr n2 ↦ elim (cases_Bool (b == 111 || b == 79)) [
          | inl y ↦ (rw (n1, n2, y) (omega arith), inl (elim (or-cases (b == 111) (b == 79) y) [ inl p ↦ same-word b 111 p refl | inr p ↦ same-word b 79 p refl ]))
          | inr n3 ↦ (rw (n1, n2, n3) (omega arith), inr (rw (n1, n2, n3) refl))
        ]
      ]
    ]

no-digits : (t : List ℕ) → are_digits 0 t ≡ true → ⊥
no-digits [] h = true≢false (sym h)
no-digits (c ∷ t) h =
    let below : digit c < 0 = ltb-true (digit c) 0 (and_parts (nat_lt (digit c) 0) (list_all (λ x. nat_lt (digit x) 0) t) h).0 in
    omega arith

based-words : (t : List ℕ) → is_based t ≡ true → list_all is_word_byte t ≡ true
based-words [] h = refl
based-words (z ∷ []) h = absurd (true≢false (sym h))
based-words (z ∷ b ∷ t) h =
    elim (cases_Bool (z == 48)) [
      | inl y ↦
          let digits : are_digits (base_of_letter b) t ≡ true = ap (λ v. are_digits (cond v (base_of_letter b) 0) t) (sym y) ∙ h in
          let small = base-small b in
          elim small.1 [
            | inl here ↦ and-true z (is_word_byte z) (list_all is_word_byte (b ∷ t)) (same-word z 48 y refl)
                (and-true b (is_word_byte b) (list_all is_word_byte t) here (are_digits-words (base_of_letter b) t small.0 digits))
            | inr none ↦ absurd (no-digits t (ap (λ n. are_digits n t) (sym none) ∙ digits))
          ]
      | inr n ↦ absurd (no-digits t (ap (λ v. are_digits (cond v (base_of_letter b) 0) t) (sym n) ∙ h))
    ]

-- ---- kinds

abbrev pub IsNumber : Kind → Type 0
IsNumber Empty = ⊥
IsNumber Str = ⊥
IsNumber (Int n) = Unit {0}
IsNumber Frac = Unit {0}
IsNumber Wide = Unit {0}

following-sign-words : (negative : Bool) (t : List ℕ) → IsNumber (kind_after_sign false negative t) → list_all is_word_byte t ≡ true
unfolding kind_after_sign
following-sign-words negative t h =
    elim (cases_Bool (are_digits 10 t)) [
      | inl y ↦ are_digits-words 10 t (omega arith) y
      | inr n1 ↦ elim (cases_Bool (is_based t)) [
        | inl y ↦ based-words t y
        | inr n2 ↦ elim (cases_Bool (is_fraction t)) [
          | inl y ↦ fraction-words false false t (fraction_from-whole t ∙ y)
          | inr n3 ↦
              let str : kind_after_sign false negative t ≡ Str = rw (n1, n2, n3) refl in
              absurd (subst IsNumber str h)
        ]
      ]
    ]

pub number-words : (t : List ℕ) → IsNumber (kind_of plain t) → list_all is_word_byte t ≡ true
number-words [] h = refl
number-words (b ∷ t) h = unsigned-words (b ∷ t) (following-sign-words (is_negative (b ∷ t)) (unsigned (b ∷ t)) h)

no-keyword : (t keyword : List ℕ) → IsNumber (kind_of plain t) → kind_of plain keyword ≡ Str → bytes_eq t keyword ≡ false
no-keyword t keyword h str =
    false_from_ne_true (bytes_eq t keyword) (λ e. subst IsNumber (ap (kind_of plain) ((bytes_eq-Decides t keyword).0 e) ∙ str) h)

pub number-value : (t : List ℕ) (value : Tree) → IsNumber (kind_of plain t) → number_of_kind (kind_of plain t) false t ≡ Some value → token_of_word plain t ≡ Some (word_token value)
unfolding kind_after_sign
number-value t value h is =
    let w : word_value plain t ≡ Some value = rw (no-keyword t (codes "true") h refl, no-keyword t (codes "false") h refl, no-keyword t (codes "null") h refl) is in
    ap (λ o. elim o [ Some v ↦ Some (word_token v) | None ↦ None ]) w
