-- A lexeme at the start of a text, and bytes after it.
use Rattle.std.proofs.Common.{◌≡◌, ℕ, ◌+◌, ◌<◌, ◌≤◌, Bool, true, false, cond, ◌==◌, nat_lt, nat_le, eqb, List, [], ◌∷◌, ◌++◌, length, take, Some, None, ◌⊎◌, inl, inr, refl, ap, ap₂, sym, ◌∙◌, arith}
use Rattle.std.specs.List.{prefix_len, take_while}
use Rattle.std.proofs.lemmas.Bool.{cases_Bool, true≢false, eqb-true, leb-true, le-leb}
use Rattle.std.proofs.lemmas.List.{take-append-le}
use Rattle.std.proofs.lemmas.List.Folds.{prefix_len-append}
use Rattle.std.proofs.lemmas.List.Sums.{prefix_len-le-length}
use Rattle.mlr_spec.specs.Infer.{number}
use Rattle.mlr_spec.specs.JsonTokens.{raw, unit, Lexeme, blank, mark, word, quote, piece, Scanned, found, begun, bad, mark_of, is_blank, is_word_byte, is_hex, is_raw, escape_of, lexeme_unmarked, lexeme_outside, lexeme_of_unit, lexeme_of_escape, lexeme_inside}
use Rattle.mlr_json.specs.Stable.{is_run, StaysFound}

-- a run that ends before the text ends there with more bytes after it too
pub run-stays : (p : ℕ → Bool) (text more : List ℕ) → prefix_len p text < length text → prefix_len p (text ++ more) ≡ prefix_len p text
run-stays p text more below =
    elim (cases_Bool (eqb (prefix_len p text) (length text))) [
      | inl y ↦ let same : prefix_len p text ≡ length text = eqb-true (prefix_len p text) (length text) y in absurd (omega arith)
      | inr n ↦ prefix_len-append p text more ∙ ap (λ b. cond b (length text + prefix_len p more) (prefix_len p text)) n
    ]

taken-stays : (p : ℕ → Bool) (text more : List ℕ) → prefix_len p text < length text → take_while p (text ++ more) ≡ take_while p text
taken-stays p text more below =
    ap (λ n. take n (text ++ more)) (run-stays p text more below) ∙ take-append-le (prefix_len p text) text more (prefix_len-le-length p text)

-- what was found as a run of this length
abbrev RunOf : Lexeme → ℕ → List ℕ → Type 0
RunOf lexeme len text = (is_run lexeme ≡ false) ⊎ (len < length text)

shorter : (lexeme : Lexeme) (len : ℕ) (text : List ℕ) → is_run lexeme ≡ true → RunOf lexeme len text → len < length text
shorter lexeme len text run (inl fixed) = absurd (true≢false (sym run ∙ fixed))
shorter lexeme len text run (inr below) = below

-- the run that was found, with more bytes after it
run-found : (p : ℕ → Bool) (make : List ℕ → Lexeme) (text more : List ℕ) (lexeme : Lexeme) (len : ℕ) → ((t : List ℕ) → is_run (make t) ≡ true)
    → found (make (take_while p text)) (prefix_len p text) ≡ found lexeme len → RunOf lexeme len text
    → found (make (take_while p (text ++ more))) (prefix_len p (text ++ more)) ≡ found lexeme len
run-found p make text more lexeme len runs is run =
    let same : make (take_while p text) ≡ lexeme = cc in
    let many : prefix_len p text ≡ len = cc in
    let below : len < length text = shorter lexeme len text (ap is_run (sym same) ∙ runs (take_while p text)) run in
    let ends : prefix_len p text < length text = omega arith in
    ap₂ (λ t n. found (make t) n) (taken-stays p text more ends) (run-stays p text more ends) ∙ is

-- the start of a text by its first byte
blank-prefix : (b : ℕ) (t : List ℕ) → is_blank b ≡ true → lexeme_unmarked (b ∷ t) ≡ found blank (prefix_len is_blank (b ∷ t))
blank-prefix b t y =
    ap (λ v. cond v (found blank (prefix_len is_blank (b ∷ t))) (cond (b == 34) (found quote 1)
    (cond (is_word_byte b) (found (word (take_while is_word_byte (b ∷ t))) (prefix_len is_word_byte (b ∷ t))) (bad 0)))) y

word-prefix : (b : ℕ) (t : List ℕ) → is_blank b ≡ false → (b == 34) ≡ false → is_word_byte b ≡ true
    → lexeme_unmarked (b ∷ t) ≡ found (word (take_while is_word_byte (b ∷ t))) (prefix_len is_word_byte (b ∷ t))
word-prefix b t n1 n2 y =
    let last : Scanned = found (word (take_while is_word_byte (b ∷ t))) (prefix_len is_word_byte (b ∷ t)) in
    ap (λ v. cond v (found blank (prefix_len is_blank (b ∷ t))) (cond (b == 34) (found quote 1) (cond (is_word_byte b) last (bad 0)))) n1
    ∙ ap (λ v. cond v (found quote 1) (cond (is_word_byte b) last (bad 0))) n2 ∙ ap (λ v. cond v last (bad 0)) y

raw-prefix : (b : ℕ) (t : List ℕ) → (b == 34) ≡ false → (b == 92) ≡ false → lexeme_inside (b ∷ t) ≡ found (piece (raw (take_while is_raw (b ∷ t)))) (prefix_len is_raw (b ∷ t))
unfolding lexeme_inside
raw-prefix b t n1 n2 =
    let last : Scanned = found (piece (raw (take_while is_raw (b ∷ t)))) (prefix_len is_raw (b ∷ t)) in
    ap (λ v. cond v (found quote 1) (cond (b == 92) (lexeme_of_escape t) last)) n1 ∙ ap (λ v. cond v (lexeme_of_escape t) last) n2

unmarked-stays : (b : ℕ) (t more : List ℕ) (lexeme : Lexeme) (len : ℕ) → lexeme_unmarked (b ∷ t) ≡ found lexeme len → RunOf lexeme len (b ∷ t) → lexeme_unmarked (b ∷ (t ++ more)) ≡ found lexeme len
unmarked-stays b t more lexeme len is run =
    elim (cases_Bool (is_blank b)) [
      | inl y ↦
          blank-prefix b (t ++ more) y ∙ run-found is_blank (λ _. blank) (b ∷ t) more lexeme len (λ _. refl) (sym (blank-prefix b t y) ∙ is) run
      | inr n1 ↦ elim (cases_Bool (b == 34)) [
        | inl y ↦
            let here : found quote 1 ≡ found lexeme len = sym (rw (n1, y) refl) ∙ is in
            rw (n1, y) here
        | inr n2 ↦ elim (cases_Bool (is_word_byte b)) [
          | inl y ↦
              word-prefix b (t ++ more) n1 n2 y ∙ run-found is_word_byte word (b ∷ t) more lexeme len (λ _. refl) (sym (word-prefix b t n1 n2 y) ∙ is) run
          | inr n3 ↦
              let here : bad 0 ≡ found lexeme len = sym (rw (n1, n2, n3) refl) ∙ is in
              absurd (let e : bad 0 ≡ found lexeme len = here in cc)
        ]
      ]
    ]

outside-stays : (b : ℕ) (t more : List ℕ) (lexeme : Lexeme) (len : ℕ) → lexeme_outside (b ∷ t) ≡ found lexeme len → RunOf lexeme len (b ∷ t) → lexeme_outside (b ∷ (t ++ more)) ≡ found lexeme len
unfolding lexeme_outside
outside-stays b t more lexeme len is run =
    elim (mark_of b) as (λ o. (elim o as (λ _. Scanned) [ Some m ↦ found (mark m) 1 | None ↦ lexeme_unmarked (b ∷ t) ] ≡ found lexeme len)
    → (elim o as (λ _. Scanned) [ Some m ↦ found (mark m) 1 | None ↦ lexeme_unmarked (b ∷ (t ++ more)) ] ≡ found lexeme len)) [
      | Some m ↦ λ h. h
      | None ↦ λ h. unmarked-stays b t more lexeme len h run
    ] is

unit-stays : (text more : List ℕ) (lexeme : Lexeme) (len : ℕ) → lexeme_of_unit text ≡ found lexeme len → lexeme_of_unit (text ++ more) ≡ found lexeme len
unit-stays text more lexeme len is =
    elim (cases_Bool (nat_le 4 (prefix_len is_hex text))) [
      | inl y ↦
          let here : found (piece (unit (number 16 (take 4 text)))) 6 ≡ found lexeme len = sym (rw y refl) ∙ is in
          let long : 4 ≤ prefix_len is_hex text = leb-true 4 (prefix_len is_hex text) y in
          let four : 4 ≤ length text = omega (arith, prefix_len-le-length is_hex text) in
          let longer : 4 ≤ prefix_len is_hex (text ++ more) = hex-longer text more long in
          rw (le-leb 4 (prefix_len is_hex (text ++ more)) longer) (ap (λ t. found (piece (unit (number 16 t))) 6) (take-append-le 4 text more four) ∙ here)
      | inr n ↦ absurd (not-unit (prefix_len is_hex text == length text) (sym (rw n refl) ∙ is))
    ]
  where
    not-unit : (b : Bool) → cond b begun (bad (2 + prefix_len is_hex text)) ≡ found lexeme len → ⊥
    not-unit true e = let f : begun ≡ found lexeme len = e in cc
    not-unit false e = let f : bad (2 + prefix_len is_hex text) ≡ found lexeme len = e in cc

    hex-longer : (t u : List ℕ) → 4 ≤ prefix_len is_hex t → 4 ≤ prefix_len is_hex (t ++ u)
    hex-longer t u h =
        elim (cases_Bool (eqb (prefix_len is_hex t) (length t))) [
          | inl y ↦
              let is_all : prefix_len is_hex (t ++ u) ≡ length t + prefix_len is_hex u = prefix_len-append is_hex t u ∙ ap (λ b. cond b (length t + prefix_len is_hex u) (prefix_len is_hex t)) y in
              omega (arith, prefix_len-le-length is_hex t)
          | inr n ↦
              let same : prefix_len is_hex (t ++ u) ≡ prefix_len is_hex t = prefix_len-append is_hex t u ∙ ap (λ b. cond b (length t + prefix_len is_hex u) (prefix_len is_hex t)) n in
              omega arith
        ]

pub escape-stays : (text more : List ℕ) (lexeme : Lexeme) (len : ℕ) → lexeme_of_escape text ≡ found lexeme len → lexeme_of_escape (text ++ more) ≡ found lexeme len
escape-stays [] more lexeme len is = absurd (let e : begun ≡ found lexeme len = is in cc)
escape-stays (c ∷ text) more lexeme len is =
    elim (cases_Bool (c == 117)) [
      | inl y ↦
          let here : lexeme_of_unit text ≡ found lexeme len = sym (rw y refl) ∙ is in
          rw y (unit-stays text more lexeme len here)
      | inr n ↦
          let here : cond (nat_lt 0 (escape_of c)) (found (piece (raw (escape_of c ∷ []))) 2) (bad 1) ≡ found lexeme len = sym (rw n refl) ∙ is in
          rw n here
    ]

inside-stays : (b : ℕ) (t more : List ℕ) (lexeme : Lexeme) (len : ℕ) → lexeme_inside (b ∷ t) ≡ found lexeme len → RunOf lexeme len (b ∷ t) → lexeme_inside (b ∷ (t ++ more)) ≡ found lexeme len
unfolding lexeme_inside
inside-stays b t more lexeme len is run =
    elim (cases_Bool (b == 34)) [
      | inl y ↦
          let here : found quote 1 ≡ found lexeme len = sym (rw y refl) ∙ is in
          rw y here
      | inr n1 ↦ elim (cases_Bool (b == 92)) [
        | inl y ↦
            let here : lexeme_of_escape t ≡ found lexeme len = sym (rw (n1, y) refl) ∙ is in
            rw (n1, y) (escape-stays t more lexeme len here)
        | inr n2 ↦
            raw-prefix b (t ++ more) n1 n2 ∙ run-found is_raw (λ x. piece (raw x)) (b ∷ t) more lexeme len (λ _. refl) (sym (raw-prefix b t n1 n2) ∙ is) run
      ]
    ]

pub stays-found : (inside : Bool) (text more : List ℕ) → StaysFound inside text more
unfolding lexeme_outside lexeme_inside
stays-found true [] more lexeme len is run = absurd (let e : begun ≡ found lexeme len = is in cc)
stays-found false [] more lexeme len is run = absurd (let e : begun ≡ found lexeme len = is in cc)
stays-found true (b ∷ t) more lexeme len is run = inside-stays b t more lexeme len is run
stays-found false (b ∷ t) more lexeme len is run = outside-stays b t more lexeme len is run
