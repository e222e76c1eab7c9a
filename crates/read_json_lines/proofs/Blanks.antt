-- A run of blanks that continues in the next piece, and bad bytes, which stay bad whatever follows.
use Rattle.std.proofs.Common.{◌≡◌, ℕ, zero, suc, ◌+◌, ◌≤◌, Bool, true, false, cond, ◌==◌, List, [], ◌∷◌, ◌++◌, length, drop, Some, None, inl, inr, refl, ap, sym, ◌∙◌, arith}
use Rattle.std.specs.List.{prefix_len, take_while}
use Rattle.std.proofs.lemmas.Bool.{cases_Bool, true≢false, eqb-true}
use Rattle.mlr_spec.specs.declared.infer.InferOpts.{InferOpts}
use Rattle.mlr_spec.specs.JsonTokens.{Piece, Lexeme, blank, mark, word, quote, piece, Scanned, found, begun, bad, mark_of, is_blank, is_word_byte, lexeme_unmarked, lexeme_outside}
use Rattle.read_json_lines.specs.Streams.{outside, is_between}
use Rattle.read_json_lines.proofs.Outside.{outside-one-blank}

-- the bytes of a blank are blank bytes, and a blank byte begins a blank
module _ (c : ℕ) (is : is_blank c ≡ true) where
  differs : (k : ℕ) → is_blank k ≡ false → (c == k) ≡ false
  differs k none = elim (cases_Bool (c == k)) [
    | inl y ↦ absurd (true≢false (sym is ∙ ap is_blank (eqb-true c k y) ∙ none))
    | inr n ↦ n
  ]

  no-mark : mark_of c ≡ None
  no-mark = rw (differs 123 refl, differs 125 refl, differs 91 refl, differs 93 refl, differs 58 refl, differs 44 refl) refl

  blank-prefix : (t : List ℕ) → lexeme_outside (c ∷ t) ≡ found blank (prefix_len is_blank (c ∷ t))
  unfolding lexeme_outside
  blank-prefix t =
      let rest : Scanned = cond (c == 34) (found quote 1) (cond (is_word_byte c) (found (word (take_while is_word_byte (c ∷ t))) (prefix_len is_word_byte (c ∷ t))) (bad 0)) in
      ap (λ o. elim o as (λ _. Scanned) [ Some m ↦ found (mark m) 1 | None ↦ lexeme_unmarked (c ∷ t) ]) no-mark
      ∙ ap (λ v. cond v (found blank (prefix_len is_blank (c ∷ t))) rest) is

found-blank : (b : ℕ) (t : List ℕ) (n : ℕ) → lexeme_outside (b ∷ t) ≡ found blank n → (is_blank b ≡ true) × (n ≡ prefix_len is_blank (b ∷ t))
unfolding lexeme_outside
found-blank b t n is =
    elim (mark_of b) as (λ o. (elim o as (λ _. Scanned) [ Some m ↦ found (mark m) 1 | None ↦ lexeme_unmarked (b ∷ t) ]) ≡ found blank n → (is_blank b ≡ true) × (n ≡ prefix_len is_blank (b ∷ t))) [
      | Some m ↦ λ h. absurd (let e : found (mark m) 1 ≡ found blank n = h in cc)
      | None ↦ λ h. by (is_blank b) (b == 34) (is_word_byte b) refl h
    ] is
  where
    by : (x y z : Bool) → is_blank b ≡ x → cond x (found blank (prefix_len is_blank (b ∷ t))) (cond y (found quote 1) (cond z (found (word (take_while is_word_byte (b ∷ t))) (prefix_len is_word_byte (b ∷ t))) (bad 0))) ≡ found blank n
        → (is_blank b ≡ true) × (n ≡ prefix_len is_blank (b ∷ t))
    by true y z xis h =
        let e : found blank (prefix_len is_blank (b ∷ t)) ≡ found blank n = h in
        (xis, cc)
    by false true z xis h = absurd (let e : found quote 1 ≡ found blank n = h in cc)
    by false false true xis h = absurd (let e : found (word (take_while is_word_byte (b ∷ t))) (prefix_len is_word_byte (b ∷ t)) ≡ found blank n = h in cc)
    by false false false xis h = absurd (let e : bad 0 ≡ found blank n = h in cc)

-- a blank byte can be dropped from a run of blanks
one-more : (b : ℕ) (t : List ℕ) → is_blank b ≡ true → prefix_len is_blank (b ∷ t) ≡ suc (prefix_len is_blank t)
one-more b t is = ap (λ v. cond v (1 + prefix_len is_blank t) 0) is ∙ sym (suc-is (prefix_len is_blank t))
  where
    suc-is : (n : ℕ) → suc n ≡ 1 + n
    suc-is n = omega arith

no-more : (b : ℕ) (t : List ℕ) → is_blank b ≡ false → prefix_len is_blank (b ∷ t) ≡ 0
no-more b t is = rw is refl

one-blank : (whole : Bool) (infer : InferOpts) (end : ℕ) (b : ℕ) (t : List ℕ) → length (b ∷ t) ≤ end → is_blank b ≡ true → outside whole infer end (b ∷ t) ≡ outside whole infer end t
one-blank whole infer end b [] fits is =
    outside-one-blank whole infer end (b ∷ []) fits (prefix_len is_blank (b ∷ [])) (blank-prefix b is []) ∙ ap (λ n. outside whole infer end (drop n (b ∷ []))) (one-more b [] is)
one-blank whole infer end b (c ∷ t) fits is =
    outside-one-blank whole infer end (b ∷ c ∷ t) fits (prefix_len is_blank (b ∷ c ∷ t)) (blank-prefix b is (c ∷ t))
    ∙ ap (λ n. outside whole infer end (drop n (b ∷ c ∷ t))) (one-more b (c ∷ t) is)
    ∙ (elim (cases_Bool (is_blank c)) as (λ _. outside whole infer end (drop (prefix_len is_blank (c ∷ t)) (c ∷ t)) ≡ outside whole infer end (c ∷ t)) [
      | inl y ↦ sym (outside-one-blank whole infer end (c ∷ t) (omega arith) (prefix_len is_blank (c ∷ t)) (blank-prefix c y t))
      | inr n ↦ ap (λ k. outside whole infer end (drop k (c ∷ t))) (no-more c t n)
    ])

blanks : (whole : Bool) (infer : InferOpts) (end : ℕ) (text bytes : List ℕ) (n : ℕ) → length (text ++ bytes) ≤ end → n ≤ prefix_len is_blank text → outside whole infer end (text ++ bytes) ≡ outside whole infer end (drop n text ++ bytes)
blanks whole infer end text bytes zero fits few = refl
blanks whole infer end [] bytes (suc n) fits few = refl
blanks whole infer end (b ∷ text) bytes (suc n) fits few =
    elim (cases_Bool (is_blank b)) [
      | inl y ↦
          let less : n ≤ prefix_len is_blank text = omega (arith, one-more b text y) in
          one-blank whole infer end b (text ++ bytes) fits y ∙ blanks whole infer end text bytes n (omega arith) less
      | inr none ↦ absurd (omega (arith, no-more b text none))
    ]

pub outside-blank : (whole : Bool) (infer : InferOpts) (end : ℕ) (text bytes : List ℕ) (n : ℕ) → length (text ++ bytes) ≤ end → lexeme_outside text ≡ found blank n → outside whole infer end (text ++ bytes) ≡ outside whole infer end (drop n text ++ bytes)
unfolding lexeme_outside
outside-blank whole infer end [] bytes n fits is = absurd (let e : begun ≡ found blank n = is in cc)
outside-blank whole infer end (b ∷ text) bytes n fits is =
    let all = (found-blank b text n is).1 in
    blanks whole infer end (b ∷ text) bytes n fits (omega (arith, all))

-- outside strings there is no piece
pub no-piece : (text : List ℕ) (p : Piece) (n : ℕ) → lexeme_outside text ≡ found (piece p) n → ⊥
unfolding lexeme_outside
no-piece [] p n is = let e : begun ≡ found (piece p) n = is in cc
no-piece (b ∷ t) p n is =
    elim (mark_of b) as (λ o. (elim o as (λ _. Scanned) [ Some m ↦ found (mark m) 1 | None ↦ lexeme_unmarked (b ∷ t) ]) ≡ found (piece p) n → ⊥) [
      | Some m ↦ λ h. let e : found (mark m) 1 ≡ found (piece p) n = h in cc
      | None ↦ λ h. by (is_blank b) (b == 34) (is_word_byte b) h
    ] is
  where
    by : (x y z : Bool) → cond x (found blank (prefix_len is_blank (b ∷ t))) (cond y (found quote 1) (cond z (found (word (take_while is_word_byte (b ∷ t))) (prefix_len is_word_byte (b ∷ t))) (bad 0))) ≡ found (piece p) n → ⊥
    by true y z h = let e : found blank (prefix_len is_blank (b ∷ t)) ≡ found (piece p) n = h in cc
    by false true z h = let e : found quote 1 ≡ found (piece p) n = h in cc
    by false false true h = let e : found (word (take_while is_word_byte (b ∷ t))) (prefix_len is_word_byte (b ∷ t)) ≡ found (piece p) n = h in cc
    by false false false h = let e : bad 0 ≡ found (piece p) n = h in cc

-- a bad byte outside strings stays bad
pub outside-bad-stays : (text more : List ℕ) (k : ℕ) → lexeme_outside text ≡ bad k → lexeme_outside (text ++ more) ≡ bad k
unfolding lexeme_outside
outside-bad-stays [] more k is = absurd (let e : begun ≡ bad k = is in cc)
outside-bad-stays (b ∷ t) more k is =
    elim (mark_of b) as (λ o. (elim o as (λ _. Scanned) [ Some m ↦ found (mark m) 1 | None ↦ lexeme_unmarked (b ∷ t) ]) ≡ bad k → (elim o as (λ _. Scanned) [ Some m ↦ found (mark m) 1 | None ↦ lexeme_unmarked (b ∷ (t ++ more)) ]) ≡ bad k) [
      | Some m ↦ λ h. absurd (let e : found (mark m) 1 ≡ bad k = h in cc)
      | None ↦ λ h. by (is_blank b) (b == 34) (is_word_byte b) h
    ] is
  where
    by : (x y z : Bool) → cond x (found blank (prefix_len is_blank (b ∷ t))) (cond y (found quote 1) (cond z (found (word (take_while is_word_byte (b ∷ t))) (prefix_len is_word_byte (b ∷ t))) (bad 0))) ≡ bad k
        → cond x (found blank (prefix_len is_blank (b ∷ (t ++ more)))) (cond y (found quote 1) (cond z (found (word (take_while is_word_byte (b ∷ (t ++ more)))) (prefix_len is_word_byte (b ∷ (t ++ more)))) (bad 0))) ≡ bad k
    by true y z h = absurd (let e : found blank (prefix_len is_blank (b ∷ t)) ≡ bad k = h in cc)
    by false true z h = absurd (let e : found quote 1 ≡ bad k = h in cc)
    by false false true h = absurd (let e : found (word (take_while is_word_byte (b ∷ t))) (prefix_len is_word_byte (b ∷ t)) ≡ bad k = h in cc)
    by false false false h = h

pub found-between : (text : List ℕ) (l : Lexeme) (n : ℕ) → lexeme_outside text ≡ found l n → is_between l ≡ true
found-between text blank n is = refl
found-between text (mark m) n is = refl
found-between text (word w) n is = refl
found-between text quote n is = refl
found-between text (piece p) n is = absurd (no-piece text p n is)
