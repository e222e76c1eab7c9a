-- Words at the start of a text.
use Rattle.std.proofs.Common.{◌≡◌, ℕ, ◌<◌, Bool, true, false, cond, ◌==◌, List, [], ◌∷◌, ◌++◌, length, take, Some, None, inl, inr, refl, ap, sym, ◌∙◌}
use Rattle.std.specs.List.{prefix_len, take_while}
use Rattle.std.proofs.lemmas.Bool.{cases_Bool, true≢false, eqb-true}
use Rattle.mlr_json.proofs.Stable.{stays-found}
use Rattle.mlr_spec.specs.JsonTokens.{blank, mark, word, quote, Scanned, found, begun, bad, mark_of, is_blank, is_word_byte, lexeme_unmarked, lexeme_outside}

-- the first byte of a word is no mark, no blank and no quote
module _ (c : ℕ) (is : is_word_byte c ≡ true) where
  differs : (k : ℕ) → is_word_byte k ≡ false → (c == k) ≡ false
  differs k none = elim (cases_Bool (c == k)) [
    | inl y ↦ absurd (true≢false (sym is ∙ ap is_word_byte (eqb-true c k y) ∙ none))
    | inr n ↦ n
  ]

  no-mark : mark_of c ≡ None
  no-mark = rw (differs 123 refl, differs 125 refl, differs 91 refl, differs 93 refl, differs 58 refl, differs 44 refl) refl

  no-blank : is_blank c ≡ false
  no-blank = rw (differs 32 refl, differs 9 refl, differs 10 refl, differs 13 refl) refl

  pub word-prefix : (t : List ℕ) → lexeme_outside (c ∷ t) ≡ found (word (take_while is_word_byte (c ∷ t))) (prefix_len is_word_byte (c ∷ t))
  unfolding lexeme_outside
  word-prefix t =
      let last : Scanned = found (word (take_while is_word_byte (c ∷ t))) (prefix_len is_word_byte (c ∷ t)) in
      ap (λ o. elim o as (λ _. Scanned) [ Some m ↦ found (mark m) 1 | None ↦ lexeme_unmarked (c ∷ t) ]) no-mark
      ∙ ap (λ v. cond v (found blank (prefix_len is_blank (c ∷ t))) (cond (c == 34) (found quote 1) (cond (is_word_byte c) last (bad 0)))) no-blank
      ∙ ap (λ v. cond v (found quote 1) (cond (is_word_byte c) last (bad 0))) (differs 34 refl) ∙ ap (λ v. cond v last (bad 0)) is

-- the bytes of a word are those that are allowed in one
abbrev pub IsWordHere : List ℕ → List ℕ → ℕ → Type 0
IsWordHere text w n = (w ≡ take_while is_word_byte text) × (n ≡ prefix_len is_word_byte text)

unmarked-word : (b : ℕ) (t w : List ℕ) (n : ℕ) → lexeme_unmarked (b ∷ t) ≡ found (word w) n → (is_word_byte b ≡ true) × IsWordHere (b ∷ t) w n
unmarked-word b t w n is = by (is_blank b) (b == 34) (is_word_byte b) refl is
  where
    by : (x y z : Bool) → is_word_byte b ≡ z → cond x (found blank (prefix_len is_blank (b ∷ t))) (cond y (found quote 1) (cond z (found (word (take_while is_word_byte (b ∷ t))) (prefix_len is_word_byte (b ∷ t))) (bad 0))) ≡ found (word w) n
        → (is_word_byte b ≡ true) × IsWordHere (b ∷ t) w n
    by true y z zis h = absurd (let e : found blank (prefix_len is_blank (b ∷ t)) ≡ found (word w) n = h in cc)
    by false true z zis h = absurd (let e : found quote 1 ≡ found (word w) n = h in cc)
    by false false true zis h =
        let e : found (word (take_while is_word_byte (b ∷ t))) (prefix_len is_word_byte (b ∷ t)) ≡ found (word w) n = h in
        (zis, (cc, cc))
    by false false false zis h = absurd (let e : bad 0 ≡ found (word w) n = h in cc)

pub found-word : (b : ℕ) (t w : List ℕ) (n : ℕ) → lexeme_outside (b ∷ t) ≡ found (word w) n → (is_word_byte b ≡ true) × IsWordHere (b ∷ t) w n
unfolding lexeme_outside
found-word b t w n is =
    elim (mark_of b) as (λ o. (elim o as (λ _. Scanned) [ Some m ↦ found (mark m) 1 | None ↦ lexeme_unmarked (b ∷ t) ]) ≡ found (word w) n → (is_word_byte b ≡ true) × IsWordHere (b ∷ t) w n) [
      | Some m ↦ λ h. absurd (let e : found (mark m) 1 ≡ found (word w) n = h in cc)
      | None ↦ λ h. unmarked-word b t w n h
    ] is

pub word-taken : (text w : List ℕ) (n : ℕ) → lexeme_outside text ≡ found (word w) n → w ≡ take n text
unfolding lexeme_outside
word-taken [] w n is = absurd (let e : begun ≡ found (word w) n = is in cc)
word-taken (b ∷ t) w n is =
    let here = found-word b t w n is in
    here.1.0 ∙ ap (λ k. take k (b ∷ t)) (sym here.1.1)

-- a word at the start of a text is still a word when bytes follow, and may be longer
pub word-still : (text more w : List ℕ) (n : ℕ) → lexeme_outside text ≡ found (word w) n → lexeme_outside (text ++ more) ≡ found (word (take_while is_word_byte (text ++ more))) (prefix_len is_word_byte (text ++ more))
unfolding lexeme_outside
word-still [] more w n is = absurd (let e : begun ≡ found (word w) n = is in cc)
word-still (b ∷ t) more w n is = word-prefix b (found-word b t w n is).0 (t ++ more)

-- a word that ends before the text does
pub word-stays : (text more w : List ℕ) (n : ℕ) → lexeme_outside text ≡ found (word w) n → n < length text → lexeme_outside (text ++ more) ≡ found (word w) n
word-stays text more w n is below = stays-found false text more (word w) n is (inr below)
