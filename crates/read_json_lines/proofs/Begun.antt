-- A word that spans two pieces of the file.
use Rattle.std.proofs.Common.{◌≡◌, ℕ, suc, ◌+◌, ◌<◌, Bool, true, false, cond, List, [], ◌∷◌, ◌++◌, length, take, inl, inr, refl, ap, ap₂, sym, ◌∙◌, arith}
use Rattle.std.specs.List.{prefix_len}
use Rattle.std.proofs.Math.Seq.{take-length, take-append-add}
use Rattle.std.proofs.lemmas.Bool.{cases_Bool}
use Rattle.std.proofs.lemmas.List.{append-nil, length-append}
use Rattle.mlr_spec.specs.JsonTokens.{word, found, is_word_byte, lexeme_outside}
use Rattle.read_json_lines.proofs.WordPrefixes.{found-word, word-prefix}

module _ (p : ℕ → Bool) where
  pub whole-then : (text more : List ℕ) → prefix_len p text ≡ length text → prefix_len p (text ++ more) ≡ length text + prefix_len p more
  whole-then [] more all = omega arith
  whole-then (b ∷ text) more all =
      elim (cases_Bool (p b)) as (λ _. prefix_len p (b ∷ text ++ more) ≡ length (b ∷ text) + prefix_len p more) [
        | inl y ↦
            let following : prefix_len p text ≡ length text = omega (arith, all, one b text y) in
            omega (arith, one b (text ++ more) y, whole-then text more following)
        | inr n ↦ absurd (omega (arith, all, none b text n))
      ]
    where
      one : (b : ℕ) (t : List ℕ) → p b ≡ true → prefix_len p (b ∷ t) ≡ 1 + prefix_len p t
      one b t y = ap (λ v. cond v (1 + prefix_len p t) 0) y

      none : (b : ℕ) (t : List ℕ) → p b ≡ false → prefix_len p (b ∷ t) ≡ 0
      none b t n = ap (λ v. cond v (1 + prefix_len p t) 0) n

  prefix-whole : (text : List ℕ) → prefix_len p (take (prefix_len p text) text) ≡ length (take (prefix_len p text) text)
  prefix-whole [] = refl
  prefix-whole (b ∷ text) =
      elim (cases_Bool (p b)) as (λ _. prefix_len p (take (prefix_len p (b ∷ text)) (b ∷ text)) ≡ length (take (prefix_len p (b ∷ text)) (b ∷ text))) [
        | inl y ↦
            let rest = take (prefix_len p text) text in
            ap (λ k. prefix_len p (take k (b ∷ text))) (one b text y)
            ∙ few b rest y (prefix-whole text)
            ∙ sym (ap (λ k. length (take k (b ∷ text))) (one b text y))
        | inr n ↦ ap (λ k. prefix_len p (take k (b ∷ text))) (none b text n) ∙ sym (ap (λ k. length (take k (b ∷ text))) (none b text n))
      ]
    where
      none : (b : ℕ) (t : List ℕ) → p b ≡ false → prefix_len p (b ∷ t) ≡ 0
      none b t n = ap (λ v. cond v (1 + prefix_len p t) 0) n

      suc-is : (n : ℕ) → 1 + n ≡ suc n
      suc-is n = omega arith

      one : (b : ℕ) (t : List ℕ) → p b ≡ true → prefix_len p (b ∷ t) ≡ suc (prefix_len p t)
      one b t y = ap (λ v. cond v (1 + prefix_len p t) 0) y ∙ suc-is (prefix_len p t)

      few : (b : ℕ) (t : List ℕ) → p b ≡ true → prefix_len p t ≡ length t → prefix_len p (b ∷ t) ≡ length (b ∷ t)
      few b t y all = omega (arith, one b t y, all)

take-both : (text more : List ℕ) (n : ℕ) → take (length text + n) (text ++ more) ≡ text ++ take n more
take-both text more n = take-append-add text more n

-- a word that has begun, and more of its bytes
pub word-with : (begun more : List ℕ) → 0 < length begun → lexeme_outside begun ≡ found (word begun) (length begun)
    → lexeme_outside (begun ++ more) ≡ found (word (begun ++ take (prefix_len is_word_byte more) more)) (length begun + prefix_len is_word_byte more)
word-with [] more some is = absurd (omega arith)
word-with (b ∷ bs) more some is =
    let here = found-word b bs (b ∷ bs) (length (b ∷ bs)) is in
    let many : prefix_len is_word_byte (b ∷ bs ++ more) ≡ length (b ∷ bs) + prefix_len is_word_byte more = whole-then is_word_byte (b ∷ bs) more (sym here.1.1) in
    word-prefix b here.0 (bs ++ more)
    ∙ ap (λ n. found (word (take n (b ∷ bs ++ more))) n) many
    ∙ ap (λ w. found (word w) (length (b ∷ bs) + prefix_len is_word_byte more)) (take-both (b ∷ bs) more (prefix_len is_word_byte more))

-- more bytes of the word are kept
pub word-grown : (begun more : List ℕ) → 0 < length begun → lexeme_outside begun ≡ found (word begun) (length begun)
    → let grown = begun ++ take (prefix_len is_word_byte more) more in lexeme_outside grown ≡ found (word grown) (length grown)
word-grown begun more some is =
    let w = take (prefix_len is_word_byte more) more in
    let all : prefix_len is_word_byte w ≡ length w = prefix-whole is_word_byte more in
    word-with begun w some is
    ∙ ap (λ n. found (word (begun ++ take n w)) (length begun + n)) all
    ∙ ap (λ t. found (word (begun ++ t)) (length begun + length w)) (take-length w)
    ∙ ap (λ n. found (word (begun ++ w)) n) (sym (length-append begun w))

-- no more bytes of the word follow
first-of : (text bytes : List ℕ) → 0 < length text → prefix_len is_word_byte text ≡ 0 → prefix_len is_word_byte (text ++ bytes) ≡ 0
first-of [] bytes some none = absurd (omega arith)
first-of (b ∷ t) bytes some none = elim (cases_Bool (is_word_byte b)) [
  | inl y ↦ absurd (omega (arith, none, ap (λ v. cond v (1 + prefix_len is_word_byte t) 0) y))
  | inr n ↦ ap (λ v. cond v (1 + prefix_len is_word_byte (t ++ bytes)) 0) n
]

pub word-ended : (begun text bytes : List ℕ) → 0 < length begun → 0 < length text → prefix_len is_word_byte text ≡ 0 → lexeme_outside begun ≡ found (word begun) (length begun)
    → lexeme_outside (begun ++ (text ++ bytes)) ≡ found (word begun) (length begun)
word-ended begun text bytes some more none is =
    word-with begun (text ++ bytes) some is
    ∙ ap (λ n. found (word (begun ++ take n (text ++ bytes))) (length begun + n)) (first-of text bytes more none)
    ∙ ap₂ (λ w n. found (word w) n) (append-nil begun) (omega arith)
