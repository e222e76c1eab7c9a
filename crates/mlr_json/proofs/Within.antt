-- How long a lexeme at the start of a text is.
use Rattle.std.proofs.Common.{ℕ, ◌+◌, ◌==◌, ◌≡◌, ◌≤◌, Bool, true, false, cond, nat_lt, nat_le, List, [], ◌∷◌, length, take, Some, None, refl, arith}
use Rattle.std.specs.List.{prefix_len, take_while}
use Rattle.std.proofs.lemmas.Bool.{cond_both, leb-true}
use Rattle.std.proofs.lemmas.List.Sums.{prefix_len-le-length}
use Rattle.mlr_spec.specs.Infer.{number}
use Rattle.mlr_spec.specs.JsonTokens.{raw, unit, blank, mark, word, quote, piece, Scanned, found, begun, bad, is_blank, is_word_byte, is_raw, is_hex, mark_of, escape_of, lexeme_unmarked, lexeme_outside, lexeme_of_unit, lexeme_of_escape, lexeme_inside, first_lexeme}
use Rattle.mlr_json.proofs.Digits.{prefix_len-within}

-- a lexeme has at least one byte, and no more than the text
abbrev pub IsPrefixWithin : ℕ → Scanned → Type 0
IsPrefixWithin n (found l len) = (1 ≤ len) × (len ≤ n)
IsPrefixWithin n begun = Unit {0}
IsPrefixWithin n (bad offset) = Unit {0}

unmarked-within : (b : ℕ) (text : List ℕ) → IsPrefixWithin (length (b ∷ text)) (lexeme_unmarked (b ∷ text))
unmarked-within b text =
    let P : Scanned → Type 0 = λ f. IsPrefixWithin (length (b ∷ text)) f in
    let as_word : Scanned = found (word (take_while is_word_byte (b ∷ text))) (prefix_len is_word_byte (b ∷ text)) in
    cond_both (is_blank b) (found blank (prefix_len is_blank (b ∷ text))) (cond (b == 34) (found quote 1) (cond (is_word_byte b) as_word (bad 0))) P
    (λ h. prefix_len-within is_blank (b ∷ text) _ (omega arith) h refl)
    (λ _. cond_both (b == 34) (found quote 1) (cond (is_word_byte b) as_word (bad 0)) P
    (λ _. (omega arith, omega arith))
    (λ _. cond_both (is_word_byte b) as_word (bad 0) P (λ h. prefix_len-within is_word_byte (b ∷ text) _ (omega arith) h refl) (λ _. tt)))

outside-within : (text : List ℕ) → IsPrefixWithin (length text) (lexeme_outside text)
unfolding lexeme_outside
outside-within [] = tt
outside-within (b ∷ text) =
    elim (mark_of b) as (λ m. IsPrefixWithin (length (b ∷ text)) (elim m [ Some k ↦ found (mark k) 1 | None ↦ lexeme_unmarked (b ∷ text) ])) [
      | Some k ↦ (omega arith, omega arith)
      | None ↦ unmarked-within b text
    ]

unit-within : (text : List ℕ) → IsPrefixWithin (2 + length text) (lexeme_of_unit text)
unit-within text =
    let P : Scanned → Type 0 = λ f. IsPrefixWithin (2 + length text) f in
    cond_both (nat_le 4 (prefix_len is_hex text)) (found (piece (unit (number 16 (take 4 text)))) 6) (cond (prefix_len is_hex text == length text) begun (bad (2 + prefix_len is_hex text))) P
    (λ h. (omega arith, omega (arith, leb-true 4 (prefix_len is_hex text) h, prefix_len-le-length is_hex text)))
    (λ _. cond_both (prefix_len is_hex text == length text) begun (bad (2 + prefix_len is_hex text)) P (λ _. tt) (λ _. tt))

escape-within : (text : List ℕ) → IsPrefixWithin (1 + length text) (lexeme_of_escape text)
escape-within [] = tt
escape-within (c ∷ text) =
    let P : Scanned → Type 0 = λ f. IsPrefixWithin (1 + length (c ∷ text)) f in
    let by_letter : Scanned = cond (nat_lt 0 (escape_of c)) (found (piece (raw (escape_of c ∷ []))) 2) (bad 1) in
    cond_both (c == 117) (lexeme_of_unit text) by_letter P
    (λ _. rw (omega-length c text) (unit-within text))
    (λ _. cond_both (nat_lt 0 (escape_of c)) (found (piece (raw (escape_of c ∷ []))) 2) (bad 1) P (λ _. (omega arith, omega arith)) (λ _. tt))
  where
    omega-length : (c : ℕ) (text : List ℕ) → 1 + length (c ∷ text) ≡ 2 + length text
    omega-length c text = omega arith

inside-within : (text : List ℕ) → IsPrefixWithin (length text) (lexeme_inside text)
unfolding lexeme_inside
inside-within [] = tt
inside-within (b ∷ text) =
    let P : Scanned → Type 0 = λ f. IsPrefixWithin (length (b ∷ text)) f in
    let as_raw : Scanned = found (piece (raw (take_while is_raw (b ∷ text)))) (prefix_len is_raw (b ∷ text)) in
    cond_both (b == 34) (found quote 1) (cond (b == 92) (lexeme_of_escape text) as_raw) P
    (λ _. (omega arith, omega arith))
    (λ other. cond_both (b == 92) (lexeme_of_escape text) as_raw P
    (λ _. rw (one-length b text) (escape-within text))
    (λ last. prefix_len-within is_raw (b ∷ text) _ (omega arith) (rw (other, last) refl) refl))
  where
    one-length : (b : ℕ) (text : List ℕ) → length (b ∷ text) ≡ 1 + length text
    one-length b text = omega arith

pub prefix-within : (inside : Bool) (text : List ℕ) → IsPrefixWithin (length text) (first_lexeme inside text)
prefix-within true text = inside-within text
prefix-within false text = outside-within text
