-- The rest of a text, lexeme by lexeme and token by token.
use Rattle.std.proofs.Common.{◌≡◌, ℕ, zero, suc, ◌+◌, ◌-◌, ◌==◌, ◌<◌, ◌≤◌, Bool, true, false, cond, nat_lt, nat_le, List, [], ◌∷◌, length, take, drop, Some, None, refl, ap, sym, subst, ◌∙◌, arith, add-one, length-drop}
use Rattle.std.specs.List.{prefix_len, take_while}
use Rattle.std.proofs.lemmas.Bool.{cond_both}
use Rattle.mlr_spec.specs.Infer.{number}
use Rattle.mlr_spec.specs.JsonTokens.{raw, unit, Lexeme, quote, piece, Scanned, found, begun, bad, is_raw, is_hex, escape_of, lexeme_outside, lexeme_of_unit, lexeme_of_escape, lexeme_inside, first_lexeme, Lexemes, and_lexeme, is_inside, lexemes_from, tokens_outside, tokens_inside}
use Rattle.mlr_json.specs.Readable.{plain}
use Rattle.mlr_json.specs.Reading.{lexemes_left, tokens_left, inside_left, stopped, is_of_string}
use Rattle.mlr_json.proofs.Within.{IsPrefixWithin, prefix-within}

-- one lexeme and the rest, in at most n more steps
abbrev at_start : ℕ → Bool → ℕ → List ℕ → Scanned → Lexemes
at_start n inside place text (found l len) = and_lexeme place l (lexemes_from n (is_inside inside l) (place + len) (drop len text))
at_start n inside place text begun = record { lexemes = []; stop = cond inside (Some (place + length text)) None }
at_start n inside place text (bad offset) = record { lexemes = []; stop = Some (place + offset) }

from-prefix : (n : ℕ) (inside : Bool) (place : ℕ) (text : List ℕ) → lexemes_from (suc n) inside place text ≡ at_start n inside place text (first_lexeme inside text)
from-prefix n inside place text = by-prefix (first_lexeme inside text)
  where
    by-prefix : (f : Scanned) → (elim f [
      | found l len ↦ and_lexeme place l (lexemes_from n (is_inside inside l) (place + len) (drop len text))
      | begun ↦ record { lexemes = []; stop = cond inside (Some (place + length text)) None }
      | bad offset ↦ record { lexemes = []; stop = Some (place + offset) }
    ]) ≡ at_start n inside place text f
    by-prefix (found l len) = refl
    by-prefix begun = refl
    by-prefix (bad offset) = refl

-- enough steps are enough
lexemes-enough : (n m : ℕ) (inside : Bool) (place : ℕ) (text : List ℕ) → length text < n → length text < m → lexemes_from n inside place text ≡ lexemes_from m inside place text
lexemes-enough zero m inside place text hn hm = absurd (omega arith)
lexemes-enough (suc n) zero inside place text hn hm = absurd (omega arith)
lexemes-enough (suc n) (suc m) inside place text hn hm =
    from-prefix n inside place text
    ∙ step (first_lexeme inside text) (prefix-within inside text) (lexemes-enough n m)
    ∙ sym (from-prefix m inside place text)
  where
    step : (f : Scanned) → IsPrefixWithin (length text) f
        → ((i : Bool) (p : ℕ) (t : List ℕ) → length t < n → length t < m → lexemes_from n i p t ≡ lexemes_from m i p t)
        → at_start n inside place text f ≡ at_start m inside place text f
    step (found l len) w same =
        ap (and_lexeme place l) (same (is_inside inside l) (place + len) (drop len text) (omega (arith, w.0, w.1, length-drop len text)) (omega (arith, w.0, w.1, length-drop len text)))
    step begun w same = refl
    step (bad offset) w same = refl

left-prefix : (inside : Bool) (end : ℕ) (text : List ℕ) → lexemes_left inside end text ≡ at_start (length text) inside (end - length text) text (first_lexeme inside text)
unfolding lexemes_left
left-prefix inside end text = rw add-one (from-prefix (length text) inside (end - length text) text)

-- one lexeme of the rest
pub left-found : (inside : Bool) (end : ℕ) (text : List ℕ) (l : Lexeme) (len : ℕ) → length text ≤ end → first_lexeme inside text ≡ found l len →
    lexemes_left inside end text ≡ and_lexeme (end - length text) l (lexemes_left (is_inside inside l) end (drop len text))
unfolding lexemes_left
left-found inside end text l len fits is =
    let within : IsPrefixWithin (length text) (found l len) = subst (IsPrefixWithin (length text)) is (prefix-within inside text) in
    let next : (end - length text) + len ≡ end - length (drop len text) = omega (arith, within.0, within.1, length-drop len text) in
    let i = is_inside inside l in
    left-prefix inside end text
    ∙ ap (at_start (length text) inside (end - length text) text) is
    ∙ ap (λ p. and_lexeme (end - length text) l (lexemes_from (length text) i p (drop len text))) next
    ∙ ap (and_lexeme (end - length text) l) (lexemes-enough (length text) (length (drop len text) + 1) i (end - length (drop len text)) (drop len text) (omega (arith, within.0, within.1, length-drop len text)) (omega arith))

-- where the text begins with no lexeme: within a string and outside
module _ (end : ℕ) (text : List ℕ) (fits : length text ≤ end) where
  pub inside-begun : lexeme_inside text ≡ begun → inside_left end text ≡ stopped (Some (end - 0))
  inside-begun is =
      let all : (end - length text) + length text ≡ end - 0 = omega arith in
      ap (λ x. tokens_inside plain x.lexemes x.stop) (left-prefix true end text ∙ ap (at_start (length text) true (end - length text) text) is)
      ∙ ap (λ n. stopped (Some n)) all

  pub inside-bad : (offset : ℕ) → offset < length text → lexeme_inside text ≡ bad offset → inside_left end text ≡ stopped (Some (end - (length text - offset)))
  inside-bad offset within is =
      let here : (end - length text) + offset ≡ end - (length text - offset) = omega arith in
      ap (λ x. tokens_inside plain x.lexemes x.stop) (left-prefix true end text ∙ ap (at_start (length text) true (end - length text) text) is)
      ∙ ap (λ n. stopped (Some n)) here

  pub outside-begun : lexeme_outside text ≡ begun → tokens_left end text ≡ stopped None
  outside-begun is = ap (λ x. tokens_outside plain x.lexemes x.stop) (left-prefix false end text ∙ ap (at_start (length text) false (end - length text) text) is)

  pub outside-bad : (offset : ℕ) → offset < length text → lexeme_outside text ≡ bad offset → tokens_left end text ≡ stopped (Some (end - (length text - offset)))
  outside-bad offset within is =
      let here : (end - length text) + offset ≡ end - (length text - offset) = omega arith in
      ap (λ x. tokens_outside plain x.lexemes x.stop) (left-prefix false end text ∙ ap (at_start (length text) false (end - length text) text) is)
      ∙ ap (λ n. stopped (Some n)) here

-- the lexemes within a string are pieces and its last quote
abbrev IsOfString : Scanned → Type 0
IsOfString (found l len) = is_of_string l ≡ true
IsOfString begun = Unit {0}
IsOfString (bad offset) = Unit {0}

unit-of_string : (text : List ℕ) → IsOfString (lexeme_of_unit text)
unit-of_string text =
    cond_both (nat_le 4 (prefix_len is_hex text)) (found (piece (unit (number 16 (take 4 text)))) 6) (cond (prefix_len is_hex text == length text) begun (bad (2 + prefix_len is_hex text))) IsOfString
    (λ _. refl)
    (λ _. cond_both (prefix_len is_hex text == length text) begun (bad (2 + prefix_len is_hex text)) IsOfString (λ _. tt) (λ _. tt))

escape-of_string : (text : List ℕ) → IsOfString (lexeme_of_escape text)
escape-of_string [] = tt
escape-of_string (c ∷ text) =
    let by_letter : Scanned = cond (nat_lt 0 (escape_of c)) (found (piece (raw (escape_of c ∷ []))) 2) (bad 1) in
    cond_both (c == 117) (lexeme_of_unit text) by_letter IsOfString
    (λ _. unit-of_string text)
    (λ _. cond_both (nat_lt 0 (escape_of c)) (found (piece (raw (escape_of c ∷ []))) 2) (bad 1) IsOfString (λ _. refl) (λ _. tt))

inside-of_string : (text : List ℕ) → IsOfString (lexeme_inside text)
unfolding lexeme_inside
inside-of_string [] = tt
inside-of_string (b ∷ text) =
    let as_raw : Scanned = found (piece (raw (take_while is_raw (b ∷ text)))) (prefix_len is_raw (b ∷ text)) in
    cond_both (b == 34) (found quote 1) (cond (b == 92) (lexeme_of_escape text) as_raw) IsOfString
    (λ _. refl)
    (λ _. cond_both (b == 92) (lexeme_of_escape text) as_raw IsOfString (λ _. escape-of_string text) (λ _. refl))

pub found-of_string : (text : List ℕ) (l : Lexeme) (len : ℕ) → lexeme_inside text ≡ found l len → is_of_string l ≡ true
found-of_string text l len is = subst IsOfString is (inside-of_string text)
