-- The known lexemes of the rest of a text.
use Rattle.std.proofs.Common.{◌≡◌, ℕ, suc, ◌+◌, ◌-◌, ◌<◌, ◌≤◌, Bool, true, false, cond, ◌==◌, List, [], ◌∷◌, length, drop, Option, Some, None, refl, ap, ◌∙◌, arith, add-one}
use Rattle.std.specs.List.{prefix_len, take_while}
use Rattle.std.proofs.lemmas.Bool.{lt-ltb}
use Rattle.mlr_spec.specs.JsonTokens.{Lexeme, blank, mark, word, quote, Scanned, found, begun, bad, mark_of, is_blank, is_word_byte, lexeme_unmarked, lexeme_outside, lexeme_inside, first_lexeme, Lexemes, and_lexeme, is_inside, lexemes_from}
use Rattle.mlr_json.specs.Reading.{lexemes_left}
use Rattle.mlr_json.proofs.Left.{left-found}
use Rattle.read_json_lines.specs.Records.{goes_on, begins, stops}
use Rattle.read_json_lines.specs.Json.{Settled, and_settled, ending, is_begun, settled, known}
use Rattle.read_json_lines.specs.Streams.{left}

-- one lexeme and the rest, in at most n more steps
abbrev at_start : ℕ → Bool → ℕ → List ℕ → Scanned → Lexemes
at_start n inside place text (found l len) = and_lexeme place l (lexemes_from n (is_inside inside l) (place + len) (drop len text))
at_start n inside place text begun = record { lexemes = []; stop = cond inside (Some (place + length text)) None }
at_start n inside place text (bad offset) = record { lexemes = []; stop = Some (place + offset) }

from-prefix : (n : ℕ) (inside : Bool) (place : ℕ) (text : List ℕ) → lexemes_from (suc n) inside place text ≡ at_start n inside place text (first_lexeme inside text)
from-prefix n inside place text = by-prefix (first_lexeme inside text)
  where
    by-prefix : (f : Scanned) → (elim f [
      | found l len ↦ and_lexeme place l (lexemes_from n (is_inside inside l) (place + len) (drop len text))
      | begun ↦ record { lexemes = []; stop = cond inside (Some (place + length text)) None }
      | bad offset ↦ record { lexemes = []; stop = Some (place + offset) }
    ]) ≡ at_start n inside place text f
    by-prefix (found l len) = refl
    by-prefix begun = refl
    by-prefix (bad offset) = refl

left-prefix : (inside : Bool) (end : ℕ) (text : List ℕ) → lexemes_left inside end text ≡ at_start (length text) inside (end - length text) text (first_lexeme inside text)
unfolding lexemes_left
left-prefix inside end text = rw add-one (from-prefix (length text) inside (end - length text) text)

-- the empty text has begun a lexeme, but has none
pub nothing-between : lexeme_outside [] ≡ begun
unfolding lexeme_outside
nothing-between = refl

pub nothing-inside : lexeme_inside [] ≡ begun
unfolding lexeme_inside
nothing-inside = refl

pub none-left : (end : ℕ) → lexemes_left false end [] ≡ record { lexemes = []; stop = None }
none-left end = left-prefix false end [] ∙ ap (at_start (length {A = ℕ} []) false (end - length {A = ℕ} []) []) nothing-between

-- a place before the end
pub ending-stops : (whole : Bool) (end place : ℕ) → place < end → ending whole end (Some place) ≡ stops place
ending-stops true end place below = refl
ending-stops false end place below = ap (λ b. cond b (stops place) goes_on) (lt-ltb place end below)

-- there is no lexeme
abbrev pub stopped_at : Bool → ℕ → Option ℕ → Settled
stopped_at whole end stop = record { lexemes = []; ending = ending whole end stop }

known-none : (whole : Bool) (end : ℕ) (stop : Option ℕ) → known whole end (record { lexemes = []; stop = stop }) ≡ stopped_at whole end stop
known-none true end stop = refl
known-none false end stop = refl

pub left-bad : (whole inside : Bool) (end : ℕ) (text : List ℕ) (k : ℕ) → first_lexeme inside text ≡ bad k → left whole inside end text ≡ stopped_at whole end (Some (end - length text + k))
left-bad whole inside end text k is =
    ap (known whole end) (left-prefix inside end text ∙ ap (at_start (length text) inside (end - length text) text) is) ∙ known-none whole end (Some (end - length text + k))

pub left-begun : (whole inside : Bool) (end : ℕ) (text : List ℕ) → first_lexeme inside text ≡ begun → left whole inside end text ≡ stopped_at whole end (cond inside (Some (end - length text + length text)) None)
left-begun whole inside end text is =
    ap (known whole end) (left-prefix inside end text ∙ ap (at_start (length text) inside (end - length text) text) is) ∙ known-none whole end (cond inside (Some (end - length text + length text)) None)

known-step : (whole : Bool) (end place : ℕ) (l : Lexeme) (more : Lexemes) → is_begun l more.lexemes more.stop ≡ false → known whole end (and_lexeme place l more) ≡ and_settled place l (known whole end more)
known-step true end place l more never = refl
known-step false end place l more never = ap (λ b. cond b (record { lexemes = []; ending = begins place }) (and_settled place l (settled end more.lexemes more.stop))) never

-- a lexeme that isn't a word at the end of the text
pub left-step : (whole inside : Bool) (end : ℕ) (text : List ℕ) (l : Lexeme) (len : ℕ) → length text ≤ end → first_lexeme inside text ≡ found l len
    → is_begun l (lexemes_left (is_inside inside l) end (drop len text)).lexemes (lexemes_left (is_inside inside l) end (drop len text)).stop ≡ false
    → left whole inside end text ≡ and_settled (end - length text) l (left whole (is_inside inside l) end (drop len text))
left-step whole inside end text l len fits is never =
    ap (known whole end) (left-found inside end text l len fits is) ∙ known-step whole end (end - length text) l (lexemes_left (is_inside inside l) end (drop len text)) never

-- a word is complete if bytes follow
outside-begins : (b : ℕ) (t : List ℕ) → lexeme_outside (b ∷ t) ≡ begun → ⊥
unfolding lexeme_outside
outside-begins b t is =
    elim (mark_of b) as (λ o. (elim o as (λ _. Scanned) [ Some m ↦ found (mark m) 1 | None ↦ lexeme_unmarked (b ∷ t) ]) ≡ begun → ⊥) [
      | Some m ↦ λ h. let e : found (mark m) 1 ≡ begun = h in cc
      | None ↦ λ h. unmarked-begins (is_blank b) (b == 34) (is_word_byte b) h
    ] is
  where
    unmarked-begins : (x y z : Bool) → cond x (found blank (prefix_len is_blank (b ∷ t))) (cond y (found quote 1) (cond z (found (word (take_while is_word_byte (b ∷ t))) (prefix_len is_word_byte (b ∷ t))) (bad 0))) ≡ begun → ⊥
    unmarked-begins true y z h = let e : found blank (prefix_len is_blank (b ∷ t)) ≡ begun = h in cc
    unmarked-begins false true z h = let e : found quote 1 ≡ begun = h in cc
    unmarked-begins false false true h = let e : found (word (take_while is_word_byte (b ∷ t))) (prefix_len is_word_byte (b ∷ t)) ≡ begun = h in cc
    unmarked-begins false false false h = let e : bad 0 ≡ begun = h in cc

pub some-begins : (text : List ℕ) → 0 < length text → lexeme_outside text ≡ begun → ⊥
some-begins [] some is = absurd (omega arith)
some-begins (b ∷ t) some is = outside-begins b t is

pub word-ends : (end : ℕ) (w text : List ℕ) → 0 < length text → is_begun (word w) (lexemes_left false end text).lexemes (lexemes_left false end text).stop ≡ false
word-ends end w text some =
    ap (λ (x : Lexemes). is_begun (word w) x.lexemes x.stop) (left-prefix false end text) ∙ by-prefix (lexeme_outside text) (some-begins text some)
  where
    by-prefix : (f : Scanned) → (f ≡ begun → ⊥) → is_begun (word w) (at_start (length text) false (end - length text) text f).lexemes (at_start (length text) false (end - length text) text f).stop ≡ false
    by-prefix (found l len) never = refl
    by-prefix begun never = absurd (never refl)
    by-prefix (bad offset) never = refl
