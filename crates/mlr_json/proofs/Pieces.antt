-- A string that is one piece.
use Rattle.std.proofs.Common.{◌≡◌, ℕ, ◌-◌, ◌==◌, ◌<◌, ◌≤◌, true, false, cond, List, [], ◌∷◌, length, drop, refl, ap, sym, ◌∙◌, arith, length-drop, inl, inr, get_or, not, Some, None}
use Rattle.std.specs.List.{prefix_len, take_while}
use Rattle.std.proofs.lemmas.Bool.{cases_Bool, ne_eqb, true≢false}
use Rattle.std.proofs.lemmas.List.Sums.{prefix_len_is}
use Rattle.memchr.specs.Find.{IsFirstByte, Passes, is_byte2}
use Rattle.mlr_spec.specs.JsonTokens.{raw, quote, piece, found, is_raw, lexeme_inside, lexeme_of_escape, and_lexeme, pieces_in, tokens_inside}
use Rattle.mlr_json.specs.Readable.{plain}
use Rattle.mlr_json.specs.Reading.{lexemes_left, tokens_left, inside_left, pieces_left}
use Rattle.mlr_json.proofs.Left.{left-found}

raw-lexeme : (b : ℕ) (text : List ℕ) → is_raw b ≡ true → lexeme_inside (b ∷ text) ≡ found (piece (raw (take_while is_raw (b ∷ text)))) (prefix_len is_raw (b ∷ text))
unfolding lexeme_inside
raw-lexeme b text h =
    let as_raw = found (piece (raw (take_while is_raw (b ∷ text)))) (prefix_len is_raw (b ∷ text)) in
    ap (λ t. cond t (found quote 1) (cond (b == 92) (lexeme_of_escape text) as_raw)) (other 34 refl)
    ∙ ap (λ t. cond t (lexeme_of_escape text) as_raw) (other 92 refl)
  where
    other : (k : ℕ) → is_raw k ≡ false → (b == k) ≡ false
    other k apart = ne_eqb b k (λ e. true≢false (sym h ∙ ap is_raw e ∙ apart))

first-raw : (text : List ℕ) → 0 < prefix_len is_raw text → lexeme_inside text ≡ found (piece (raw (take_while is_raw text))) (prefix_len is_raw text)
first-raw [] some = absurd (omega arith)
first-raw (b ∷ text) some =
    elim (cases_Bool (is_raw b)) as (λ _. lexeme_inside (b ∷ text) ≡ found (piece (raw (take_while is_raw (b ∷ text)))) (prefix_len is_raw (b ∷ text))) [
      | inl y ↦ raw-lexeme b text y
      | inr n ↦ absurd (let none = none b text n in omega arith)
    ]
  where
    none : (b : ℕ) (text : List ℕ) → is_raw b ≡ false → prefix_len is_raw (b ∷ text) ≡ 0
    none b text n = rw n refl

first-quote : (text : List ℕ) → lexeme_inside (34 ∷ text) ≡ found quote 1
unfolding lexeme_inside
first-quote text = refl

-- its bytes up to the quote, and the tokens after it
pub one-piece : (end : ℕ) (text following : List ℕ) → length text ≤ end → 0 < prefix_len is_raw text → drop (prefix_len is_raw text) text ≡ 34 ∷ following
    → (pieces_left end text ≡ raw (take_while is_raw text) ∷ []) × (inside_left end text ≡ tokens_left end following)
one-piece end text following fits some rest =
    let len = prefix_len is_raw text in
    let bytes = take_while is_raw text in
    let rest_fits : length (34 ∷ following) ≤ end = omega (arith, ap length rest, length-drop len text) in
    let all : lexemes_left true end text ≡ and_lexeme (end - length text) (piece (raw bytes)) (and_lexeme (end - length (34 ∷ following)) quote (lexemes_left false end following)) =
    left-found true end text (piece (raw bytes)) len fits (first-raw text some)
    ∙ ap (λ t. and_lexeme (end - length text) (piece (raw bytes)) (lexemes_left true end t)) rest
    ∙ ap (and_lexeme (end - length text) (piece (raw bytes))) (left-found true end (34 ∷ following) quote 1 rest_fits (first-quote following)) in
    (ap (λ x. pieces_in x.lexemes) all, ap (λ x. tokens_inside plain x.lexemes x.stop) all)

-- the bytes before the first quote or backslash
module _ (text : List ℕ) where
  plain-at : (k : ℕ) → (Passes (is_byte2 34 92) text k → ⊥) → is_raw (get_or text k 0) ≡ true
  plain-at k apart =
      elim (cases_Bool (is_byte2 34 92 (get_or text k 0))) as (λ _. is_raw (get_or text k 0) ≡ true) [
        | inl y ↦ absurd (apart y)
        | inr n ↦ ap not n
      ]

  pub raw-before : (k : ℕ) → IsFirstByte (is_byte2 34 92) text (Some k) → k ≡ prefix_len is_raw text
  raw-before k h =
      let high = h.0.high in
      sym (prefix_len_is is_raw text k 0 (omega arith) (λ j below. plain-at j (h.0.before j (omega arith) below)) (λ _. ap not h.1))

  pub raw-all : IsFirstByte (is_byte2 34 92) text None → length text ≡ prefix_len is_raw text
  raw-all h = sym (prefix_len_is is_raw text (length text) 0 (omega arith) (λ j below. plain-at j (h j (omega arith) below)) (λ below. absurd (omega arith)))
