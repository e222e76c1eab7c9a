-- Texts that are read as these tokens, up to a rest.
use Rattle.std.proofs.Common.{◌≡◌, ℕ, zero, suc, ◌+◌, ◌<◌, Bool, true, false, cond, not, ◌==◌, List, [], ◌∷◌, ◌++◌, map, length, take, drop, replicate, Option, Some, None, refl, ap, ap₂, sym, subst, ◌∙◌, append_assoc, arith, one-add}
use Rattle.std.specs.List.{prefix_len, take_while, list_all}
use Rattle.std.proofs.lemmas.Bool.{eqb-true, not-true, cond-true, and_parts, false_from_ne_true, true≢false}
use Rattle.std.proofs.lemmas.List.{append-nil, length-drop}
use Rattle.std.proofs.Math.Seq.{drop-append_seam, take-append_seam}
use Rattle.mlr_json.specs.Readable.{plain}
use Rattle.mlr_spec.specs.declared.json.JsonMark.{JsonMark}
use Rattle.mlr_spec.specs.Json.{json_string}
use Rattle.mlr_spec.specs.JsonTokens.{Piece, Lexeme, blank, mark, word, quote, piece, Scanned, found, begun, bad, mark_of, is_blank, is_word_byte, lexeme_inside, lexeme_outside, lexeme_unmarked, is_inside, decoded, Lexemes, and_lexeme, lexemes_from, lexemes_of, Token, sign, text_token, Tokens, or_stop, token_of_word, pieces_in, tokens_outside, tokens_inside, tokens_of}
use Rattle.mlr_spec.specs.JsonGrammar.{bare}
use Rattle.mlr_json.proofs.WrittenStrings.{Lexes, lexes-append, written-string}

abbrev names : List (ℕ × Lexeme) → List Lexeme
names placed = map (λ l. l.1) placed

-- ---- lexemes without a place

pub lexes-all : (lexemes : List Lexeme) (inside : Bool) (t : List ℕ) (n place : ℕ) → length t < n → Lexes inside t lexemes false []
    → (names (lexemes_from n inside place t).lexemes ≡ lexemes) × ((lexemes_from n inside place t).stop ≡ None)
unfolding lexeme_outside lexeme_inside
lexes-all lexemes inside t zero place below h = absurd (omega arith)
lexes-all [] inside t (suc n) place below h =
    subst (λ i. (names (lexemes_from (suc n) i place t).lexemes ≡ []) × ((lexemes_from (suc n) i place t).stop ≡ None)) (sym h.1)
    (subst (λ x. (names (lexemes_from (suc n) false place x).lexemes ≡ []) × ((lexemes_from (suc n) false place x).stop ≡ None)) (sym h.0) (refl, refl))
lexes-all (l ∷ lexemes) true [] (suc n) place below h = absurd (let e : begun ≡ found l h.0 = h.1 in cc)
lexes-all (l ∷ lexemes) false [] (suc n) place below h = absurd (let e : begun ≡ found l h.0 = h.1 in cc)
lexes-all (l ∷ lexemes) inside (b ∷ t) (suc n) place below h =
    let shorter : length (drop h.0 (b ∷ t)) < n = let some : 0 < h.0 = h.2 in omega (arith, length-drop h.0 (b ∷ t)) in
    let rest = lexes-all lexemes (is_inside inside l) (drop h.0 (b ∷ t)) n (place + h.0) shorter h.3 in
    subst (λ f. (names (went f).lexemes ≡ l ∷ lexemes) × ((went f).stop ≡ None)) (sym h.1) (ap (λ x. l ∷ x) rest.0, rest.1)
  where
    went : Scanned → Lexemes
    went f = elim f [
      | found lexeme len ↦ and_lexeme place lexeme (lexemes_from n (is_inside inside lexeme) (place + len) (drop len (b ∷ t)))
      | begun ↦ record { lexemes = []; stop = cond inside (Some (place + length (b ∷ t))) None }
      | bad offset ↦ record { lexemes = []; stop = Some (place + offset) }
    ]

-- ---- the tokens that lexemes give, whatever follows them

abbrev pub Yields : List Lexeme → List Token → Type 0
Yields lexemes tokens = (placed : List (ℕ × Lexeme)) (more : List Lexeme) → names placed ≡ lexemes ++ more
    → (rest : List (ℕ × Lexeme)) × (names rest ≡ more)
    × ((stop : Option ℕ) → (bare (tokens_outside plain placed stop).tokens ≡ tokens ++ bare (tokens_outside plain rest stop).tokens) × ((tokens_outside plain placed stop).stop ≡ (tokens_outside plain rest stop).stop))

yields-append : (lexemes more : List Lexeme) (tokens later : List Token) → Yields lexemes tokens → Yields more later → Yields (lexemes ++ more) (tokens ++ later)
yields-append lexemes more tokens later h k placed following is =
    let a = h placed (more ++ following) (is ∙ append_assoc lexemes more following) in
    let b = k a.0 following a.1 in
    (b.0, b.1, λ stop. ((a.2 stop).0 ∙ ap (λ t. tokens ++ t) (b.2 stop).0 ∙ sym (append_assoc tokens later (bare (tokens_outside plain b.0 stop).tokens)), (a.2 stop).1 ∙ (b.2 stop).1))

yields-one : (l : Lexeme) (tokens : List Token)
    → ((place : ℕ) (tail : List (ℕ × Lexeme)) (stop : Option ℕ) → (bare (tokens_outside plain ((place, l) ∷ tail) stop).tokens ≡ tokens ++ bare (tokens_outside plain tail stop).tokens) × ((tokens_outside plain ((place, l) ∷ tail) stop).stop ≡ (tokens_outside plain tail stop).stop))
    → Yields (l ∷ []) tokens
yields-one l tokens h [] more is = absurd (let e : [] ≡ l ∷ more = is in cc)
yields-one l tokens h (x ∷ tail) more is =
    let e : x.1 ∷ names tail ≡ l ∷ more = is in
    let same : x.1 ≡ l = cc in
    let rest : names tail ≡ more = cc in
    (tail, rest, λ stop. subst (λ y. (bare (tokens_outside plain ((x.0, y) ∷ tail) stop).tokens ≡ tokens ++ bare (tokens_outside plain tail stop).tokens) × ((tokens_outside plain ((x.0, y) ∷ tail) stop).stop ≡ (tokens_outside plain tail stop).stop)) (sym same) (h x.0 tail stop))

-- a string, from its first quote to its last
inside-string : (pieces : List Piece) (placed : List (ℕ × Lexeme)) (more : List Lexeme) → names placed ≡ map piece pieces ++ quote ∷ more
    → (rest : List (ℕ × Lexeme)) × (names rest ≡ more) × (pieces_in placed ≡ pieces) × ((stop : Option ℕ) → tokens_inside plain placed stop ≡ tokens_outside plain rest stop)
inside-string [] [] more is = absurd (let e : [] ≡ quote ∷ more = is in cc)
inside-string (p ∷ pieces) [] more is = absurd (let e : [] ≡ piece p ∷ (map piece pieces ++ quote ∷ more) = is in cc)
inside-string [] (x ∷ tail) more is =
    let e : x.1 ∷ names tail ≡ quote ∷ more = is in
    let same : x.1 ≡ quote = cc in
    let rest : names tail ≡ more = cc in
    (tail, rest, subst (λ y. pieces_in ((x.0, y) ∷ tail) ≡ []) (sym same) refl, λ stop. subst (λ y. tokens_inside plain ((x.0, y) ∷ tail) stop ≡ tokens_outside plain tail stop) (sym same) refl)
inside-string (p ∷ pieces) (x ∷ tail) more is =
    let e : x.1 ∷ names tail ≡ piece p ∷ (map piece pieces ++ quote ∷ more) = is in
    let same : x.1 ≡ piece p = cc in
    let rest : names tail ≡ map piece pieces ++ quote ∷ more = cc in
    let h = inside-string pieces tail more rest in
    (h.0, h.1, subst (λ y. pieces_in ((x.0, y) ∷ tail) ≡ p ∷ pieces) (sym same) (ap (λ t. p ∷ t) h.2), λ stop. subst (λ y. tokens_inside plain ((x.0, y) ∷ tail) stop ≡ tokens_outside plain h.0 stop) (sym same) (h.3 stop))

yields-string : (pieces : List Piece) → Yields (quote ∷ map piece pieces ++ quote ∷ []) (text_token (decoded pieces) ∷ [])
yields-string pieces [] more is = absurd (let e : [] ≡ quote ∷ (map piece pieces ++ quote ∷ []) ++ more = is in cc)
yields-string pieces (x ∷ tail) more is =
    let e : x.1 ∷ names tail ≡ quote ∷ (map piece pieces ++ quote ∷ [] ++ more) = is in
    let same : x.1 ≡ quote = cc in
    let rest : names tail ≡ map piece pieces ++ quote ∷ [] ++ more = cc in
    let h = inside-string pieces tail more (rest ∙ append_assoc (map piece pieces) (quote ∷ []) more) in (
      h.0,
      h.1,
      λ stop. subst (λ y. (bare (tokens_outside plain ((x.0, y) ∷ tail) stop).tokens ≡ text_token (decoded pieces) ∷ bare (tokens_outside plain h.0 stop).tokens) × ((tokens_outside plain ((x.0, y) ∷ tail) stop).stop ≡ (tokens_outside plain h.0 stop).stop)) (sym same)
          (ap₂ (λ (ps : List Piece) (t : Tokens). text_token (decoded ps) ∷ bare t.tokens) h.2 (h.3 stop), ap (λ t. t.stop) (h.3 stop)),
    )

-- ---- texts

pub record Reads (t : List ℕ) (tokens : List Token) (rest : List ℕ) : Type 0 where
  pub lexemes : List Lexeme
  pub lexes : Lexes false t lexemes false rest
  pub yields : Yields lexemes tokens

pub reads-nothing : (t : List ℕ) → Reads t [] t
reads-nothing t = record { lexemes = []; lexes = (refl, refl); yields = λ placed more is. (placed, is, λ stop. (refl, refl)) }

pub reads-append : (t rest end : List ℕ) (tokens later : List Token) → Reads t tokens rest → Reads rest later end → Reads t (tokens ++ later) end
reads-append t rest end tokens later h k = record {
  lexemes = h.lexemes ++ k.lexemes;
  lexes = lexes-append h.lexemes k.lexemes false false false t rest end h.lexes k.lexes;
  yields = yields-append h.lexemes k.lexemes tokens later h.yields k.yields;
}

pub reads-string : (text rest : List ℕ) → Reads (json_string text ++ rest) (text_token text ∷ []) rest
reads-string text rest =
    let h = written-string text rest in
    record { lexemes = quote ∷ map piece h.0 ++ quote ∷ []; lexes = h.1; yields = subst (λ t. Yields (quote ∷ map piece h.0 ++ quote ∷ []) (text_token t ∷ [])) h.2 (yields-string h.0) }

pub reads-mark : (b : ℕ) (m : JsonMark) (rest : List ℕ) → mark_of b ≡ Some m → Reads (b ∷ rest) (sign m ∷ []) rest
unfolding lexeme_outside
reads-mark b m rest is = record {
  lexemes = mark m ∷ [];
  lexes = (1, subst (λ o. elim o [ Some k ↦ found (mark k) 1 | None ↦ lexeme_unmarked (b ∷ rest) ] ≡ found (mark m) 1) (sym is) refl, omega arith, (refl, refl));
  yields = yields-one (mark m) (sign m ∷ []) (λ place tail stop. (refl, refl));
}

-- what a rest begins with
abbrev pub is_filled : List ℕ → Bool
is_filled [] = false
is_filled (b ∷ t) = not (is_blank b)

abbrev pub ends_word : List ℕ → Bool
ends_word [] = true
ends_word (b ∷ t) = not (is_word_byte b)

-- a test that all of a text pass, and the first byte of the rest doesn't
prefix-all : (p : ℕ → Bool) (t rest : List ℕ) → list_all p t ≡ true → prefix_len p rest ≡ 0 → prefix_len p (t ++ rest) ≡ length t
prefix-all p [] rest all none = none
prefix-all p (b ∷ t) rest all none =
    let parts = and_parts (p b) (list_all p t) all in
    ap (λ v. cond v (1 + prefix_len p (t ++ rest)) 0) parts.0 ∙ one-add (prefix_len p (t ++ rest)) ∙ ap suc (prefix-all p t rest parts.1 none)

no-blank : (rest : List ℕ) → is_filled rest ≡ true → prefix_len is_blank rest ≡ 0
no-blank [] h = absurd (let e : false ≡ true = h in cc)
no-blank (b ∷ t) h = ap (λ v. cond v (1 + prefix_len is_blank t) 0) (not-true (is_blank b) h)

no-word : (rest : List ℕ) → ends_word rest ≡ true → prefix_len is_word_byte rest ≡ 0
no-word [] h = refl
no-word (b ∷ t) h = ap (λ v. cond v (1 + prefix_len is_word_byte t) 0) (not-true (is_word_byte b) h)

-- blanks of which the first is a space or a line feed
blanks-read : (b : ℕ) (t rest : List ℕ) → list_all is_blank (b ∷ t) ≡ true → is_filled rest ≡ true
    → lexeme_outside ((b ∷ t) ++ rest) ≡ found blank (prefix_len is_blank ((b ∷ t) ++ rest)) → Reads ((b ∷ t) ++ rest) [] rest
blanks-read b t rest all filled prefix =
    let len : prefix_len is_blank ((b ∷ t) ++ rest) ≡ length (b ∷ t) = prefix-all is_blank (b ∷ t) rest all (no-blank rest filled) in
    record {
      lexemes = blank ∷ [];
      lexes = (length (b ∷ t), prefix ∙ ap (found blank) len, omega arith, (drop-append_seam (b ∷ t) rest, refl));
      yields = yields-one blank [] (λ place tail stop. (refl, refl));
    }

pub reads-space : (rest : List ℕ) → is_filled rest ≡ true → Reads (32 ∷ rest) [] rest
unfolding lexeme_outside
reads-space rest filled = blanks-read 32 [] rest refl filled refl

spaces-blank : (n : ℕ) → list_all is_blank (replicate n 32) ≡ true
spaces-blank zero = refl
spaces-blank (suc n) = spaces-blank n

pub reads-line : (n : ℕ) (rest : List ℕ) → is_filled rest ≡ true → Reads (10 ∷ replicate n 32 ++ rest) [] rest
unfolding lexeme_outside
reads-line n rest filled = blanks-read 10 (replicate n 32) rest (spaces-blank n) filled refl

-- a word
other-byte : (b c : ℕ) → is_word_byte b ≡ true → is_word_byte c ≡ false → (b == c) ≡ false
other-byte b c h k = false_from_ne_true (b == c) (λ e. true≢false (sym h ∙ ap is_word_byte (eqb-true b c e) ∙ k))

pub word-byte-prefix : (b : ℕ) (t : List ℕ) → is_word_byte b ≡ true → (mark_of b ≡ None) × (is_blank b ≡ false) × ((b == 34) ≡ false)
word-byte-prefix b t h = (
  rw (other-byte b 123 h refl, other-byte b 125 h refl, other-byte b 91 h refl, other-byte b 93 h refl, other-byte b 58 h refl, other-byte b 44 h refl) refl,
  rw (other-byte b 32 h refl, other-byte b 9 h refl, other-byte b 10 h refl, other-byte b 13 h refl) refl,
  other-byte b 34 h refl,
)

pub reads-word : (b : ℕ) (t rest : List ℕ) (token : Token) → list_all is_word_byte (b ∷ t) ≡ true → ends_word rest ≡ true → token_of_word plain (b ∷ t) ≡ Some token
    → Reads ((b ∷ t) ++ rest) (token ∷ []) rest
unfolding lexeme_outside
reads-word b t rest token all ends is =
    let here = word-byte-prefix b t (and_parts (is_word_byte b) (list_all is_word_byte t) all).0 in
    let len : prefix_len is_word_byte ((b ∷ t) ++ rest) ≡ length (b ∷ t) = prefix-all is_word_byte (b ∷ t) rest all (no-word rest ends) in
    let prefix : lexeme_outside ((b ∷ t) ++ rest) ≡ found (word (b ∷ t)) (length (b ∷ t)) =
    ap (λ o. elim o [ Some k ↦ found (mark k) 1 | None ↦ lexeme_unmarked ((b ∷ t) ++ rest) ]) here.0
    ∙ ap₂ (λ x y. cond x (found blank (prefix_len is_blank ((b ∷ t) ++ rest))) (cond y (found quote 1) (cond (is_word_byte b) (found (word (take_while is_word_byte ((b ∷ t) ++ rest))) (prefix_len is_word_byte ((b ∷ t) ++ rest))) (bad 0)))) here.1 here.2
    ∙ cond-true (is_word_byte b) (found (word (take_while is_word_byte ((b ∷ t) ++ rest))) (prefix_len is_word_byte ((b ∷ t) ++ rest))) (bad 0) (and_parts (is_word_byte b) (list_all is_word_byte t) all).0
    ∙ ap (λ n. found (word (take n ((b ∷ t) ++ rest))) n) len
    ∙ ap (λ w. found (word w) (length (b ∷ t))) (take-append_seam (b ∷ t) rest) in
    record {
      lexemes = word (b ∷ t) ∷ [];
      lexes = (length (b ∷ t), prefix, omega arith, (drop-append_seam (b ∷ t) rest, refl));
      yields = yields-one (word (b ∷ t)) (token ∷ []) (λ place tail stop.
          subst (λ o. (bare (or_stop place o (tokens_outside plain tail stop)).tokens ≡ token ∷ bare (tokens_outside plain tail stop).tokens) × ((or_stop place o (tokens_outside plain tail stop)).stop ≡ (tokens_outside plain tail stop).stop)) (sym is) (refl, refl));
    }

-- all tokens of a text
pub reads-all : (t : List ℕ) (tokens : List Token) → Reads t tokens [] → (bare (tokens_of plain t).tokens ≡ tokens) × ((tokens_of plain t).stop ≡ None)
reads-all t tokens h =
    let lexed = lexes-all h.lexemes false t (length t + 1) 1 (omega arith) h.lexes in
    let y = h.yields (lexemes_of t).lexemes [] (lexed.0 ∙ sym (append-nil h.lexemes)) in
    let none : y.0 ≡ [] = no-names y.0 y.1 in
    let tokens_are = (y.2 (lexemes_of t).stop).0 in
    let stop_is = (y.2 (lexemes_of t).stop).1 in (
      tokens_are ∙ ap (λ r. tokens ++ bare (tokens_outside plain r (lexemes_of t).stop).tokens) none ∙ append-nil tokens,
      stop_is ∙ ap (λ r. (tokens_outside plain r (lexemes_of t).stop).stop) none ∙ lexed.1,
    )
  where
    no-names : (placed : List (ℕ × Lexeme)) → names placed ≡ [] → placed ≡ []
    no-names [] is = refl
    no-names (x ∷ placed) is = absurd (let e : x.1 ∷ names placed ≡ [] = is in cc)
