-- A string that was written is read back, piece by piece.
use Rattle.std.proofs.Common.{◌≡◌, ℕ, suc, ◌+◌, ◌/◌, ◌%◌, ◌<◌, ◌≤◌, Bool, true, false, cond, ◌||◌, ◌==◌, nat_lt, List, [], ◌∷◌, ◌++◌, map, take, drop, inl, inr, refl, ap, sym, subst, ◌∙◌, append_assoc, arith, one-add}
use Rattle.std.specs.List.{flat_map, prefix_len, take_while}
use Rattle.std.proofs.lemmas.Bool.{or_parts, ltb-true, ltb-false, lt-ltb, le-leb, lt-leb, eqb-true, cases_Bool, not-true}
use Rattle.std.proofs.lemmas.Str.{encode_ascii}
use Rattle.mlr_spec.specs.Infer.{digit, number}
use Rattle.mlr_spec.specs.Json.{escaped, escape_letter, hex_digit, json_string}
use Rattle.mlr_spec.specs.JsonTokens.{Piece, raw, unit, Lexeme, quote, piece, found, is_raw, is_hex, lexeme_inside, lexeme_outside, first_lexeme, is_inside, decoded, lone_unit}

-- a text continues with these lexemes up to the rest; `inside` and `after` say whether a string is open
-- before and after them
abbrev pub Lexes : Bool → List ℕ → List Lexeme → Bool → List ℕ → Type 0
Lexes inside t [] after rest = (t ≡ rest) × (inside ≡ after)
Lexes inside t (l ∷ lexemes) after rest = (len : ℕ) × (first_lexeme inside t ≡ found l len) × (0 < len) × Lexes (is_inside inside l) (drop len t) lexemes after rest

pub lexes-append : (lexemes more : List Lexeme) (a b c : Bool) (t rest end : List ℕ) → Lexes a t lexemes b rest → Lexes b rest more c end → Lexes a t (lexemes ++ more) c end
lexes-append [] more a b c t rest end h k = subst (λ x. Lexes a x more c end) (sym h.0) (subst (λ x. Lexes x rest more c end) (sym h.1) k)
lexes-append (l ∷ lexemes) more a b c t rest end h k = (h.0, h.1, h.2, lexes-append lexemes more (is_inside a l) b c (drop h.0 t) rest end h.3 k)

-- a byte that represents itself begins a run
prefix-raw : (b : ℕ) (t : List ℕ) → is_raw b ≡ true → lexeme_inside (b ∷ t) ≡ found (piece (raw (take_while is_raw (b ∷ t)))) (prefix_len is_raw (b ∷ t))
unfolding lexeme_inside
prefix-raw b t h =
    let parts = or_parts (b == 34) (b == 92) (not-true (b == 34 || b == 92) h) in
    rw (parts.0, parts.1) refl

-- the pieces of a string that was written
abbrev pub WrittenPieces : List ℕ → List ℕ → Type 0
WrittenPieces text rest = (pieces : List Piece) × Lexes true (flat_map escaped text ++ 34 ∷ rest) (map piece pieces ++ quote ∷ []) false rest × (decoded pieces ≡ text)

run-length : (b : ℕ) (t : List ℕ) → is_raw b ≡ true → prefix_len is_raw (b ∷ t) ≡ suc (prefix_len is_raw t)
run-length b t h = rw h (one-add (prefix_len is_raw t))

-- one more byte before a string, which represents itself
module _ (b : ℕ) (text rest : List ℕ) (plain : is_raw b ≡ true) where
  abbrev following : List ℕ
  following = flat_map escaped text ++ 34 ∷ rest

  run-prefix : lexeme_inside (b ∷ following) ≡ found (piece (raw (b ∷ take (prefix_len is_raw following) following))) (suc (prefix_len is_raw following))
  run-prefix =
      prefix-raw b following plain
      ∙ ap (λ n. found (piece (raw (take n (b ∷ following)))) n) (run-length b following plain)

  abbrev Longer : Type 0
  Longer = (pieces : List Piece) × Lexes true (b ∷ following) (map piece pieces ++ quote ∷ []) false rest × (decoded pieces ≡ b ∷ text)

  -- before a byte that doesn't go on with the run
  run-alone : (pieces : List Piece) → Lexes true following (map piece pieces ++ quote ∷ []) false rest → decoded pieces ≡ text → prefix_len is_raw following ≡ 0 → Longer
  run-alone pieces lexes is none =
      let prefix : lexeme_inside (b ∷ following) ≡ found (piece (raw (b ∷ []))) 1 = run-prefix ∙ ap (λ n. found (piece (raw (b ∷ take n following))) (suc n)) none in
      (raw (b ∷ []) ∷ pieces, (1, prefix, omega arith, lexes), ap (λ t. b ∷ t) is)

  -- before a byte that continues it
  run-longer : (pieces : List Piece) → Lexes true following (map piece pieces ++ quote ∷ []) false rest → decoded pieces ≡ text
      → lexeme_inside following ≡ found (piece (raw (take (prefix_len is_raw following) following))) (prefix_len is_raw following) → Longer
  run-longer [] lexes is prefix = absurd (let e : found quote lexes.0 ≡ found (piece (raw (take (prefix_len is_raw following) following))) (prefix_len is_raw following) = sym lexes.1 ∙ prefix in cc)
  run-longer (p ∷ pieces) lexes is prefix =
      let e : found (piece p) lexes.0 ≡ found (piece (raw (take (prefix_len is_raw following) following))) (prefix_len is_raw following) = sym lexes.1 ∙ prefix in
      let same : p ≡ raw (take (prefix_len is_raw following) following) = cc in
      let len : lexes.0 ≡ prefix_len is_raw following = cc in (
        raw (b ∷ take (prefix_len is_raw following) following) ∷ pieces,
        (suc (prefix_len is_raw following), run-prefix, omega arith, subst (λ n. Lexes true (drop n following) (map piece pieces ++ quote ∷ []) false rest) len lexes.3),
        ap (λ t. b ∷ t) (ap (λ q. decoded (q ∷ pieces)) (sym same) ∙ is),
      )

  byte-plain : WrittenPieces text rest → (t : List ℕ) → following ≡ t → Longer
  byte-plain h [] is = run-alone h.0 h.1 h.2 (ap (prefix_len is_raw) is)
  byte-plain h (c ∷ t) is =
      elim (cases_Bool (is_raw c)) [
        | inl y ↦ run-longer h.0 h.1 h.2 (subst (λ x. lexeme_inside x ≡ found (piece (raw (take (prefix_len is_raw x) x))) (prefix_len is_raw x)) (sym is) (prefix-raw c t y))
        | inr n ↦ run-alone h.0 h.1 h.2 (ap (prefix_len is_raw) is ∙ ap (λ v. cond v (1 + prefix_len is_raw t) 0) n)
      ]

-- a byte that is escaped by a letter
byte-letter : (b l : ℕ) (text rest : List ℕ) → WrittenPieces text rest → escaped b ≡ 92 ∷ l ∷ [] → lexeme_inside (92 ∷ l ∷ (flat_map escaped text ++ 34 ∷ rest)) ≡ found (piece (raw (b ∷ []))) 2
    → WrittenPieces (b ∷ text) rest
byte-letter b l text rest h is prefix = (
  raw (b ∷ []) ∷ h.0,
  subst (λ e. Lexes true (e ++ flat_map escaped text ++ 34 ∷ rest) (piece (raw (b ∷ [])) ∷ (map piece h.0 ++ quote ∷ [])) false rest) (sym is) (2, prefix, omega arith, h.1),
  ap (λ t. b ∷ t) h.2,
)

digit-hex : (n : ℕ) → n < 16 → digit (hex_digit n) ≡ n
digit-hex n h =
    elim (cases_Bool (nat_lt n 10)) as (λ _. digit (hex_digit n) ≡ n) [
      | inl y ↦
          let low : n < 10 = ltb-true n 10 y in
          rw (y, le-leb 48 (48 + n) (omega arith), le-leb (48 + n) 57 (omega arith)) (omega arith)
      | inr k ↦
          let high : 10 ≤ n = ltb-false n 10 k in
          rw (k, le-leb 48 (87 + n) (omega arith), lt-leb (87 + n) 57 (omega arith), le-leb 97 (87 + n) (omega arith), le-leb (87 + n) 102 (omega arith)) (omega arith)
    ]

is_hex-digit : (n : ℕ) → n < 16 → is_hex (hex_digit n) ≡ true
is_hex-digit n h = ap (λ d. nat_lt d 16) (digit-hex n h) ∙ lt-ltb n 16 h

-- a control that is escaped by its number
module _ (b : ℕ) (text rest : List ℕ) (low : b < 32) where
  abbrev digits : List ℕ
  digits = 48 ∷ 48 ∷ hex_digit (b / 16) ∷ hex_digit (b % 16) ∷ []

  high_digit : b / 16 < 16
  high_digit = omega arith

  low_digit : b % 16 < 16
  low_digit = omega arith

  digits-number : number 16 digits ≡ b
  digits-number = rw (digit-hex (b / 16) high_digit, digit-hex (b % 16) low_digit) (omega arith)

  digits-prefix : (t : List ℕ) → lexeme_inside (92 ∷ 117 ∷ (digits ++ t)) ≡ found (piece (unit b)) 6
  unfolding lexeme_inside
  digits-prefix t =
      let long : prefix_len is_hex (digits ++ t) ≡ 1 + (1 + (1 + (1 + prefix_len is_hex t))) = rw (is_hex-digit (b / 16) high_digit, is_hex-digit (b % 16) low_digit) refl in
      let enough : 4 ≤ prefix_len is_hex (digits ++ t) = omega arith in
      rw (le-leb 4 (prefix_len is_hex (digits ++ t)) enough) (ap (λ n. found (piece (unit n)) 6) digits-number)

  lone-low : lone_unit b ≡ b ∷ []
  lone-low = rw (lt-leb 0xD800 b (omega arith)) (encode_ascii b (omega arith))

  decoded-low : (pieces : List Piece) → decoded (unit b ∷ pieces) ≡ b ∷ decoded pieces
  decoded-low [] = lone-low
  decoded-low (raw t ∷ pieces) = ap (λ u. u ++ t ++ decoded pieces) lone-low
  decoded-low (unit v ∷ pieces) = rw (lt-leb 0xD800 b (omega arith)) (ap (λ u. u ++ decoded (unit v ∷ pieces)) (encode_ascii b (omega arith)))

  byte-control : WrittenPieces text rest → escaped b ≡ 92 ∷ 117 ∷ digits → WrittenPieces (b ∷ text) rest
  byte-control h is = (
    unit b ∷ h.0,
    subst (λ e. Lexes true (e ++ flat_map escaped text ++ 34 ∷ rest) (piece (unit b) ∷ (map piece h.0 ++ quote ∷ [])) false rest) (sym is)
        (6, digits-prefix (flat_map escaped text ++ 34 ∷ rest), omega arith, h.1),
    decoded-low h.0 ∙ ap (λ t. b ∷ t) h.2,
  )

-- each byte of a string, by its escape
byte-written : (b : ℕ) (text rest : List ℕ) → WrittenPieces text rest → WrittenPieces (b ∷ text) rest
unfolding lexeme_inside
byte-written b text rest h =
    elim (cases_Bool (b == 34)) [
      | inl y ↦ let e : b ≡ 34 = eqb-true b 34 y in subst (λ x. WrittenPieces (x ∷ text) rest) (sym e) (byte-letter 34 34 text rest h refl refl)
      | inr n34 ↦ elim (cases_Bool (b == 92)) [
        | inl y ↦ let e : b ≡ 92 = eqb-true b 92 y in subst (λ x. WrittenPieces (x ∷ text) rest) (sym e) (byte-letter 92 92 text rest h refl refl)
        | inr n92 ↦ elim (cases_Bool (b == 8)) [
          | inl y ↦ let e : b ≡ 8 = eqb-true b 8 y in subst (λ x. WrittenPieces (x ∷ text) rest) (sym e) (byte-letter 8 98 text rest h refl refl)
          | inr n8 ↦ elim (cases_Bool (b == 9)) [
            | inl y ↦ let e : b ≡ 9 = eqb-true b 9 y in subst (λ x. WrittenPieces (x ∷ text) rest) (sym e) (byte-letter 9 116 text rest h refl refl)
            | inr n9 ↦ elim (cases_Bool (b == 10)) [
              | inl y ↦ let e : b ≡ 10 = eqb-true b 10 y in subst (λ x. WrittenPieces (x ∷ text) rest) (sym e) (byte-letter 10 110 text rest h refl refl)
              | inr n10 ↦ elim (cases_Bool (b == 12)) [
                | inl y ↦ let e : b ≡ 12 = eqb-true b 12 y in subst (λ x. WrittenPieces (x ∷ text) rest) (sym e) (byte-letter 12 102 text rest h refl refl)
                | inr n12 ↦ elim (cases_Bool (b == 13)) [
                  | inl y ↦ let e : b ≡ 13 = eqb-true b 13 y in subst (λ x. WrittenPieces (x ∷ text) rest) (sym e) (byte-letter 13 114 text rest h refl refl)
                  | inr n13 ↦
                      let letter : escape_letter b ≡ 0 = rw (n34, n92, n8, n9, n10, n12, n13) refl in
                      elim (cases_Bool (nat_lt b 32)) [
                        | inl low ↦ byte-control b text rest (ltb-true b 32 low) h (rw (letter, low) refl)
                        | inr high ↦
                            let plain : is_raw b ≡ true = rw (n34, n92) refl in
                            let is : escaped b ≡ b ∷ [] = rw (letter, high) refl in
                            let longer = byte-plain b text rest plain h (flat_map escaped text ++ 34 ∷ rest) refl in
                            (longer.0, subst (λ e. Lexes true (e ++ flat_map escaped text ++ 34 ∷ rest) (map piece longer.0 ++ quote ∷ []) false rest) (sym is) longer.1, longer.2)
                      ]
                ]
              ]
            ]
          ]
        ]
      ]
    ]

pub written-pieces : (text rest : List ℕ) → WrittenPieces text rest
unfolding lexeme_inside
written-pieces [] rest = ([], (1, refl, omega arith, (refl, refl)), refl)
written-pieces (b ∷ text) rest = byte-written b text rest (written-pieces text rest)

-- a whole string, between its quotes
pub written-string : (text rest : List ℕ) → (pieces : List Piece) × Lexes false (json_string text ++ rest) (quote ∷ map piece pieces ++ quote ∷ []) false rest × (decoded pieces ≡ text)
unfolding lexeme_outside
written-string text rest =
    let h = written-pieces text rest in
    (h.0, (1, refl, omega arith, subst (λ x. Lexes true x (map piece h.0 ++ quote ∷ []) false rest) (sym (append_assoc (flat_map escaped text) (34 ∷ []) rest)) h.1), h.2)
