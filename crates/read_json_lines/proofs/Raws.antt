-- Pieces of a string, where a run of bytes is split between two pieces of the file.
use Rattle.std.proofs.Common.{◌≡◌, ℕ, zero, suc, ◌+◌, ◌<◌, ◌≤◌, Bool, true, false, cond, ◌==◌, nat_le, nat_lt, ◌⊎◌, List, [], ◌∷◌, ◌++◌, length, take, drop, Option, Some, None, inl, inr, refl, ap, ap₂, sym, ◌∙◌, arith, append_assoc}
use Rattle.std.specs.List.{prefix_len, take_while}
use Rattle.std.proofs.Math.Seq.{take-length, take-append-add, drop-append-add}
use Rattle.std.proofs.lemmas.Bool.{cases_Bool, true≢false, cases_lt, eqb-true, eq-eqb, leb-true, le-leb}
use Rattle.std.proofs.lemmas.List.{append-nil, length-append, drop-append-le, drop_all}
use Rattle.std.proofs.lemmas.List.Sums.{prefix_len-le-length}
use Rattle.mlr_spec.specs.Infer.{number}
use Rattle.mlr_spec.specs.declared.infer.InferOpts.{InferOpts}
use Rattle.mlr_spec.specs.JsonTokens.{Piece, raw, unit, Lexeme, piece, quote, Scanned, found, begun, bad, is_raw, is_hex, escape_of, lexeme_of_unit, lexeme_inside, lexeme_of_escape, decoded, lone_unit, text_token}
use Rattle.mlr_json.specs.Decoding.{pending}
use Rattle.mlr_json.proofs.Stable.{stays-found, escape-stays, run-stays}
use Rattle.read_json_lines.specs.Json.{Known}
use Rattle.read_json_lines.specs.declared.strings.OpenText.{OpenText}
use Rattle.read_json_lines.specs.Streams.{and_token, inside, pieces, text_tokens, is_quote}
use Rattle.read_json_lines.proofs.Lexing.{nothing-inside}
use Rattle.read_json_lines.proofs.Outside.{inside-piece}
use Rattle.read_json_lines.proofs.Begun.{whole-then}

joined : (high : Option ℕ) (a b : List ℕ) (more : List Piece) → decoded (pending high ++ raw (a ++ b) ∷ more) ≡ decoded (pending high ++ raw a ∷ raw b ∷ more)
joined None a b more = append_assoc a b (decoded more)
joined (Some u) a b more =
    append_assoc (lone_unit u) (a ++ b) (decoded more) ∙ ap (λ t. lone_unit u ++ t) (append_assoc a b (decoded more)) ∙ sym (append_assoc (lone_unit u) a (b ++ decoded more))

-- a run that is split is the same text
text-joined : (o : Option OpenText) (a b : List ℕ) (more : List Piece) (rest : Known) → text_tokens o (raw (a ++ b) ∷ more) rest ≡ text_tokens o (raw a ∷ raw b ∷ more) rest
text-joined None a b more rest = refl
text-joined (Some t) a b more rest = ap (λ x. and_token t.place (text_token (t.builder.text ++ x)) rest) (joined t.builder.high a b more)

raw-prefix : (b : ℕ) (t : List ℕ) → (b == 34) ≡ false → (b == 92) ≡ false → lexeme_inside (b ∷ t) ≡ found (piece (raw (take_while is_raw (b ∷ t)))) (prefix_len is_raw (b ∷ t))
unfolding lexeme_inside
raw-prefix b t n1 n2 =
    let last : Scanned = found (piece (raw (take_while is_raw (b ∷ t)))) (prefix_len is_raw (b ∷ t)) in
    ap (λ v. cond v (found quote 1) (cond (b == 92) (lexeme_of_escape t) last)) n1 ∙ ap (λ v. cond v (lexeme_of_escape t) last) n2

at-escape : (b : ℕ) (t : List ℕ) → (b == 34) ≡ false → (b == 92) ≡ true → lexeme_inside (b ∷ t) ≡ lexeme_of_escape t
unfolding lexeme_inside
at-escape b t n1 y =
    let last : Scanned = found (piece (raw (take_while is_raw (b ∷ t)))) (prefix_len is_raw (b ∷ t)) in
    ap (λ v. cond v (found quote 1) (cond (b == 92) (lexeme_of_escape t) last)) n1 ∙ ap (λ v. cond v (lexeme_of_escape t) last) y

at-quote : (b : ℕ) (t : List ℕ) → (b == 34) ≡ true → lexeme_inside (b ∷ t) ≡ found quote 1
unfolding lexeme_inside
at-quote b t y =
    let last : Scanned = found (piece (raw (take_while is_raw (b ∷ t)))) (prefix_len is_raw (b ∷ t)) in
    ap (λ v. cond v (found quote 1) (cond (b == 92) (lexeme_of_escape t) last)) y

raw-byte : (b : ℕ) → is_raw b ≡ true → ((b == 34) ≡ false) × ((b == 92) ≡ false)
raw-byte b is = elim (cases_Bool (b == 34)) [
  | inl y ↦ absurd (true≢false (sym is ∙ rw y refl))
  | inr n ↦ elim (cases_Bool (b == 92)) [
    | inl y ↦ absurd (true≢false (sym is ∙ rw (n, y) refl))
    | inr m ↦ (n, m)
  ]
]

module _ (whole : Bool) (infer : InferOpts) (end : ℕ) (o : Option OpenText) where
  abbrev string_of : List ℕ → Known
  string_of text = text_tokens o (pieces whole end text) (inside whole infer end text)

  abbrev string_with : Piece → List ℕ → Known
  string_with p text = text_tokens o (p ∷ pieces whole end text) (inside whole infer end text)

  piece-found : (text : List ℕ) (p : Piece) (len : ℕ) → length text ≤ end → lexeme_inside text ≡ found (piece p) len → string_of text ≡ string_with p (drop len text)
  piece-found text p len fits is =
      let found_is = inside-piece whole infer end text fits p len is in
      ap₂ (λ q t. text_tokens o q t) found_is.0 found_is.1

  -- a run of bytes at the start of the text
  split-run : (a bytes : List ℕ) → length bytes ≤ end → (first : ℕ) → prefix_len is_raw bytes ≡ first
      → text_tokens o (raw (a ++ take first bytes) ∷ pieces whole end (drop first bytes)) (inside whole infer end (drop first bytes)) ≡ string_with (raw a) bytes
  split-run a bytes fits zero is = ap (λ t. text_tokens o (raw t ∷ pieces whole end bytes) (inside whole infer end bytes)) (append-nil a)
  split-run a [] fits (suc k) is = absurd (omega (arith, is))
  split-run a (c ∷ bytes) fits (suc k) is =
      elim (cases_Bool (is_raw c)) [
        | inl y ↦
            let plain = raw-byte c y in
            let run = raw-prefix c bytes plain.0 plain.1 ∙ ap (λ n. found (piece (raw (take n (c ∷ bytes)))) n) is in
            let found_is = inside-piece whole infer end (c ∷ bytes) fits (raw (take (suc k) (c ∷ bytes))) (suc k) run in
            text-joined o a (take (suc k) (c ∷ bytes)) (pieces whole end (drop (suc k) (c ∷ bytes))) (inside whole infer end (drop (suc k) (c ∷ bytes)))
            ∙ sym (ap₂ (λ q t. text_tokens o (raw a ∷ q) t) found_is.0 found_is.1)
        | inr n ↦ absurd (omega (arith, is, ap (λ v. cond v (1 + prefix_len is_raw bytes) 0) n))
      ]

  -- a run that reaches the end of the text
  at-end : (text bytes : List ℕ) (p : Piece) (len : ℕ) → length (text ++ bytes) ≤ end → len ≤ length text → lexeme_inside text ≡ found (piece p) len → length text ≤ len
      → string_of (text ++ bytes) ≡ string_with p (drop len text ++ bytes)
  at-end [] bytes p len fits within is ends = absurd (let e : begun ≡ found (piece p) len = sym nothing-inside ∙ is in cc)
  at-end (b ∷ t) bytes p len fits within is ends =
      elim (cases_Bool (b == 34)) [
        | inl y ↦ absurd (let e : found quote 1 ≡ found (piece p) len = sym (at-quote b t y) ∙ is in cc)
        | inr n1 ↦ elim (cases_Bool (b == 92)) [
          | inl y ↦
              piece-found (b ∷ t ++ bytes) p len fits (at-escape b (t ++ bytes) n1 y ∙ escape-stays t bytes (piece p) len (sym (at-escape b t n1 y) ∙ is))
              ∙ ap (string_with p) (drop-append-le len (b ∷ t) bytes within)
          | inr n2 ↦
              let text = b ∷ t in
              let k = prefix_len is_raw bytes in
              let here : found (piece (raw (take_while is_raw text))) (prefix_len is_raw text) ≡ found (piece p) len = sym (raw-prefix b t n1 n2) ∙ is in
              let len_is : prefix_len is_raw text ≡ len = cc in
              let p_is : raw (take (prefix_len is_raw text) text) ≡ p = cc in
              let all : prefix_len is_raw text ≡ length text = omega (arith, len_is) in
              let p_all : raw text ≡ p = sym (ap (λ n. raw (take n text)) all ∙ ap raw (take-length text)) ∙ p_is in
              let nothing : drop len text ≡ [] = drop_all len text ends in
              let many : prefix_len is_raw (text ++ bytes) ≡ length text + k = whole-then is_raw text bytes all in
              let small : length bytes ≤ end = omega (arith, length-append text bytes) in
              piece-found (text ++ bytes) (raw (text ++ take k bytes)) (length text + k) fits
              (raw-prefix b (t ++ bytes) n1 n2 ∙ ap (λ n. found (piece (raw (take n (text ++ bytes)))) n) many
              ∙ ap (λ x. found (piece (raw x)) (length text + k)) (take-append-add text bytes k))
              ∙ ap (string_with (raw (text ++ take k bytes))) (drop-append-add text bytes k)
              ∙ split-run text bytes small k refl
              ∙ ap₂ (λ q x. string_with q (x ++ bytes)) p_all (sym nothing)
        ]
      ]

  -- the piece at the start of a text, whatever follows
  pub string-piece : (text bytes : List ℕ) (p : Piece) (len : ℕ) → length (text ++ bytes) ≤ end → len ≤ length text → lexeme_inside text ≡ found (piece p) len
      → string_of (text ++ bytes) ≡ string_with p (drop len text ++ bytes)
  string-piece text bytes p len fits within is =
      elim (cases_lt len (length text)) [
        | inl below ↦
            piece-found (text ++ bytes) p len fits (stays-found true text bytes (piece p) len is (inr below))
            ∙ ap (string_with p) (drop-append-le len text bytes within)
        | inr ends ↦ at-end text bytes p len fits within is ends
      ]

-- a byte that isn't allowed in a string
unit-bad : (text more : List ℕ) (k : ℕ) → lexeme_of_unit text ≡ bad k → lexeme_of_unit (text ++ more) ≡ bad k
unit-bad text more k is =
    let n = prefix_len is_hex text in
    elim (cases_Bool (nat_le 4 n)) [
      | inl y ↦ absurd (let e : found (piece (unit (number 16 (take 4 text)))) 6 ≡ bad k = sym (ap (λ v. cond v (found (piece (unit (number 16 (take 4 text)))) 6) (cond (n == length text) begun (bad (2 + n)))) y) ∙ is in cc)
      | inr few ↦
          let here : cond (n == length text) begun (bad (2 + n)) ≡ bad k = sym (ap (λ v. cond v (found (piece (unit (number 16 (take 4 text)))) 6) (cond (n == length text) begun (bad (2 + n)))) few) ∙ is in
          by-end few (cases_Bool (n == length text)) here
    ]
  where
    by-end : nat_le 4 (prefix_len is_hex text) ≡ false → ((prefix_len is_hex text == length text) ≡ true) ⊎ ((prefix_len is_hex text == length text) ≡ false)
        → cond (prefix_len is_hex text == length text) begun (bad (2 + prefix_len is_hex text)) ≡ bad k → lexeme_of_unit (text ++ more) ≡ bad k
    by-end few (inl y) here = absurd (let e : begun ≡ bad k = sym (ap (λ v. cond v begun (bad (2 + prefix_len is_hex text))) y) ∙ here in cc)
    by-end few (inr other) here =
        let n = prefix_len is_hex text in
        let below : n < length text = below-of (cases_lt n (length text)) other in
        let same : prefix_len is_hex (text ++ more) ≡ n = run-stays is_hex text more below in
        let apart : (n == length (text ++ more)) ≡ false = apart-of (cases_Bool (n == length (text ++ more))) below in
        ap (λ m. cond (nat_le 4 m) (found (piece (unit (number 16 (take 4 (text ++ more))))) 6) (cond (m == length (text ++ more)) begun (bad (2 + m)))) same
        ∙ ap (λ v. cond v (found (piece (unit (number 16 (take 4 (text ++ more))))) 6) (cond (n == length (text ++ more)) begun (bad (2 + n)))) few
        ∙ ap (λ v. cond v begun (bad (2 + n))) apart
        ∙ sym (ap (λ v. cond v begun (bad (2 + n))) other) ∙ here
      where
        below-of : (prefix_len is_hex text < length text) ⊎ (length text ≤ prefix_len is_hex text) → (prefix_len is_hex text == length text) ≡ false → prefix_len is_hex text < length text
        below-of (inl less) other = less
        below-of (inr more_than) other =
            let equal : prefix_len is_hex text ≡ length text = omega (arith, prefix_len-le-length is_hex text) in
            absurd (true≢false (sym (eqb-refl-of equal) ∙ other))
          where
            eqb-refl-of : prefix_len is_hex text ≡ length text → (prefix_len is_hex text == length text) ≡ true
            eqb-refl-of equal = eq-eqb (prefix_len is_hex text) (length text) equal

        apart-of : ((prefix_len is_hex text == length (text ++ more)) ≡ true) ⊎ ((prefix_len is_hex text == length (text ++ more)) ≡ false) → prefix_len is_hex text < length text → (prefix_len is_hex text == length (text ++ more)) ≡ false
        apart-of (inl y) below = absurd (omega (arith, eqb-true (prefix_len is_hex text) (length (text ++ more)) y, length-append text more))
        apart-of (inr n) below = n

escape-bad : (text more : List ℕ) (k : ℕ) → lexeme_of_escape text ≡ bad k → lexeme_of_escape (text ++ more) ≡ bad k
escape-bad [] more k is = absurd (let e : begun ≡ bad k = is in cc)
escape-bad (c ∷ text) more k is =
    elim (cases_Bool (c == 117)) [
      | inl y ↦ rw y (unit-bad text more k (sym (rw y refl) ∙ is))
      | inr n ↦
          let here : cond (nat_lt 0 (escape_of c)) (found (piece (raw (escape_of c ∷ []))) 2) (bad 1) ≡ bad k = sym (rw n refl) ∙ is in
          rw n here
    ]

pub inside-bad-stays : (text more : List ℕ) (k : ℕ) → lexeme_inside text ≡ bad k → lexeme_inside (text ++ more) ≡ bad k
inside-bad-stays [] more k is = absurd (let e : begun ≡ bad k = sym nothing-inside ∙ is in cc)
inside-bad-stays (b ∷ t) more k is =
    elim (cases_Bool (b == 34)) [
      | inl y ↦ absurd (let e : found quote 1 ≡ bad k = sym (at-quote b t y) ∙ is in cc)
      | inr n1 ↦ elim (cases_Bool (b == 92)) [
        | inl y ↦ at-escape b (t ++ more) n1 y ∙ escape-bad t more k (sym (at-escape b t n1 y) ∙ is)
        | inr n2 ↦ absurd (let e : found (piece (raw (take_while is_raw (b ∷ t)))) (prefix_len is_raw (b ∷ t)) ≡ bad k = sym (raw-prefix b t n1 n2) ∙ is in cc)
      ]
    ]

-- an escape that has begun ends with one more byte, and is a piece
unit-ends : (d : List ℕ) (b : ℕ) (l : Lexeme) (len : ℕ) → lexeme_of_unit d ≡ begun → lexeme_of_unit (d ++ b ∷ []) ≡ found l len → (len ≡ length d + 3) × (is_quote l ≡ false)
unit-ends d b l len before is =
    let n = prefix_len is_hex d in
    let x = d ++ b ∷ [] in
    let m = prefix_len is_hex x in
    let whole = begun-whole (cases_Bool (nat_le 4 n)) (cases_Bool (n == length d)) in
    elim (cases_Bool (nat_le 4 m)) [
      | inl y ↦
          let e : found (piece (unit (number 16 (take 4 x)))) 6 ≡ found l len = sym (ap (λ v. cond v (found (piece (unit (number 16 (take 4 x)))) 6) (cond (m == length x) begun (bad (2 + m)))) y) ∙ is in
          let six : 6 ≡ len = cc in
          let same : piece (unit (number 16 (take 4 x))) ≡ l = cc in
          (omega (arith, six, leb-true 4 m y, prefix_len-le-length is_hex x, length-append d (b ∷ []), whole.0, whole.1), ap is_quote (sym same))
      | inr few ↦ absurd (not-found (m == length x) (sym (ap (λ v. cond v (found (piece (unit (number 16 (take 4 x)))) 6) (cond (m == length x) begun (bad (2 + m)))) few) ∙ is))
    ]
  where
    not-found : (v : Bool) → cond v begun (bad (2 + prefix_len is_hex (d ++ b ∷ []))) ≡ found l len → ⊥
    not-found true h = let e : begun ≡ found l len = h in cc
    not-found false h = let e : bad (2 + prefix_len is_hex (d ++ b ∷ [])) ≡ found l len = h in cc

    begun-whole : ((nat_le 4 (prefix_len is_hex d) ≡ true) ⊎ (nat_le 4 (prefix_len is_hex d) ≡ false)) → (((prefix_len is_hex d == length d) ≡ true) ⊎ ((prefix_len is_hex d == length d) ≡ false)) → (prefix_len is_hex d < 4) × (prefix_len is_hex d ≡ length d)
    begun-whole (inl y) all = absurd (let e : found (piece (unit (number 16 (take 4 d)))) 6 ≡ begun = sym (ap (λ v. cond v (found (piece (unit (number 16 (take 4 d)))) 6) (cond (prefix_len is_hex d == length d) begun (bad (2 + prefix_len is_hex d)))) y) ∙ before in cc)
    begun-whole (inr few) (inl all) = (few-of (cases_lt (prefix_len is_hex d) 4) few, eqb-true (prefix_len is_hex d) (length d) all)
      where
        few-of : (prefix_len is_hex d < 4) ⊎ (4 ≤ prefix_len is_hex d) → nat_le 4 (prefix_len is_hex d) ≡ false → prefix_len is_hex d < 4
        few-of (inl less) few = less
        few-of (inr many) few = absurd (true≢false (sym (le-leb 4 (prefix_len is_hex d) many) ∙ few))
    begun-whole (inr few) (inr apart) = absurd (let e : bad (2 + prefix_len is_hex d) ≡ begun =
        sym (ap (λ v. cond v (found (piece (unit (number 16 (take 4 d)))) 6) (cond (prefix_len is_hex d == length d) begun (bad (2 + prefix_len is_hex d)))) few ∙ ap (λ v. cond v begun (bad (2 + prefix_len is_hex d))) apart) ∙ before in cc)

pub escape-ends : (bytes : List ℕ) (b : ℕ) (l : Lexeme) (len : ℕ) → 0 < length bytes → lexeme_inside bytes ≡ begun → lexeme_inside (bytes ++ b ∷ []) ≡ found l len → (len ≡ length (bytes ++ b ∷ [])) × (is_quote l ≡ false)
escape-ends [] b l len some before is = absurd (omega arith)
escape-ends (c ∷ t) b l len some before is =
    elim (cases_Bool (c == 34)) [
      | inl y ↦ absurd (let e : found quote 1 ≡ begun = sym (at-quote c t y) ∙ before in cc)
      | inr n1 ↦ elim (cases_Bool (c == 92)) [
        | inl y ↦ by t (sym (at-escape c t n1 y) ∙ before) (sym (at-escape c (t ++ b ∷ []) n1 y) ∙ is)
        | inr n2 ↦ absurd (let e : found (piece (raw (take_while is_raw (c ∷ t)))) (prefix_len is_raw (c ∷ t)) ≡ begun = sym (raw-prefix c t n1 n2) ∙ before in cc)
      ]
    ]
  where
    letter : (x : Bool) (e : ℕ) → cond x (found (piece (raw (e ∷ []))) 2) (bad 1) ≡ found l len → (len ≡ 2) × (is_quote l ≡ false)
    letter true e h =
        let f : found (piece (raw (e ∷ []))) 2 ≡ found l len = h in
        let same : piece (raw (e ∷ [])) ≡ l = cc in
        (cc, ap is_quote (sym same))
    letter false e h = absurd (let f : bad 1 ≡ found l len = h in cc)

    never : (x : Bool) (e : ℕ) → cond x (found (piece (raw (e ∷ []))) 2) (bad 1) ≡ begun → ⊥
    never true e h = let f : found (piece (raw (e ∷ []))) 2 ≡ begun = h in cc
    never false e h = let f : bad 1 ≡ begun = h in cc

    by : (t : List ℕ) → lexeme_of_escape t ≡ begun → lexeme_of_escape (t ++ b ∷ []) ≡ found l len → (len ≡ length (c ∷ t ++ b ∷ [])) × (is_quote l ≡ false)
    by [] here there =
        elim (cases_Bool (b == 117)) [
          | inl y ↦ absurd (let e : begun ≡ found l len = sym (rw y refl) ∙ there in cc)
          | inr n ↦ letter (nat_lt 0 (escape_of b)) (escape_of b) (sym (rw n refl) ∙ there)
        ]
    by (e ∷ d) here there =
        elim (cases_Bool (e == 117)) [
          | inl y ↦
              let ends = unit-ends d b l len (sym (rw y refl) ∙ here) (sym (rw y refl) ∙ there) in
              (omega (arith, ends.0, length-append d (b ∷ [])), ends.1)
          | inr n ↦ absurd (never (nat_lt 0 (escape_of e)) (escape_of e) (sym (rw n refl) ∙ here))
        ]

pub escape-ended : (bytes text : List ℕ) (l : Lexeme) (len : ℕ) → 0 < length bytes → 0 < length text → lexeme_inside bytes ≡ begun → lexeme_inside (bytes ++ take 1 text) ≡ found l len → (len ≡ length (bytes ++ take 1 text)) × (is_quote l ≡ false)
escape-ended bytes [] l len some more before is = absurd (omega arith)
escape-ended bytes (b ∷ t) l len some more before is = escape-ends bytes b l len some before is
