-- The text within quotes, cut at each quote.
use Rattle.std.proofs.Common.{◌≡◌, ℕ, zero, suc, ◌+◌, ◌<◌, true, false, eqb, List, [], ◌∷◌, ◌++◌, length, take, drop, get_or, Option, Some, None, refl, ap, sym, ◌∙◌, append_assoc, arith, add-one}
use Rattle.std.proofs.lemmas.Bool.{false_from_ne_true, true≢false}
use Rattle.memchr.specs.Find.{IsFirstByte, is_byte}
use Rattle.read_csv.specs.Csv.{Quoted, quoted_at, with_byte}
use Rattle.read_csv.specs.OpenRow.{RowState, open_text, inside, after_quotes, starts_quoted, in_quotes, with_text}
use Rattle.read_csv.specs.Quotes.{HasNoQuote, HasQuote}

abbrev content_of : Option Quoted → List ℕ → List ℕ
content_of found opened = elim found [ Some q ↦ q.content | None ↦ opened ]

abbrev after_of : Option Quoted → Option (List ℕ)
after_of found = elim found [ Some q ↦ Some q.following | None ↦ None ]

content-byte : (b : ℕ) (found : Option Quoted) (opened : List ℕ) → content_of (with_byte b found) (b ∷ opened) ≡ b ∷ content_of found opened
content-byte b None opened = refl
content-byte b (Some q) opened = refl

following-byte : (b : ℕ) (found : Option Quoted) → after_of (with_byte b found) ≡ after_of found
following-byte b None = refl
following-byte b (Some q) = refl

following-is : (found : Option Quoted) (text : List ℕ) → quoted_at text ≡ found → after_quotes text ≡ after_of found
following-is None text is = rw is refl
following-is (Some q) text is = rw is refl

-- a byte that isn't a quote belongs to the content
quoted-other : (b : ℕ) (text : List ℕ) → eqb b 34 ≡ false → quoted_at (b ∷ text) ≡ with_byte b (quoted_at text)
quoted-other b [] other = rw other refl
quoted-other b (c ∷ text) other = rw other refl

open-other : (b : ℕ) (text : List ℕ) → eqb b 34 ≡ false → open_text (b ∷ text) ≡ b ∷ open_text text
open-other b [] other = refl
open-other b (c ∷ text) other = rw other refl

pub inside-other : (b : ℕ) (text : List ℕ) → eqb b 34 ≡ false → inside (b ∷ text) ≡ b ∷ inside text
inside-other b text other =
    ap (λ found. content_of found (open_text (b ∷ text))) (quoted-other b text other)
    ∙ ap (content_of (with_byte b (quoted_at text))) (open-other b text other)
    ∙ content-byte b (quoted_at text) (open_text text)

pub following-other : (b : ℕ) (text : List ℕ) → eqb b 34 ≡ false → after_quotes (b ∷ text) ≡ after_quotes text
following-other b text other =
    following-is (with_byte b (quoted_at text)) (b ∷ text) (quoted-other b text other) ∙ following-byte b (quoted_at text) ∙ sym (following-is (quoted_at text) text refl)

inside-none : (text : List ℕ) → ((k : ℕ) → k < length text → eqb (get_or text k 0) 34 ≡ false) → HasNoQuote text
inside-none [] none = record { content = refl; following = refl }
inside-none (b ∷ text) none =
    let other = none 0 (omega arith) in
    let more = inside-none text (λ k below. none (suc k) (omega arith)) in
    record { content = inside-other b text other ∙ ap (λ t. b ∷ t) more.content; following = following-other b text other ∙ more.following }

-- the byte after a quote decides whether it closes
HasQuote-other : (b : ℕ) (text prefix rest : List ℕ) → eqb b 34 ≡ false → HasQuote text prefix rest → HasQuote (b ∷ text) (b ∷ prefix) rest
HasQuote-other b text prefix rest other more = record {
  content = λ twice. inside-other b text other ∙ ap (λ t. b ∷ t) (more.content twice);
  following = λ twice. following-other b text other ∙ more.following twice;
  closed_content = λ once. inside-other b text other ∙ ap (λ t. b ∷ t) (more.closed_content once);
  closed_after = λ once. following-other b text other ∙ more.closed_after once;
  parts = omega (arith, more.parts);
}

quoted-twice : (b c : ℕ) (text : List ℕ) → eqb b 34 ≡ true → eqb c 34 ≡ true → quoted_at (b ∷ c ∷ text) ≡ with_byte 34 (quoted_at text)
quoted-twice b c text here twice = rw (here, twice) refl

open-twice : (b c : ℕ) (text : List ℕ) → eqb b 34 ≡ true → eqb c 34 ≡ true → open_text (b ∷ c ∷ text) ≡ 34 ∷ open_text text
open-twice b c text here twice = rw (here, twice) refl

quoted-once : (b c : ℕ) (text : List ℕ) → eqb b 34 ≡ true → eqb c 34 ≡ false → quoted_at (b ∷ c ∷ text) ≡ Some (record { content = []; following = c ∷ text })
quoted-once b c text here once = rw (here, once) refl

quoted-last : (b : ℕ) → eqb b 34 ≡ true → quoted_at (b ∷ []) ≡ Some (record { content = []; following = [] })
quoted-last b here = rw here refl

HasQuote-here : (b : ℕ) (text : List ℕ) → eqb b 34 ≡ true → HasQuote (b ∷ text) [] text
HasQuote-here b [] here = record {
  content = λ twice. absurd (true≢false (sym twice));
  following = λ twice. absurd (true≢false (sym twice));
  closed_content = λ once. ap (λ found. content_of found (open_text (b ∷ []))) (quoted-last b here);
  closed_after = λ once. following-is (Some (record { content = []; following = [] })) (b ∷ []) (quoted-last b here);
  parts = omega arith;
}
HasQuote-here b (c ∷ text) here = record {
  content = λ twice. ap (λ found. content_of found (open_text (b ∷ c ∷ text))) (quoted-twice b c text here twice)
      ∙ ap (content_of (with_byte 34 (quoted_at text))) (open-twice b c text here twice)
      ∙ content-byte 34 (quoted_at text) (open_text text);
  following = λ twice. following-is (with_byte 34 (quoted_at text)) (b ∷ c ∷ text) (quoted-twice b c text here twice)
      ∙ following-byte 34 (quoted_at text) ∙ sym (following-is (quoted_at text) text refl);
  closed_content = λ once. ap (λ found. content_of found (open_text (b ∷ c ∷ text))) (quoted-once b c text here once);
  closed_after = λ once. following-is (Some (record { content = []; following = c ∷ text })) (b ∷ c ∷ text) (quoted-once b c text here once);
  parts = omega arith;
}

HasQuote-at : (text : List ℕ) (place : ℕ) → place < length text → eqb (get_or text place 0) 34 ≡ true → ((k : ℕ) → k < place → eqb (get_or text k 0) 34 ≡ false)
    → HasQuote text (take place text) (drop (suc place) text)
HasQuote-at [] place below here before = absurd (omega arith)
HasQuote-at (b ∷ text) zero below here before = HasQuote-here b text here
HasQuote-at (b ∷ text) (suc place) below here before =
    HasQuote-other b text (take place text) (drop (suc place) text) (before 0 (omega arith))
    (HasQuote-at text place (omega arith) here (λ k less. before (suc k) (omega arith)))

-- the result of a search for a quote
pub HasNoQuote-from : (text : List ℕ) → IsFirstByte (is_byte 34) text None → HasNoQuote text
HasNoQuote-from text nowhere = inside-none text (λ k below. false_from_ne_true _ (nowhere k (omega arith) below))

pub HasQuote-from : (text : List ℕ) (place : ℕ) (rest : List ℕ) → IsFirstByte (is_byte 34) text (Some place) → rest ≡ drop (place + 1) text → HasQuote text (take place text) rest
HasQuote-from text place rest found is =
    let whole = HasQuote-at text place found.0.high found.1 (λ k less. false_from_ne_true _ (found.0.before k (omega arith) less)) in
    rw (is, add-one place) whole

-- text that is appended to an open quote in two steps
pub with_text-twice : (row : RowState) (prefix rest : List ℕ) → with_text (with_text row prefix) rest ≡ with_text row (prefix ++ rest)
with_text-twice row prefix rest = ap (λ t. record { values = row.values; quotes = Some t }) (append_assoc (in_quotes row) prefix rest)

pub quotes-more : (row row_1 row_2 : RowState) (left prefix rest more : List ℕ) → HasQuote left prefix rest → starts_quoted rest ≡ true
    → row_1 ≡ with_text row prefix → row_2 ≡ with_text row_1 (34 ∷ []) → more ≡ drop 1 rest → with_text row_2 (inside more) ≡ with_text row (inside left)
quotes-more row row_1 row_2 left prefix rest more cut twice first second left_is =
    ap (λ t. with_text row_2 (inside t)) left_is
    ∙ ap (λ r. with_text r (inside (drop 1 rest))) (second ∙ ap (λ r. with_text r (34 ∷ [])) first ∙ with_text-twice row prefix (34 ∷ []))
    ∙ with_text-twice row (prefix ++ 34 ∷ []) (inside (drop 1 rest))
    ∙ ap (with_text row) (sym (cut.content twice))
