-- A text that leaves a quote open: the text after it is read as if a quote preceded it.
use Rattle.std.proofs.Common.{◌≡◌, ℕ, zero, suc, ◌+◌, ◌<◌, ◌≤◌, Bool, true, false, cond, eqb, List, [], ◌∷◌, ◌++◌, length, take, drop, Option, Some, None, refl, ap, ap₂, sym, subst, ◌∙◌, append_assoc, arith, inl, inr, add-one}
use Rattle.std.specs.Option.{option_map}
use Rattle.std.proofs.lemmas.Bool.{cases_Bool}
use Rattle.std.proofs.lemmas.List.{take-append-le, drop-append-le}
use Rattle.std.proofs.lemmas.Bool.Decides.{nat_tests}
use Rattle.std.specs.Str.{bytes_eq}
use Rattle.mlr_spec.specs.Split.{place_in, begins_with}
use Rattle.mlr_spec.proofs.Splitting.{cases_Option, place_in-fits}
use Rattle.read_csv.specs.Csv.{First, Quoted, quoted_at, with_byte, before_next, after_next, first_plain, first_quoted, first_field, fields_from, csv_fields}
use Rattle.read_csv.specs.Fields.{Field}
use Rattle.read_csv.specs.OpenRow.{Reading, open_text, reading_from, csv_reading}
use Rattle.read_csv.proofs.Readings.{rest_of, rest-shorter, next-shorter, reading-is, reading_at, reading_after}

-- text that precedes the content of the quotes
abbrev pub after_text : List ℕ → Quoted → Quoted
after_text content q = record { content = content ++ q.content; following = q.following }

-- fields after those that are `done`, where the first continues the content of the open quote
abbrev pub joined : List Field → List ℕ → List Field → List Field
joined done content [] = done
joined done content (field ∷ fields) = done ++ record { quoted = true; text = content ++ field.text } ∷ fields

pub record Opens (separator text : List ℕ) (done : List Field) (content : List ℕ) : Type 0 where
  pub goes_on : (more : List ℕ) → csv_fields separator (text ++ more) ≡ option_map (joined done content) (csv_fields separator (34 ∷ more))

-- quoted text and more text
map-none : (found : Option Quoted) → option_map (after_text []) found ≡ found
map-none None = refl
map-none (Some q) = refl

map-byte : (b : ℕ) (content : List ℕ) (found : Option Quoted) → with_byte b (option_map (after_text content) found) ≡ option_map (after_text (b ∷ content)) found
map-byte b content None = refl
map-byte b content (Some q) = refl

pub quoted-other : (b : ℕ) (text : List ℕ) → eqb b 34 ≡ false → quoted_at (b ∷ text) ≡ with_byte b (quoted_at text)
quoted-other b [] other = rw other refl
quoted-other b (c ∷ text) other = rw other refl

quoted-twice : (b c : ℕ) (text : List ℕ) → eqb b 34 ≡ true → eqb c 34 ≡ true → quoted_at (b ∷ c ∷ text) ≡ with_byte 34 (quoted_at text)
quoted-twice b c text here twice = rw (here, twice) refl

quoted-once : (b c : ℕ) (text : List ℕ) → eqb b 34 ≡ true → eqb c 34 ≡ false → quoted_at (b ∷ c ∷ text) ≡ Some (record { content = []; following = c ∷ text })
quoted-once b c text here once = rw (here, once) refl

quoted-last : (b : ℕ) → eqb b 34 ≡ true → quoted_at (b ∷ []) ≡ Some (record { content = []; following = [] })
quoted-last b here = rw here refl

open-other : (b : ℕ) (text : List ℕ) → eqb b 34 ≡ false → open_text (b ∷ text) ≡ b ∷ open_text text
open-other b [] other = refl
open-other b (c ∷ text) other = rw other refl

open-twice : (b c : ℕ) (text : List ℕ) → eqb b 34 ≡ true → eqb c 34 ≡ true → open_text (b ∷ c ∷ text) ≡ 34 ∷ open_text text
open-twice b c text here twice = rw (here, twice) refl

byte-none : (b : ℕ) (found : Option Quoted) → with_byte b found ≡ None → found ≡ None
byte-none b None is = refl
byte-none b (Some q) is = absurd (cc)

pub quoted-open : (text more : List ℕ) → quoted_at text ≡ None → quoted_at (text ++ more) ≡ option_map (after_text (open_text text)) (quoted_at more)
quoted-open [] more none = sym (map-none (quoted_at more))
quoted-open (b ∷ []) more none =
    elim (cases_Bool (eqb b 34)) as (λ _. quoted_at (b ∷ more) ≡ option_map (after_text (b ∷ [])) (quoted_at more)) [
      | inl here ↦ absurd (let e : Some (record { content = []; following = [] }) ≡ None = sym (quoted-last b here) ∙ none in cc)
      | inr other ↦ quoted-other b more other ∙ ap (with_byte b) (sym (map-none (quoted_at more))) ∙ map-byte b [] (quoted_at more)
    ]
quoted-open (b ∷ c ∷ text) more none =
    elim (cases_Bool (eqb b 34)) as (λ _. quoted_at (b ∷ c ∷ text ++ more) ≡ option_map (after_text (open_text (b ∷ c ∷ text))) (quoted_at more)) [
      | inl here ↦
          elim (cases_Bool (eqb c 34)) as (λ _. quoted_at (b ∷ c ∷ text ++ more) ≡ option_map (after_text (open_text (b ∷ c ∷ text))) (quoted_at more)) [
            | inl twice ↦
                quoted-twice b c (text ++ more) here twice
                ∙ ap (with_byte 34) (quoted-open text more (byte-none 34 (quoted_at text) (sym (quoted-twice b c text here twice) ∙ none)))
                ∙ map-byte 34 (open_text text) (quoted_at more)
                ∙ ap (λ t. option_map (after_text t) (quoted_at more)) (sym (open-twice b c text here twice))
            | inr once ↦ absurd (let e : Some (record { content = []; following = c ∷ text }) ≡ None = sym (quoted-once b c text here once) ∙ none in cc)
          ]
      | inr other ↦
          quoted-other b (c ∷ text ++ more) other
          ∙ ap (with_byte b) (quoted-open (c ∷ text) more (byte-none b (quoted_at (c ∷ text)) (sym (quoted-other b (c ∷ text) other) ∙ none)))
          ∙ map-byte b (open_text (c ∷ text)) (quoted_at more)
          ∙ ap (λ t. option_map (after_text t) (quoted_at more)) (sym (open-other b (c ∷ text) other))
    ]

-- quotes that are closed remain closed when text follows
byte-some : (b : ℕ) (found : Option Quoted) (q : Quoted) → with_byte b found ≡ Some q → (p : Quoted) × (found ≡ Some p) × (Some q ≡ with_byte b (Some p))
byte-some b None q is = absurd (let e : None ≡ Some q = is in cc)
byte-some b (Some p) q is = (p, refl, sym is)

abbrev longer : List ℕ → Quoted → Quoted
longer more q = record { content = q.content; following = q.following ++ more }

longer-byte : (b : ℕ) (more : List ℕ) (found : Option Quoted) → with_byte b (option_map (longer more) found) ≡ option_map (longer more) (with_byte b found)
longer-byte b more None = refl
longer-byte b more (Some q) = refl

pub quoted-closed : (text more : List ℕ) (q : Quoted) → quoted_at text ≡ Some q → 0 < length q.following → quoted_at (text ++ more) ≡ option_map (longer more) (quoted_at text)
quoted-closed [] more q is some = absurd (let e : None ≡ Some q = is in cc)
quoted-closed (b ∷ []) more q is some =
    elim (cases_Bool (eqb b 34)) as (λ _. quoted_at (b ∷ more) ≡ option_map (longer more) (quoted_at (b ∷ []))) [
      | inl here ↦ let e : Some (record { content = []; following = [] }) ≡ Some q = sym (quoted-last b here) ∙ is in let same : [] ≡ q.following = cc in absurd (omega (arith, ap length same))
      | inr other ↦ absurd (let e : None ≡ Some q = sym (quoted-other b [] other) ∙ is in cc)
    ]
quoted-closed (b ∷ c ∷ text) more q is some =
    elim (cases_Bool (eqb b 34)) as (λ _. quoted_at (b ∷ c ∷ text ++ more) ≡ option_map (longer more) (quoted_at (b ∷ c ∷ text))) [
      | inl here ↦
          elim (cases_Bool (eqb c 34)) as (λ _. quoted_at (b ∷ c ∷ text ++ more) ≡ option_map (longer more) (quoted_at (b ∷ c ∷ text))) [
            | inl twice ↦
                let p = byte-some 34 (quoted_at text) q (sym (quoted-twice b c text here twice) ∙ is) in
                let same : q.following ≡ p.0.following = (let e : Some q ≡ Some (record { content = 34 ∷ p.0.content; following = p.0.following }) = p.2 in cc) in
                quoted-twice b c (text ++ more) here twice
                ∙ ap (with_byte 34) (quoted-closed text more p.0 p.1 (omega (arith, ap length same)))
                ∙ longer-byte 34 more (quoted_at text)
                ∙ ap (option_map (longer more)) (sym (quoted-twice b c text here twice))
            | inr once ↦ quoted-once b c (text ++ more) here once ∙ ap (option_map (longer more)) (sym (quoted-once b c text here once))
          ]
      | inr other ↦
          let p = byte-some b (quoted_at (c ∷ text)) q (sym (quoted-other b (c ∷ text) other) ∙ is) in
          let same : q.following ≡ p.0.following = (let e : Some q ≡ Some (record { content = b ∷ p.0.content; following = p.0.following }) = p.2 in cc) in
          quoted-other b (c ∷ text ++ more) other
          ∙ ap (with_byte b) (quoted-closed (c ∷ text) more p.0 p.1 (omega (arith, ap length same)))
          ∙ longer-byte b more (quoted_at (c ∷ text))
          ∙ ap (option_map (longer more)) (sym (quoted-other b (c ∷ text) other))
    ]

-- a separator remains the first one when text follows
begins-more : (separator text more : List ℕ) → length separator ≤ length text → begins_with separator (text ++ more) ≡ begins_with separator text
begins-more separator text more fits = ap (λ t. bytes_eq t separator) (take-append-le (length separator) text more fits)

place-more : (separator text more : List ℕ) (place : ℕ) → place_in separator text ≡ Some place → place_in separator (text ++ more) ≡ Some place
place-more separator [] more place found = absurd (let e : None ≡ Some place = found in cc)
place-more separator (b ∷ text) more place found =
    let fits = place_in-fits separator (b ∷ text) place found in
    let at = λ (t : Bool) (later : Option ℕ). cond t (Some 0) (option_map (λ place. place + 1) later) in
    let test = begins-more separator (b ∷ text) more (omega arith) in
    elim (cases_Bool (begins_with separator (b ∷ text))) as (λ _. place_in separator (b ∷ text ++ more) ≡ Some place) [
      | inl here ↦ ap (λ t. at t (place_in separator (text ++ more))) (test ∙ here) ∙ sym (ap (λ t. at t (place_in separator text)) here) ∙ found
      | inr other ↦
          let later : option_map (λ place. place + 1) (place_in separator text) ≡ Some place = sym (ap (λ t. at t (place_in separator text)) other) ∙ found in
          elim (cases_Option (place_in separator text)) as (λ _. place_in separator (b ∷ text ++ more) ≡ Some place) [
            | inl none ↦ absurd (let e : None ≡ Some place = sym (ap (option_map (λ place. place + 1)) none) ∙ later in cc)
            | inr some ↦
                ap (λ t. at t (place_in separator (text ++ more))) (test ∙ other)
                ∙ ap (option_map (λ place. place + 1)) (place-more separator text more some.0 some.1)
                ∙ sym (ap (option_map (λ place. place + 1)) some.1) ∙ later
          ]
    ]

abbrev next_at : List ℕ → List ℕ → Option ℕ → Option (List ℕ)
next_at separator text found = elim found [ Some place ↦ Some (drop (place + length separator) text) | None ↦ None ]

abbrev before_at : List ℕ → Option ℕ → List ℕ
before_at text found = elim found [ Some place ↦ take place text | None ↦ text ]

-- the parts before and after the first separator, when text follows
pub next-more : (separator text more rest : List ℕ) → after_next separator text ≡ Some rest
    → (before_next separator (text ++ more) ≡ before_next separator text) × (after_next separator (text ++ more) ≡ Some (rest ++ more))
next-more separator text more rest is =
    elim (cases_Option (place_in separator text)) as (λ _. (before_next separator (text ++ more) ≡ before_next separator text) × (after_next separator (text ++ more) ≡ Some (rest ++ more))) [
      | inl none ↦ absurd (let e : None ≡ Some rest = sym (ap (next_at separator text) none) ∙ is in cc)
      | inr found ↦
          let place = found.0 in
          let fits = place_in-fits separator text place found.1 in
          let later = place-more separator text more place found.1 in
          let e : Some (drop (place + length separator) text) ≡ Some rest = sym (ap (next_at separator text) found.1) ∙ is in
          let same : drop (place + length separator) text ≡ rest = cc in (
            ap (before_at (text ++ more)) later ∙ take-append-le place text more (omega arith) ∙ sym (ap (before_at text) found.1),
            ap (next_at separator (text ++ more)) later ∙ ap Some (drop-append-le (place + length separator) text more (omega arith) ∙ ap (λ t. t ++ more) same),
          )
    ]

abbrev firstly : List ℕ → First → First
firstly rest first = record { field = first.field; following = Some rest }

-- the first field is the same when text follows its separator
quoted-first-more : (separator text more rest : List ℕ) (first : First) (found : Option Quoted) → 0 < length separator → quoted_at text ≡ found → first_quoted separator found ≡ Some first → first.following ≡ Some rest
    → first_quoted separator (quoted_at (text ++ more)) ≡ Some (firstly (rest ++ more) first)
quoted-first-more separator text more rest first None some found is following = absurd (let e : None ≡ Some first = is in cc)
quoted-first-more separator text more rest first (Some q) some found is following =
    let made : First = record { field = record { quoted = true; text = q.content ++ before_next separator q.following }; following = after_next separator q.following } in
    let e : Some made ≡ Some first = is in
    let same : made ≡ first = cc in
    let next : after_next separator q.following ≡ Some rest = ap (λ (f : First). f.following) same ∙ following in
    let cut = next-more separator q.following more rest next in
    let some_after : 0 < length q.following = omega (arith, next-shorter separator q.following rest some next) in
    ap (first_quoted separator) (quoted-closed text more q found some_after ∙ ap (option_map (longer more)) found)
    ∙ ap₂ (λ before following. Some (record { field = record { quoted = true; text = q.content ++ before }; following = following })) cut.0 cut.1
    ∙ ap (λ (f : First). Some (firstly (rest ++ more) f)) same

first-more : (separator text more rest : List ℕ) (first : First) → 0 < length separator → first_field separator text ≡ Some first → first.following ≡ Some rest
    → first_field separator (text ++ more) ≡ Some (firstly (rest ++ more) first)
first-more separator [] more rest first some is following =
    let made : First = record { field = record { quoted = false; text = [] }; following = None } in
    let e : Some made ≡ Some first = is in
    let same : made ≡ first = cc in
    absurd (let f : None ≡ Some rest = ap (λ (f : First). f.following) same ∙ following in cc)
first-more separator (b ∷ text) more rest first some is following =
    let at = λ (t : Bool) (quoted plain : Option First). cond t quoted plain in
    elim (cases_Bool (eqb b 34)) as (λ _. first_field separator (b ∷ text ++ more) ≡ Some (firstly (rest ++ more) first)) [
      | inl here ↦
          let e : first_quoted separator (quoted_at text) ≡ Some first = sym (ap (λ t. at t (first_quoted separator (quoted_at text)) (first_plain separator (b ∷ text))) here) ∙ is in
          ap (λ t. at t (first_quoted separator (quoted_at (text ++ more))) (first_plain separator (b ∷ text ++ more))) here
          ∙ quoted-first-more separator text more rest first (quoted_at text) some refl e following
      | inr other ↦
          let made : First = record { field = record { quoted = false; text = before_next separator (b ∷ text) }; following = after_next separator (b ∷ text) } in
          let e : Some made ≡ Some first = sym (ap (λ t. at t (first_quoted separator (quoted_at text)) (first_plain separator (b ∷ text))) other) ∙ is in
          let same : made ≡ first = cc in
          let cut = next-more separator (b ∷ text) more rest (ap (λ (f : First). f.following) same ∙ following) in
          ap (λ t. at t (first_quoted separator (quoted_at (text ++ more))) (first_plain separator (b ∷ text ++ more))) other
          ∙ ap₂ (λ before following. Some (record { field = record { quoted = false; text = before }; following = following })) cut.0 cut.1
          ∙ ap (λ (f : First). Some (firstly (rest ++ more) f)) same
    ]

-- the fields of a text: its first field and those of the rest
abbrev fields_after : Field → (List ℕ → Option (List Field)) → Option (List ℕ) → Option (List Field)
fields_after field more following = elim following [ None ↦ Some (field ∷ []) | Some rest ↦ option_map (λ fields. field ∷ fields) (more rest) ]

abbrev fields_at : (List ℕ → Option (List Field)) → Option First → Option (List Field)
fields_at more found = elim found [ None ↦ None | Some first ↦ fields_after first.field more first.following ]

fields_at-same : (more more_2 : List ℕ → Option (List Field)) (found : Option First) → ((rest : List ℕ) → rest_of found ≡ Some rest → more rest ≡ more_2 rest)
    → fields_at more found ≡ fields_at more_2 found
fields_at-same more more_2 None same = refl
fields_at-same more more_2 (Some first) same =
    elim (cases_Option first.following) as (λ _. fields_at more (Some first) ≡ fields_at more_2 (Some first)) [
      | inl none ↦ ap (fields_after first.field more) none ∙ sym (ap (fields_after first.field more_2) none)
      | inr some ↦ ap (fields_after first.field more) some.1 ∙ ap (option_map (λ fields. first.field ∷ fields)) (same some.0 some.1) ∙ sym (ap (fields_after first.field more_2) some.1)
    ]

fields-steps : (separator : List ℕ) (n m : ℕ) (text : List ℕ) → 0 < length separator → length text < n → length text < m → fields_from n separator text ≡ fields_from m separator text
fields-steps separator zero m text some enough enough_2 = absurd (omega arith)
fields-steps separator (suc n) zero text some enough enough_2 = absurd (omega arith)
fields-steps separator (suc n) (suc m) text some enough enough_2 =
    fields_at-same (fields_from n separator) (fields_from m separator) (first_field separator text)
    (λ rest is. let shorter = rest-shorter separator text rest some is in fields-steps separator n m rest some (omega arith) (omega arith))

pub csv-is : (separator text : List ℕ) → 0 < length separator → csv_fields separator text ≡ fields_at (csv_fields separator) (first_field separator text)
csv-is separator text some =
    ap (λ n. fields_from n separator text) (add-one (length text))
    ∙ fields_at-same (fields_from (length text) separator) (csv_fields separator) (first_field separator text)
    (λ rest is. let shorter = rest-shorter separator text rest some is in fields-steps separator (length text) (length rest + 1) rest some (omega arith) (omega arith))

-- the fields of a reading; None if a quote is open
abbrev pub fields_read : Reading → Option (List Field)
fields_read more = elim more.left_open [ None ↦ Some more.fields | Some content ↦ None ]

read-following : (field : Field) (more : Reading) → option_map (λ fields. field ∷ fields) (fields_read more) ≡ fields_read (record { fields = field ∷ more.fields; left_open = more.left_open })
read-following field more =
    elim (cases_Option more.left_open) as (λ _. option_map (λ fields. field ∷ fields) (fields_read more) ≡ fields_read (record { fields = field ∷ more.fields; left_open = more.left_open })) [
      | inl none ↦ rw none refl
      | inr some ↦ rw some.1 refl
    ]

fields-read-first : (following : Option (List ℕ)) (field : Field) (more : List ℕ → Option (List Field)) (more_2 : List ℕ → Reading) → ((rest : List ℕ) → more rest ≡ fields_read (more_2 rest))
    → fields_after field more following ≡ fields_read (reading_after field more_2 following)
fields-read-first None field more more_2 same = refl
fields-read-first (Some rest) field more more_2 same = ap (option_map (λ fields. field ∷ fields)) (same rest) ∙ read-following field (more_2 rest)

fields-read : (n : ℕ) (separator text : List ℕ) → fields_from n separator text ≡ fields_read (reading_from n separator text)
fields-read zero separator text = refl
fields-read (suc n) separator text =
    elim (cases_Option (first_field separator text)) as (λ _. fields_from (suc n) separator text ≡ fields_read (reading_from (suc n) separator text)) [
      | inl none ↦ ap (fields_at (fields_from n separator)) none ∙ sym (ap (λ f. fields_read (reading_at (reading_from n separator) text f)) none)
      | inr some ↦
          let first = some.0 in
          ap (fields_at (fields_from n separator)) some.1
          ∙ fields-read-first first.following first.field (fields_from n separator) (reading_from n separator) (λ rest. fields-read n separator rest)
          ∙ sym (ap (λ f. fields_read (reading_at (reading_from n separator) text f)) some.1)
    ]

pub csv-read : (separator text : List ℕ) → csv_fields separator text ≡ fields_read (csv_reading separator text)
csv-read separator text = fields-read (length text + 1) separator text

-- quoted text that precedes the first field
joined-more : (content text : List ℕ) (found : Option (List Field))
    → option_map (λ fields. record { quoted = true; text = content ++ text } ∷ fields) found ≡ option_map (joined [] content) (option_map (λ fields. record { quoted = true; text = text } ∷ fields) found)
joined-more content text None = refl
joined-more content text (Some fields) = refl

joined-following : (content text : List ℕ) (more : List ℕ → Option (List Field)) (following : Option (List ℕ))
    → fields_after (record { quoted = true; text = content ++ text }) more following ≡ option_map (joined [] content) (fields_after (record { quoted = true; text = text }) more following)
joined-following content text more None = refl
joined-following content text more (Some rest) = joined-more content text (more rest)

joined-first : (separator content : List ℕ) (more : List ℕ → Option (List Field)) (found : Option Quoted)
    → fields_at more (first_quoted separator (option_map (after_text content) found)) ≡ option_map (joined [] content) (fields_at more (first_quoted separator found))
joined-first separator content more None = refl
joined-first separator content more (Some q) =
    ap (λ t. fields_after (record { quoted = true; text = t }) more (after_next separator q.following)) (append_assoc content q.content (before_next separator q.following))
    ∙ joined-following content (q.content ++ before_next separator q.following) more (after_next separator q.following)

-- one more field that is done
joined-cons : (field : Field) (done : List Field) (content : List ℕ) (found : Option (List Field))
    → option_map (λ fields. field ∷ fields) (option_map (joined done content) found) ≡ option_map (joined (field ∷ done) content) found
joined-cons field done content None = refl
joined-cons field done content (Some []) = refl
joined-cons field done content (Some (f ∷ fields)) = refl

-- if the first field isn't closed, the text after its quote has no closing quote
first_quoted-none : (separator : List ℕ) (found : Option Quoted) → first_quoted separator found ≡ None → found ≡ None
first_quoted-none separator None is = refl
first_quoted-none separator (Some q) is = absurd (cc)

first-none : (separator text : List ℕ) → first_field separator text ≡ None → (rest : List ℕ) × (text ≡ 34 ∷ rest) × (quoted_at rest ≡ None)
first-none separator [] is = absurd (cc)
first-none separator (b ∷ text) is =
    let at = λ (t : Bool) (quoted plain : Option First). cond t quoted plain in
    elim (cases_Bool (eqb b 34)) as (λ _. (rest : List ℕ) × (b ∷ text ≡ 34 ∷ rest) × (quoted_at rest ≡ None)) [
      | inl here ↦
          let same : b ≡ 34 = grind (arith, nat_tests) in
          (text, ap (λ c. c ∷ text) same, first_quoted-none separator (quoted_at text) (sym (ap (λ t. at t (first_quoted separator (quoted_at text)) (first_plain separator (b ∷ text))) here) ∙ is))
      | inr other ↦ absurd (let e : first_plain separator (b ∷ text) ≡ None = sym (ap (λ t. at t (first_quoted separator (quoted_at text)) (first_plain separator (b ∷ text))) other) ∙ is in cc)
    ]

joined-twice : (done : List Field) (content end : List ℕ) (found : Option (List Field)) → option_map (joined done content) (option_map (joined [] end) found) ≡ option_map (joined done (content ++ end)) found
joined-twice done content end None = refl
joined-twice done content end (Some []) = refl
joined-twice done content end (Some (f ∷ fields)) = ap (λ t. Some (done ++ record { quoted = true; text = t } ∷ fields)) (sym (append_assoc content end f.text))

-- the text within the open quote, after a reading that continues it
abbrev pub grown : List ℕ → List Field → List ℕ → List ℕ
grown content [] more = content ++ more
grown content (field ∷ fields) more = more

joined-joined : (done : List Field) (content : List ℕ) (more : List Field) (more_content : List ℕ) (found : Option (List Field))
    → option_map (joined done content) (option_map (joined more more_content) found) ≡ option_map (joined (joined done content more) (grown content more more_content)) found
joined-joined done content more more_content None = refl
joined-joined done content [] more_content (Some []) = refl
joined-joined done content (g ∷ more) more_content (Some []) = refl
joined-joined done content [] more_content (Some (f ∷ fields)) = ap (λ t. Some (done ++ record { quoted = true; text = t } ∷ fields)) (sym (append_assoc content more_content f.text))
joined-joined done content (g ∷ more) more_content (Some (f ∷ fields)) =
    ap Some (sym (append_assoc done (record { quoted = true; text = content ++ g.text } ∷ more) (record { quoted = true; text = more_content ++ f.text } ∷ fields)))

-- text that is read after an open quote
module _ (separator : List ℕ) (some : 0 < length separator) where
  quotes-go_on : (content text more : List ℕ) → quoted_at (text ++ more) ≡ option_map (after_text content) (quoted_at more)
      → csv_fields separator (34 ∷ text ++ more) ≡ option_map (joined [] content) (csv_fields separator (34 ∷ more))
  quotes-go_on content text more is =
      csv-is separator (34 ∷ text ++ more) some ∙ ap (λ found. fields_at (csv_fields separator) (first_quoted separator found)) is
      ∙ joined-first separator content (csv_fields separator) (quoted_at more)
      ∙ ap (option_map (joined [] content)) (sym (csv-is separator (34 ∷ more) some))

  opens-none : (text content : List ℕ) → first_field separator text ≡ None → Some (open_text (drop 1 text)) ≡ Some content → Opens separator text [] content
  opens-none text content is left =
      let quoted = first-none separator text is in
      let rest = quoted.0 in
      let same : open_text rest ≡ content = (let e : open_text (drop 1 text) ≡ content = cc in ap (λ t. open_text (drop 1 t)) (sym quoted.1) ∙ e) in
      record {
        goes_on = λ more. ap (λ t. csv_fields separator (t ++ more)) quoted.1
            ∙ quotes-go_on (open_text rest) rest more (quoted-open rest more quoted.2)
            ∙ ap (λ c. option_map (joined [] c) (csv_fields separator (34 ∷ more))) same;
      }

  opens-some : (text rest content : List ℕ) (first : First) → first_field separator text ≡ Some first → first.following ≡ Some rest → Opens separator rest (csv_reading separator rest).fields content
      → Opens separator text (first.field ∷ (csv_reading separator rest).fields) content
  opens-some text rest content first is following more_is = record {
    goes_on = λ more. csv-is separator (text ++ more) some
        ∙ ap (fields_at (csv_fields separator)) (first-more separator text more rest first some is following)
        ∙ ap (option_map (λ fields. first.field ∷ fields)) (more_is.goes_on more)
        ∙ joined-cons first.field (csv_reading separator rest).fields content (csv_fields separator (34 ∷ more));
  }

  opens-following : (text content : List ℕ) (first : First) (following : Option (List ℕ)) → first_field separator text ≡ Some first → first.following ≡ following
      → (reading_after first.field (csv_reading separator) following).left_open ≡ Some content
      → ((rest : List ℕ) → rest_of (first_field separator text) ≡ Some rest → (csv_reading separator rest).left_open ≡ Some content → Opens separator rest (csv_reading separator rest).fields content)
      → Opens separator text (reading_after first.field (csv_reading separator) following).fields content
  opens-following text content first None is following left more = absurd (let e : None ≡ Some content = left in cc)
  opens-following text content first (Some rest) is following left more = opens-some text rest content first is following (more rest (ap rest_of is ∙ following) left)

  opens-at : (text : List ℕ) (found : Option First) (content : List ℕ) → first_field separator text ≡ found → (reading_at (csv_reading separator) text found).left_open ≡ Some content
      → ((rest : List ℕ) → rest_of (first_field separator text) ≡ Some rest → (csv_reading separator rest).left_open ≡ Some content → Opens separator rest (csv_reading separator rest).fields content)
      → Opens separator text (reading_at (csv_reading separator) text found).fields content
  opens-at text None content is left more = opens-none text content is left
  opens-at text (Some first) content is left more = opens-following text content first first.following is refl left more

  pub opens : (n : ℕ) (text : List ℕ) → length text < n → (content : List ℕ) → (csv_reading separator text).left_open ≡ Some content
      → Opens separator text (csv_reading separator text).fields content
  opens zero text less content is = absurd (omega arith)
  opens (suc n) text less content is =
      let reading = reading-is separator text some in
      let left : (reading_at (csv_reading separator) text (first_field separator text)).left_open ≡ Some content = sym (ap (λ (r : Reading). r.left_open) reading) ∙ is in
      subst (λ done. Opens separator text done content) (sym (ap (λ (r : Reading). r.fields) reading)) (opens-at text (first_field separator text) content refl left
      (λ rest here left. opens n rest (omega (arith, rest-shorter separator text rest some here)) content left))

  -- text without quotes continues an open quote
  pub opens-text : (text : List ℕ) (done : List Field) (content end : List ℕ) → Opens separator text done content → ((more : List ℕ) → quoted_at (end ++ more) ≡ option_map (after_text end) (quoted_at more))
      → Opens separator (text ++ end) done (content ++ end)
  opens-text text done content end open_row plain = record {
    goes_on = λ more. ap (csv_fields separator) (append_assoc text end more) ∙ open_row.goes_on (end ++ more)
        ∙ ap (option_map (joined done content)) (quotes-go_on end end more (plain more))
        ∙ joined-twice done content end (csv_fields separator (34 ∷ more));
  }

  -- a row with an open quote, and a further line that leaves a quote open
  pub opens-more : (text more_text : List ℕ) (done : List Field) (content : List ℕ) (more_done : List Field) (more_content : List ℕ) → Opens separator text done content → Opens separator (34 ∷ more_text) more_done more_content
      → Opens separator (text ++ more_text) (joined done content more_done) (grown content more_done more_content)
  opens-more text more_text done content more_done more_content open_row more_row = record {
    goes_on = λ more. ap (csv_fields separator) (append_assoc text more_text more) ∙ open_row.goes_on (more_text ++ more)
        ∙ ap (option_map (joined done content)) (more_row.goes_on more)
        ∙ joined-joined done content more_done more_content (csv_fields separator (34 ∷ more));
  }
