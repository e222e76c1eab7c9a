-- CSV: the fields of a row, by RFC 4180.
use Rattle.std.specs.Prelude.{ℕ, zero, suc, ◌+◌, if◌then◌else◌, true, false, ◌&&◌, ◌==◌, List, [], ◌∷◌, ◌++◌, length, take, drop, Option, Some, None}
use Rattle.std.specs.Option.{option_map}
use Rattle.mlr_spec.specs.Ascii.{quote_mark}
use Rattle.mlr_spec.specs.Split.{place_in}
use Rattle.read_csv.specs.Fields.{Field}

-- the text after an opening quote: `content` is up to the closing quote, where two quotes are one, and
-- `following` is the text after the closing quote. None if no quote closes it.
pub record Quoted : Type 0 where
  pub content : List ℕ
  pub following : List ℕ

abbrev pub with_byte : ℕ → Option Quoted → Option Quoted
with_byte b found = option_map (λ q. record { content = b ∷ q.content; following = q.following }) found

abbrev pub quoted_at : List ℕ → Option Quoted
quoted_at [] = None
quoted_at (b ∷ []) = if b == quote_mark then Some (record { content = []; following = [] }) else None
quoted_at (b ∷ c ∷ text) =
    if b == quote_mark && c == quote_mark then with_byte quote_mark (quoted_at text) else (
    if b == quote_mark then Some (record { content = []; following = c ∷ text }) else with_byte b (quoted_at (c ∷ text)))

-- the text before the first separator, and the text after it if there is one
abbrev pub before_next : List ℕ → List ℕ → List ℕ
before_next separator text = elim (place_in separator text) [ Some place ↦ take place text | None ↦ text ]

abbrev pub after_next : List ℕ → List ℕ → Option (List ℕ)
after_next separator text = elim (place_in separator text) [ Some place ↦ Some (drop (place + length separator) text) | None ↦ None ]

-- the first field of a text, and the text after its separator if there is one; None if the field's quote
-- isn't closed
pub record First : Type 0 where
  pub field : Field
  pub following : Option (List ℕ)

abbrev pub first_plain : List ℕ → List ℕ → Option First
first_plain separator text = Some (record { field = record { quoted = false; text = before_next separator text }; following = after_next separator text })

-- text between the closing quote and the next separator is appended to the field as it is
abbrev pub first_quoted : List ℕ → Option Quoted → Option First
first_quoted separator found = option_map (λ q. record {
  field = record { quoted = true; text = q.content ++ before_next separator q.following };
  following = after_next separator q.following;
}) found

-- a field is quoted if it begins with a quote
abbrev pub first_field : List ℕ → List ℕ → Option First
first_field separator [] = first_plain separator []
first_field separator (b ∷ text) = if b == quote_mark then first_quoted separator (quoted_at text) else first_plain separator (b ∷ text)

-- the fields of a row, in at most n steps; None if a quote isn't closed
abbrev pub fields_from : ℕ → List ℕ → List ℕ → Option (List Field)
fields_from zero separator text = None
fields_from (suc n) separator text = elim (first_field separator text) [
  | None ↦ None
  | Some first ↦ elim first.following [
    | None ↦ Some (first.field ∷ [])
    | Some rest ↦ option_map (λ fields. first.field ∷ fields) (fields_from n separator rest)
  ]
]

-- the fields of a row; None if a quote isn't closed
abbrev pub csv_fields : List ℕ → List ℕ → Option (List Field)
csv_fields separator text = fields_from (length text + 1) separator text
