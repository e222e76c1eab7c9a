-- A JSON text as tokens, after RFC 8259: six marks, strings, and words, with blanks between them. Places of bytes count from 1.
use Rattle.std.specs.Prelude.{ℕ, zero, suc, ◌+◌, ◌==◌, nat_lt, nat_le, Bool, true, false, not, ◌&&◌, ◌||◌, if◌then◌else◌, List, [], ◌∷◌, ◌++◌, length, take, drop, Option, Some, None, codes}
use Rattle.std.specs.List.{prefix_len, take_while}
use Rattle.std.specs.Str.{bytes_eq}
use Rattle.std.specs.Char.{encode_utf8}
use Rattle.std.specs.Char.Utf16.{is_high_surrogate, is_low_surrogate, surrogate_pair_char, lone_unit_char}
use Rattle.std.specs.Option.{unwrap_or}
use Rattle.mlr_spec.specs.Ascii.{backspace, tab, line_feed, form_feed, carriage_return, space, quote_mark, plus_sign, comma, minus_sign, dot, slash, digit_zero, digit_nine, colon, letter_upper_a, letter_upper_z, left_bracket, backslash, right_bracket, underscore, letter_a, letter_b, letter_f, letter_n, letter_r, letter_t, letter_u, letter_z, left_brace, right_brace}
use Rattle.mlr_spec.specs.declared.infer.InferOpts.{InferOpts}
use Rattle.mlr_spec.specs.declared.infer.Kind.{Kind}
use Rattle.mlr_spec.specs.declared.infer.Kind.TheVariants.{Empty, Str, Int, Frac, Wide}
use Rattle.mlr_spec.specs.declared.json.JsonMark.{JsonMark}
use Rattle.mlr_spec.specs.declared.json.JsonMark.TheVariants.{BeginMap, EndMap, BeginArray, EndArray, Colon, Comma}
use Rattle.mlr_spec.specs.Infer.{digit, number, kind_of}
use Rattle.mlr_spec.specs.Tree.{Tree, empty, string, int, fraction, wide, boolean}

-- space, tab, line feed and carriage return
abbrev pub is_blank : ℕ → Bool
is_blank b = b == space || b == tab || b == line_feed || b == carriage_return

-- the marks `{`, `}`, `[`, `]`, `:` and `,`
abbrev pub mark_of : ℕ → Option JsonMark
mark_of b =
    if b == left_brace then Some BeginMap else (
    if b == right_brace then Some EndMap else (
    if b == left_bracket then Some BeginArray else (
    if b == right_bracket then Some EndArray else (
    if b == colon then Some Colon else (
    if b == comma then Some Comma else None)))))

-- the bytes of words: letters, digits, `+`, `-`, `.` and `_`
abbrev pub is_word_byte : ℕ → Bool
is_word_byte b =
    nat_le letter_a b && nat_le b letter_z || nat_le letter_upper_a b && nat_le b letter_upper_z || nat_le digit_zero b && nat_le b digit_nine
    || b == plus_sign || b == minus_sign || b == dot || b == underscore

-- what a text is read as, byte by byte: a piece of a string is bytes that it holds, or a code unit of UTF-16 that an escape names
pub data Piece : Type 0 where
  raw : List ℕ → Piece
  unit : ℕ → Piece

pub data Lexeme : Type 0 where
  blank : Lexeme
  mark : JsonMark → Lexeme
  word : List ℕ → Lexeme
  quote : Lexeme
  piece : Piece → Lexeme

-- the start of a text: a lexeme of so many bytes, one that isn't complete, or a byte that isn't allowed there
pub data Scanned : Type 0 where
  found : Lexeme → ℕ → Scanned
  begun : Scanned
  bad : ℕ → Scanned

-- between strings
abbrev pub lexeme_unmarked : List ℕ → Scanned
lexeme_unmarked [] = begun
lexeme_unmarked (b ∷ text) =
    if is_blank b then found blank (prefix_len is_blank (b ∷ text)) else (
    if b == quote_mark then found quote 1 else (
    if is_word_byte b then found (word (take_while is_word_byte (b ∷ text))) (prefix_len is_word_byte (b ∷ text)) else bad 0))

unfoldable pub lexeme_outside : List ℕ → Scanned
lexeme_outside [] = begun
lexeme_outside (b ∷ text) = elim (mark_of b) [ Some m ↦ found (mark m) 1 | None ↦ lexeme_unmarked (b ∷ text) ]

-- the byte that an escape letter represents; 0 for a letter that represents none
abbrev pub escape_of : ℕ → ℕ
escape_of c =
    if c == quote_mark || c == backslash || c == slash then c else (
    if c == letter_b then backspace else (
    if c == letter_f then form_feed else (
    if c == letter_n then line_feed else (
    if c == letter_r then carriage_return else (
    if c == letter_t then tab else 0)))))

abbrev pub is_hex : ℕ → Bool
is_hex b = nat_lt (digit b) 16

-- four hexadecimal digits after `\u`, which a text may cut short
abbrev pub lexeme_of_unit : List ℕ → Scanned
lexeme_of_unit text =
    if nat_le 4 (prefix_len is_hex text) then found (piece (unit (number 16 (take 4 text)))) 6 else (
    if prefix_len is_hex text == length text then begun else bad (2 + prefix_len is_hex text))

-- what follows a backslash
abbrev pub lexeme_of_escape : List ℕ → Scanned
lexeme_of_escape [] = begun
lexeme_of_escape (c ∷ text) =
    if c == letter_u then lexeme_of_unit text else (
    if nat_lt 0 (escape_of c) then found (piece (raw (escape_of c ∷ []))) 2 else bad 1)

-- a byte that a string contains as it is
abbrev pub is_raw : ℕ → Bool
is_raw b = not (b == quote_mark || b == backslash)

-- within a string
unfoldable pub lexeme_inside : List ℕ → Scanned
lexeme_inside [] = begun
lexeme_inside (b ∷ text) =
    if b == quote_mark then found quote 1 else (
    if b == backslash then lexeme_of_escape text else found (piece (raw (take_while is_raw (b ∷ text)))) (prefix_len is_raw (b ∷ text)))

abbrev pub first_lexeme : Bool → List ℕ → Scanned
first_lexeme inside text = if inside then lexeme_inside text else lexeme_outside text

-- the lexemes of a text, each with the place of its first byte, and the place at which no lexeme follows or
-- the text is cut off within a string
pub record Lexemes : Type 0 where
  pub lexemes : List (ℕ × Lexeme)
  pub stop : Option ℕ

abbrev pub and_lexeme : ℕ → Lexeme → Lexemes → Lexemes
and_lexeme place lexeme more = record { lexemes = (place, lexeme) ∷ more.lexemes; stop = more.stop }

-- a quote begins a string or ends it
abbrev pub is_inside : Bool → Lexeme → Bool
is_inside inside quote = not inside
is_inside inside blank = inside
is_inside inside (mark m) = inside
is_inside inside (word text) = inside
is_inside inside (piece p) = inside

-- one lexeme after another, in at most n steps
abbrev pub lexemes_from : ℕ → Bool → ℕ → List ℕ → Lexemes
lexemes_from zero inside place text = record { lexemes = []; stop = None }
lexemes_from (suc n) inside place text = elim (first_lexeme inside text) [
  | found lexeme len ↦ and_lexeme place lexeme (lexemes_from n (is_inside inside lexeme) (place + len) (drop len text))
  | begun ↦ record { lexemes = []; stop = if inside then Some (place + length text) else None }
  | bad offset ↦ record { lexemes = []; stop = Some (place + offset) }
]

abbrev pub lexemes_of : List ℕ → Lexemes
lexemes_of text = lexemes_from (length text + 1) false 1 text

-- the character of a code unit that is in no pair, in UTF-8; that of a surrogate is U+FFFD
abbrev pub lone_unit : ℕ → List ℕ
lone_unit u = encode_utf8 (unwrap_or (lone_unit_char u) 0xFFFD)

-- the text of a string: two code units that follow one another may be a pair
abbrev pub decoded : List Piece → List ℕ
decoded [] = []
decoded (raw text ∷ pieces) = text ++ decoded pieces
decoded (unit u ∷ []) = lone_unit u
decoded (unit u ∷ raw text ∷ pieces) = lone_unit u ++ text ++ decoded pieces
decoded (unit u ∷ unit v ∷ pieces) =
    if is_high_surrogate u && is_low_surrogate v then encode_utf8 (surrogate_pair_char u v) ++ decoded pieces
    else lone_unit u ++ decoded (unit v ∷ pieces)

-- the value of a word: true, false and null, or a number in its spelling, which is a string where nothing is inferred
abbrev pub number_of_kind : Kind → Bool → List ℕ → Option Tree
number_of_kind Empty as_string text = None
number_of_kind Str as_string text = None
number_of_kind (Int n) as_string text = Some (if as_string then string text else int n text)
number_of_kind Frac as_string text = Some (if as_string then string text else fraction text)
number_of_kind Wide as_string text = Some (if as_string then string text else wide text)

abbrev pub word_value : InferOpts → List ℕ → Option Tree
word_value opts text =
    if bytes_eq text (codes "true") then Some (boolean true) else (
    if bytes_eq text (codes "false") then Some (boolean false) else (
    if bytes_eq text (codes "null") then Some empty else
    number_of_kind (kind_of (record { none = false; octal = opts.octal }) text) opts.none text))

-- a token: a mark, a string's text, or a word's value
pub data Token : Type 0 where
  sign : JsonMark → Token
  text_token : List ℕ → Token
  word_token : Tree → Token

-- the tokens of a text, each with the place of its first byte, and the place at which no token follows
pub record Tokens : Type 0 where
  pub tokens : List (ℕ × Token)
  pub stop : Option ℕ

abbrev pub and_token : ℕ → Token → Tokens → Tokens
and_token place token more = record { tokens = (place, token) ∷ more.tokens; stop = more.stop }

abbrev pub or_stop : ℕ → Option Token → Tokens → Tokens
or_stop place None more = record { tokens = []; stop = Some place }
or_stop place (Some token) more = and_token place token more

abbrev pub token_of_word : InferOpts → List ℕ → Option Token
token_of_word opts text = elim (word_value opts text) [ Some value ↦ Some (word_token value) | None ↦ None ]

-- the pieces up to the quote that ends a string
abbrev pub pieces_in : List (ℕ × Lexeme) → List Piece
pieces_in [] = []
pieces_in ((place, piece p) ∷ lexemes) = p ∷ pieces_in lexemes
pieces_in ((place, quote) ∷ lexemes) = []
pieces_in ((place, blank) ∷ lexemes) = []
pieces_in ((place, mark m) ∷ lexemes) = []
pieces_in ((place, word text) ∷ lexemes) = []

-- a string is a token where it begins, also one that is cut off; a word that has no value stops the text at its first byte
abbrev mutual
  pub tokens_outside : InferOpts → List (ℕ × Lexeme) → Option ℕ → Tokens
  tokens_outside opts [] stop = record { tokens = []; stop = stop }
  tokens_outside opts ((place, blank) ∷ lexemes) stop = tokens_outside opts lexemes stop
  tokens_outside opts ((place, mark m) ∷ lexemes) stop = and_token place (sign m) (tokens_outside opts lexemes stop)
  tokens_outside opts ((place, word text) ∷ lexemes) stop = or_stop place (token_of_word opts text) (tokens_outside opts lexemes stop)
  tokens_outside opts ((place, quote) ∷ lexemes) stop = and_token place (text_token (decoded (pieces_in lexemes))) (tokens_inside opts lexemes stop)
  tokens_outside opts ((place, piece p) ∷ lexemes) stop = tokens_outside opts lexemes stop

  pub tokens_inside : InferOpts → List (ℕ × Lexeme) → Option ℕ → Tokens
  tokens_inside opts [] stop = record { tokens = []; stop = stop }
  tokens_inside opts ((place, quote) ∷ lexemes) stop = tokens_outside opts lexemes stop
  tokens_inside opts ((place, blank) ∷ lexemes) stop = tokens_inside opts lexemes stop
  tokens_inside opts ((place, mark m) ∷ lexemes) stop = tokens_inside opts lexemes stop
  tokens_inside opts ((place, word text) ∷ lexemes) stop = tokens_inside opts lexemes stop
  tokens_inside opts ((place, piece p) ∷ lexemes) stop = tokens_inside opts lexemes stop

abbrev pub tokens_of : InferOpts → List ℕ → Tokens
tokens_of opts text = tokens_outside opts (lexemes_of text).lexemes (lexemes_of text).stop
