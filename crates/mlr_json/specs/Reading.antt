-- The rest of a text as tokens. Places count from 1, and the whole text ends before the place `end`, so the
-- rest begins at `end - length left`.
use Rattle.std.specs.Prelude.{◌≡◌, ℕ, ◌+◌, ◌-◌, ◌<◌, ◌≤◌, Bool, true, false, List, [], ◌∷◌, length, Option, Some, None}
use Rattle.mlr_spec.specs.JsonTokens.{Piece, raw, unit, Lexeme, blank, mark, word, quote, piece, Lexemes, and_lexeme, is_inside, lexemes_from, Token, sign, text_token, word_token, Tokens, and_token, decoded, pieces_in, tokens_outside, tokens_inside}
use Rattle.mlr_value.specs.Value.{tree_of}
use Rattle.mlr_json.specs.declared.token.Token.{Token as TokenRead}
use Rattle.mlr_json.specs.declared.token.Token.TheVariants as read
use Rattle.mlr_json.specs.declared.token.Next.{Next}
use Rattle.mlr_json.specs.declared.token.Next.TheVariants as next
use Rattle.mlr_json.specs.declared.token.StringEnd.{StringEnd}
use Rattle.mlr_json.specs.declared.token.StringEnd.TheVariants as string
use Rattle.mlr_json.specs.declared.token.PieceAt.{PieceAt}
use Rattle.mlr_json.specs.declared.token.PieceAt.TheVariants as at
use Rattle.mlr_json.specs.Readable.{plain}

-- the lexemes of the rest, within a string or outside
unfoldable pub lexemes_left : Bool → ℕ → List ℕ → Lexemes
lexemes_left inside end text = lexemes_from (length text + 1) inside (end - length text) text

-- its tokens
abbrev pub tokens_left : ℕ → List ℕ → Tokens
tokens_left end text = tokens_outside plain (lexemes_left false end text).lexemes (lexemes_left false end text).stop

-- its tokens, and the pieces before the first quote, where it begins within a string
abbrev pub inside_left : ℕ → List ℕ → Tokens
inside_left end text = tokens_inside plain (lexemes_left true end text).lexemes (lexemes_left true end text).stop

abbrev pub pieces_left : ℕ → List ℕ → List Piece
pieces_left end text = pieces_in (lexemes_left true end text).lexemes

-- the rest begins with this lexeme, and continues with this text
abbrev pub IsFirst : Bool → ℕ → List ℕ → Lexeme → List ℕ → Type 0
IsFirst inside end text lexeme following = lexemes_left inside end text ≡ and_lexeme (end - length text) lexeme (lexemes_left (is_inside inside lexeme) end following)

-- no tokens
abbrev pub stopped : Option ℕ → Tokens
stopped stop = record { tokens = []; stop = stop }

abbrev pub token_seen : TokenRead → Token
token_seen (read.Mark m) = sign m
token_seen (read.Word value) = word_token (tree_of value)
token_seen (read.Text text) = text_token text
token_seen (read.Piece text) = text_token text.now

-- what comes next is how these tokens begin, where so many bytes remain
abbrev pub Gives : ℕ → ℕ → Next → Tokens → Type 0
Gives end left (next.Blank following) tokens = tokens ≡ tokens_left end following.now
Gives end left (next.Token token following) tokens = tokens ≡ and_token (end - left) (token_seen token) (tokens_left end following.now)
Gives end left next.Refused tokens = (text : List ℕ) × (more : Tokens) × (tokens ≡ and_token (end - left) (text_token text) more)
Gives end left (next.Cut rest) tokens = (text : List ℕ) × (tokens ≡ and_token (end - left) (text_token text) (stopped (Some (end - rest))))
Gives end left (next.Bad rest) tokens = tokens ≡ stopped (Some (end - rest))
Gives end left next.End tokens = tokens ≡ stopped None

-- less remains after what comes next, and no more at a fault
abbrev pub IsShorter : ℕ → Next → Type 0
IsShorter left (next.Blank following) = length following.now < left
IsShorter left (next.Token token following) = length following.now < left
IsShorter left next.Refused = Unit {0}
IsShorter left (next.Cut rest) = rest ≤ left
IsShorter left (next.Bad rest) = rest ≤ left
IsShorter left next.End = Unit {0}

-- a string is refused only where none is wanted, and cut off only where one is
abbrev pub IsWanted : Bool → Next → Type 0
IsWanted wanted (next.Blank following) = Unit {0}
IsWanted wanted (next.Token token following) = Unit {0}
IsWanted wanted next.Refused = wanted ≡ false
IsWanted wanted (next.Cut rest) = wanted ≡ true
IsWanted wanted (next.Bad rest) = Unit {0}
IsWanted wanted next.End = Unit {0}

-- a string with its text, or the place where it stops
abbrev pub IsStringEnd : ℕ → List ℕ → StringEnd → Type 0
IsStringEnd end text (string.Closed decoded_text following) = (decoded_text ≡ decoded (pieces_left end text)) × (inside_left end text ≡ tokens_left end following.now)
IsStringEnd end text (string.Cut rest) = inside_left end text ≡ stopped (Some (end - rest))

abbrev pub EndsWithin : ℕ → StringEnd → Type 0
EndsWithin left (string.Closed text following) = length following.now < left
EndsWithin left (string.Cut rest) = rest ≤ left

-- a lexeme that comes within a string
abbrev pub is_of_string : Lexeme → Bool
is_of_string blank = false
is_of_string (mark m) = false
is_of_string (word text) = false
is_of_string quote = true
is_of_string (piece p) = true

-- what comes next within a string is how its pieces and tokens go on
abbrev pub PieceGives : ℕ → List ℕ → PieceAt → Type 0
PieceGives end text (at.Raw bytes following) = (pieces_left end text ≡ raw bytes.now ∷ pieces_left end following.now) × (inside_left end text ≡ inside_left end following.now)
PieceGives end text (at.Unit u following) = (pieces_left end text ≡ unit u ∷ pieces_left end following.now) × (inside_left end text ≡ inside_left end following.now)
PieceGives end text (at.Quote following) = (pieces_left end text ≡ []) × (inside_left end text ≡ tokens_left end following.now)
PieceGives end text (at.Stop rest) = inside_left end text ≡ stopped (Some (end - rest))

abbrev pub IsPieceShorter : ℕ → PieceAt → Type 0
IsPieceShorter left (at.Raw bytes following) = length following.now < left
IsPieceShorter left (at.Unit u following) = length following.now < left
IsPieceShorter left (at.Quote following) = length following.now < left
IsPieceShorter left (at.Stop rest) = rest ≤ left
