-- The types of the code as the definitions have them: lexemes, and the start of a text.
use Rattle.std.specs.Prelude.{◌≡◌, ℕ, ◌<◌, ◌≤◌, Bool, ◌||◌, ◌==◌, List, [], ◌∷◌, Option, MatchOption}
use Rattle.mlr_spec.specs.Ascii.{quote_mark, backslash}
use Rattle.std.specs.Borrow.{Bor}
use Rattle.mlr_spec.specs.JsonTokens as text
use Rattle.mlr_spec.specs.JsonTokens.{raw, unit, escape_of}
use Rattle.mlr_json.specs.declared.lexeme.Lexeme.{Lexeme}
use Rattle.mlr_json.specs.declared.lexeme.Lexeme.TheVariants as lexeme
use Rattle.mlr_json.specs.declared.lexeme.Scanned.{Scanned}
use Rattle.mlr_json.specs.declared.lexeme.Scanned.TheVariants.{Found, Begun, Bad}

abbrev pub lexeme_seen : Lexeme → text.Lexeme
lexeme_seen lexeme.Blank = text.blank
lexeme_seen (lexeme.Mark m) = text.mark m
lexeme_seen (lexeme.Word bytes) = text.word bytes.now
lexeme_seen lexeme.Quote = text.quote
lexeme_seen (lexeme.Raw bytes) = text.piece (raw bytes.now)
lexeme_seen (lexeme.Unit u) = text.piece (unit u)

abbrev pub scan_seen : Scanned → text.Scanned
scan_seen (Found l len) = text.found (lexeme_seen l) len
scan_seen Begun = text.begun
scan_seen (Bad offset) = text.bad offset

-- a lexeme has at least one byte, and no more than the text; a bad byte is a byte of the text
abbrev pub IsWithin : ℕ → Scanned → Type 0
IsWithin n (Found l len) = (1 ≤ len) × (len ≤ n)
IsWithin n Begun = Unit {0}
IsWithin n (Bad offset) = offset < n

-- the byte of an escape, or none where its letter represents none
abbrev pub EscapeIs : ℕ → Option (Bor (List ℕ)) → Type 0
EscapeIs letter byte = MatchOption byte (escape_of letter ≡ 0) (λ b. (b.now ≡ escape_of letter ∷ []) × (1 ≤ escape_of letter))

-- a byte that ends raw bytes of a string
abbrev pub ends_raw : ℕ → Bool
ends_raw b = b == quote_mark || b == backslash
