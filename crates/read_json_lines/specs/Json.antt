-- The events of a file of JSON or JSON Lines, and those that its first bytes fix.
use Rattle.std.specs.Prelude.{ℕ, ◌+◌, nat_lt, Bool, true, false, not, ◌&&◌, ◌||◌, if◌then◌else◌, List, [], ◌∷◌, length, take, Option, Some, None}
use Rattle.std.specs.Str.{bytes_eq}
use Rattle.mlr_spec.specs.declared.infer.InferOpts.{InferOpts}
use Rattle.mlr_spec.specs.JsonTokens.{Lexeme, blank, mark, word, quote, piece, Lexemes, Token, Tokens, tokens_outside, tokens_inside}
use Rattle.mlr_json.specs.Reading.{lexemes_left}
use Rattle.mlr_lines.specs.Lines.{without_mark}
use Rattle.mlr_event.specs.declared.event.Ctx.{Ctx}
use Rattle.mlr_event.specs.declared.event.Event.{Event}
use Rattle.mlr_event.specs.declared.names.FileRef.{FileRef}
use Rattle.mlr_event.specs.declared.options.ReadOpts.{ReadOpts}
use Rattle.mlr_event.specs.Reading.{Item, events_of, ctx_after}
use Rattle.mlr_event.specs.Reading as reading
use Rattle.read_json_lines.specs.declared.listing.Trouble.TheVariants.{Syntax}
use Rattle.read_json_lines.specs.Records.{Ending, goes_on, begins, stops, ends, State, start_state, fault_of, items_of}

-- a word at the end of the bytes so far may continue after them
abbrev pub is_begun : Lexeme → List (ℕ × Lexeme) → Option ℕ → Bool
is_begun (word text) [] None = true
is_begun (word text) [] (Some place) = false
is_begun (word text) (next ∷ lexemes) stop = false
is_begun blank lexemes stop = false
is_begun (mark m) lexemes stop = false
is_begun quote lexemes stop = false
is_begun (piece p) lexemes stop = false

-- what follows the lexemes of a text that ends before the place `end`; a text that ends within a string stops
-- at `end`, and may continue unless it is the whole file
abbrev pub ending : Bool → ℕ → Option ℕ → Ending
ending true end (Some place) = stops place
ending true end None = ends end
ending false end (Some place) = if nat_lt place end then stops place else goes_on
ending false end None = goes_on

-- lexemes, and what follows them
pub record Settled : Type 0 where
  pub lexemes : List (ℕ × Lexeme)
  pub ending : Ending

abbrev pub and_settled : ℕ → Lexeme → Settled → Settled
and_settled place lexeme more = record { lexemes = (place, lexeme) ∷ more.lexemes; ending = more.ending }

abbrev pub settled : ℕ → List (ℕ × Lexeme) → Option ℕ → Settled
settled end [] stop = record { lexemes = []; ending = ending false end stop }
settled end ((place, lexeme) ∷ lexemes) stop =
    if is_begun lexeme lexemes stop then record { lexemes = []; ending = begins place } else and_settled place lexeme (settled end lexemes stop)

-- the lexemes of a whole file, or those that its first bytes fix
abbrev pub known : Bool → ℕ → Lexemes → Settled
known true end all = record { lexemes = all.lexemes; ending = ending true end all.stop }
known false end all = settled end all.lexemes all.stop

-- tokens, and what follows them
pub record Known : Type 0 where
  pub tokens : List (ℕ × Token)
  pub ending : Ending

-- a word without value stops the text, whatever follows
abbrev pub unless_stopped : Option ℕ → Ending → Ending
unless_stopped (Some place) following = stops place
unless_stopped None following = following

abbrev pub tokens_then : Tokens → Ending → Known
tokens_then all following = record { tokens = all.tokens; ending = unless_stopped all.stop following }

-- the tokens of lexemes that begin outside strings, and of lexemes that begin within one
abbrev pub tokens_known : InferOpts → Settled → Known
tokens_known infer all = tokens_then (tokens_outside infer all.lexemes None) all.ending

abbrev pub tokens_known_inside : InferOpts → Settled → Known
tokens_known_inside infer all = tokens_then (tokens_inside infer all.lexemes None) all.ending

abbrev pub items_in : FileRef → State → Known → List Item
items_in file s all = items_of file s all.tokens all.ending

-- the bytes are an incomplete byte order mark: its first byte, or its first two
abbrev pub is_mark_begun : List ℕ → Bool
is_mark_begun bytes = bytes_eq bytes (239 ∷ []) || bytes_eq bytes (239 ∷ 187 ∷ [])

-- the number of bytes of an incomplete byte order mark at the start; 0 if the mark is complete or there is
-- none
abbrev pub mark_part : List ℕ → ℕ
mark_part bytes =
    if bytes_eq (take 3 bytes) (239 ∷ 187 ∷ 191 ∷ []) then 0
    else if bytes_eq (take 2 bytes) (239 ∷ 187 ∷ []) then 2
    else if bytes_eq (take 1 bytes) (239 ∷ []) then 1
    else 0

-- The items of a whole file, or those that its first bytes fix. Bytes are counted from 1, and the byte order
-- mark is counted too. After an incomplete mark, the next byte is a fault.
abbrev pub file_items : Bool → InferOpts → FileRef → List ℕ → List Item
file_items whole infer file bytes =
    if not whole && is_mark_begun bytes then []
    else if nat_lt 0 (mark_part bytes) then reading.fault (fault_of file Syntax (mark_part bytes + 1)) ∷ []
    else items_in file start_state (tokens_known infer (known whole (length bytes + 1) (lexemes_left false (length bytes + 1) (without_mark bytes))))

-- the events of a whole file, and those that its first bytes fix
abbrev pub json_read : ReadOpts → FileRef → Ctx → List ℕ → List Event
json_read opts file start bytes = events_of start (file_items true opts.infer file bytes)

abbrev pub json_fed : ReadOpts → FileRef → Ctx → List ℕ → List Event
json_fed opts file start bytes = events_of start (file_items false opts.infer file bytes)

-- the context of the last record of a whole file, and of the last record that the bytes so far fix
abbrev pub ctx_read : ReadOpts → FileRef → Ctx → List ℕ → Ctx
ctx_read opts file start bytes = ctx_after start (file_items true opts.infer file bytes)

abbrev pub ctx_fed : ReadOpts → FileRef → Ctx → List ℕ → Ctx
ctx_fed opts file start bytes = ctx_after start (file_items false opts.infer file bytes)
