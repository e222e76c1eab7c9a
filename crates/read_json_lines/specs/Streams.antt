-- The items that a stream will give for the bytes that follow, and how one step changes them.
use Rattle.std.specs.Prelude.{◌≡◌, ◌⊎◌, ℕ, ◌+◌, ◌*◌, ◌≤◌, Bool, true, false, if◌then◌else◌, List, [], ◌∷◌, ◌++◌, length, max, min, Option, Some, None}
use Rattle.mlr_spec.specs.declared.infer.InferOpts.{InferOpts}
use Rattle.std.specs.Option.{option_map}
use Rattle.mlr_value.specs.declared.value.Value.{Value}
use Rattle.mlr_value.specs.Value.{tree_of}
use Rattle.mlr_spec.specs.JsonTokens.{Piece, Lexeme, piece, quote, word_token, word, found, begun, lexeme_outside, lexeme_inside, pieces_in, Token, text_token, decoded}
use Rattle.mlr_json.specs.declared.string.StringBuilder.{StringBuilder}
use Rattle.mlr_json.specs.Decoding.{pending}
use Rattle.mlr_json.specs.Reading.{lexemes_left}
use Rattle.mlr_event.specs.declared.event.Ctx.{Ctx}
use Rattle.mlr_event.specs.declared.event.Event.{Event}
use Rattle.mlr_event.specs.declared.names.FileRef.{FileRef}
use Rattle.mlr_event.specs.Reading.{Item, fields, events_of, ctx_after}
use Rattle.mlr_event.specs.Reading as reading
use Rattle.mlr_event.specs.Stream.{has_fault}
use Rattle.read_json_lines.specs.declared.record_state.Turn.{Turn}
use Rattle.read_json_lines.specs.declared.record_state.Turn.TheVariants.{On, Record, Fault}
use Rattle.read_json_lines.specs.declared.stream.Stream.{Stream}
use Rattle.read_json_lines.specs.declared.strings.OpenText.{OpenText}
use Rattle.read_json_lines.specs.Records.{State, start_state, stops, fault_of, takes_word, turn}
use Rattle.read_json_lines.specs.Json.{Settled, Known, known, tokens_known, tokens_known_inside, items_in}
use Rattle.read_json_lines.specs.Turns.{state_of, IsOn}

-- the known lexemes of the rest of the text, which begins within a string or outside
abbrev pub left : Bool → Bool → ℕ → List ℕ → Settled
left whole inside end text = known whole end (lexemes_left inside end text)

abbrev pub outside : Bool → InferOpts → ℕ → List ℕ → Known
outside whole infer end text = tokens_known infer (left whole false end text)

abbrev pub inside : Bool → InferOpts → ℕ → List ℕ → Known
inside whole infer end text = tokens_known_inside infer (left whole true end text)

abbrev pub pieces : Bool → ℕ → List ℕ → List Piece
pieces whole end text = pieces_in (left whole true end text).lexemes

-- the text of the current string, with the pieces that follow
abbrev pub text_after : StringBuilder → List Piece → List ℕ
text_after builder more = builder.text ++ decoded (pending builder.high ++ more)

abbrev pub and_token : ℕ → Token → Known → Known
and_token place token more = record { tokens = (place, token) ∷ more.tokens; ending = more.ending }

-- a word without value stops the text at its first byte
abbrev pub or_stop : ℕ → Option Token → Known → Known
or_stop place None more = record { tokens = []; ending = stops place }
or_stop place (Some token) more = and_token place token more

abbrev pub tokens_of : Bool → InferOpts → Option OpenText → ℕ → List ℕ → Known
tokens_of whole infer None end text = outside whole infer end text
tokens_of whole infer (Some open_text) end text =
    and_token open_text.place (text_token (text_after open_text.builder (pieces whole end text))) (inside whole infer end text)

-- the items of the tokens that follow
abbrev pub rest_items : Stream → Known → List Item
rest_items s tokens = if s.stopped then [] else items_in s.file (state_of s.record_state) tokens

-- the items of the bytes that follow, as the first bytes or as the whole rest of the file
abbrev pub items_at : Stream → Bool → ℕ → List ℕ → List Item
items_at s whole end text = rest_items s (tokens_of whole s.infer s.text end text)

abbrev pub future : Stream → Bool → List ℕ → List Item
future s whole rest = items_at s whole (s.place + length (s.begun.items ++ rest)) (s.begun.items ++ rest)

-- the bytes that have begun are a word, or an escape of the current string, and that word or string is
-- allowed at its place
abbrev pub FitsText : Option OpenText → State → List ℕ → Type 0
FitsText None s bytes = (bytes ≡ []) ⊎ ((lexeme_outside bytes ≡ found (word bytes) (length bytes)) × (takes_word s ≡ true))
FitsText (Some open_text) s bytes = (lexeme_inside bytes ≡ begun) × ((text : List ℕ) → IsOn (turn s (text_token text)))

abbrev pub IsFit : Stream → Type 0
IsFit s = s.stopped ≡ false → FitsText s.text (state_of s.record_state) s.begun.items

-- the largest of the counters, plus the number of bytes that have begun
abbrev pub count_of : Stream → ℕ
count_of s = max s.place (max s.at.nr s.at.fnr) + length s.begun.items

-- the items of an outcome at a place
abbrev pub turn_items : FileRef → Turn → ℕ → List Item
turn_items file On place = []
turn_items file (Record pairs) place = fields pairs ∷ []
turn_items file (Fault trouble) place = reading.fault (fault_of file trouble place) ∷ []

abbrev pub is_fault : Turn → Bool
is_fault On = false
is_fault (Record pairs) = false
is_fault (Fault trouble) = true

-- the events of these items were appended, and the state is the one after them
pub record Appends (old new : Stream) (before after : List Event) (more : List Item) : Type 0 where
  pub events : after ≡ before ++ events_of old.at more
  pub at : new.at ≡ ctx_after old.at more
  pub stopped : new.stopped ≡ has_fault more

-- a step gives at most one record
pub record Counts (old new : Stream) : Type 0 where
  pub nr : new.at.nr ≤ old.at.nr + 1
  pub fnr : new.at.fnr ≤ old.at.fnr + 1

-- the items of one outcome were appended, and nothing else has changed
pub record HasPut (old new : Stream) (before after : List Event) (more : List Item) : Type 0 where
  pub appends : Appends old new before after more
  pub counts : Counts old new
  pub same : new ≡ record old { at = new.at; stopped = new.stopped }

-- tokens were read: their items and those of the tokens that follow are the appended ones, then those that
-- the tokens that follow give in the new state
pub record Takes (old new : Stream) (before after : List Event) (tokens : Known → Known) : Type 0 where
  pub more : List Item
  pub appends : Appends old new before after more
  pub counts : Counts old new
  pub items : (rest : Known) → items_in old.file (state_of old.record_state) (tokens rest) ≡ more ++ rest_items new rest

-- the token of a word with this value; none if it has no value
abbrev pub token_of_value : Option Value → Option Token
token_of_value value = option_map (λ v. word_token (tree_of v)) value

-- the token of the current string, with the pieces that follow, and the tokens after it
abbrev pub text_tokens : Option OpenText → List Piece → Known → Known
text_tokens None more rest = rest
text_tokens (Some open_text) more rest = and_token open_text.place (text_token (text_after open_text.builder more)) rest

-- a string is allowed at its place, whatever its text
abbrev pub IsOpen : Option OpenText → State → Type 0
IsOpen None s = ⊥
IsOpen (Some open_text) s = (text : List ℕ) → IsOn (turn s (text_token text))

-- the opening quote of a string was read
pub record Opens (old new : Stream) (before after : List Event) : Type 0 where
  pub more : List Item
  pub appends : Appends old new before after more
  pub counts : Counts old new
  pub items : (pieces : List Piece) (rest : Known)
      → items_in old.file (state_of old.record_state) (and_token old.place (text_token (decoded pieces)) rest) ≡ more ++ rest_items new (text_tokens new.text pieces rest)
  pub is_open : new.stopped ≡ false → IsOpen new.text (state_of new.record_state)

-- a piece was appended to the current string
abbrev pub Pushes : Option OpenText → Option OpenText → Lexeme → Type 0
Pushes old new (piece p) = (more : List Piece) (rest : Known) → text_tokens old (p ∷ more) rest ≡ text_tokens new more rest
Pushes old new _ = old ≡ new

-- the start of a text was read, and `rest` is the rest of it
pub record Turned (old new : Stream) (text rest : List ℕ) (before after : List Event) : Type 0 where
  pub more : List Item
  pub appends : Appends old new before after more
  pub items : (whole : Bool) (bytes : List ℕ) → future old whole (text ++ bytes) ≡ more ++ future new whole (rest ++ bytes)
  pub fit : IsFit new

-- a lexeme that may be outside strings
abbrev pub is_between : Lexeme → Bool
is_between (piece p) = false
is_between _ = true

abbrev pub is_quote : Lexeme → Bool
is_quote quote = true
is_quote _ = false

-- a bound for the number of steps that read a text of this length: ending a word that has begun may take one
-- more step
abbrev pub waits : Stream → ℕ → ℕ
waits s left = 2 * left + min 1 (length s.begun.items)

-- a stream at its start, where its first byte has this place
pub record Starts (s : Stream) (infer : InferOpts) (file : FileRef) (start : Ctx) (place : ℕ) : Type 0 where
  pub infer_is : s.infer ≡ infer
  pub file_is : s.file ≡ file
  pub place_is : s.place ≡ place
  pub state_is : state_of s.record_state ≡ start_state
  pub text_is : s.text ≡ None
  pub begun_is : s.begun.items ≡ []
  pub at_is : s.at ≡ start
  pub goes_on : s.stopped ≡ false
