-- The records of a stream of JSON tokens, which is a sequence of maps and lists of maps.
use Rattle.std.specs.Prelude.{ℕ, nat_lt, Bool, true, false, not, ◌&&◌, if◌then◌else◌, List, [], ◌∷◌, length}
use Rattle.mlr_spec.specs.declared.json.JsonMark.TheVariants.{BeginMap, EndMap, BeginArray, EndArray, Colon, Comma}
use Rattle.mlr_spec.specs.Tree.{Tree, mapping, pairs_in}
use Rattle.mlr_spec.specs.JsonTokens.{Token, sign, text_token, word_token}
use Rattle.mlr_json.specs.declared.frame.Frame.{Frame}
use Rattle.mlr_json.specs.declared.frame.Phase.{Phase}
use Rattle.mlr_json.specs.declared.frame.Phase.TheVariants as phase
use Rattle.mlr_json.specs.Machine.{Step, on, whole, wrong, step, takes_value}
use Rattle.mlr_json.specs.Steps.{is_within}
use Rattle.mlr_event.specs.declared.names.FileRef.{FileRef}
use Rattle.mlr_event.specs.declared.fault.Fault.{Fault}
use Rattle.mlr_event.specs.declared.fault.Fault.TheVariants as fault
use Rattle.mlr_event.specs.Reading.{Item, fields}
use Rattle.mlr_event.specs.Reading as reading
use Rattle.read_json_lines.specs.declared.listing.Listing.{Listing}
use Rattle.read_json_lines.specs.declared.listing.Listing.TheVariants.{Outside, First, After, Next}
use Rattle.read_json_lines.specs.declared.listing.Trouble.{Trouble}
use Rattle.read_json_lines.specs.declared.listing.Trouble.TheVariants.{Syntax, Deep, Kind}

-- the state of a stream: its place in a list of records, and the open brackets of the current record
pub record State : Type 0 where
  pub list : Listing
  pub frames : List Frame
  pub phase : Phase

abbrev pub start_state : State
start_state = record { list = Outside; frames = []; phase = phase.Value }

-- the outcome of a token: the stream continues, a record is complete, or the token is a fault
pub data Turn : Type 0 where
  goes : State → Turn
  gives : List (List ℕ × Tree) → State → Turn
  fails : Trouble → Turn

abbrev pub after_record : Listing → Listing
after_record Outside = Outside
after_record First = After
after_record After = After
after_record Next = After

-- a complete value is a record if it is a map
abbrev pub record_turn : Listing → Tree → Turn
record_turn list (mapping pairs) = gives (pairs_in pairs) (record { list = after_record list; frames = []; phase = phase.Value })
record_turn list _ = fails Kind

-- the outcome of a token within a record
abbrev pub value_turn : Listing → Step → Turn
value_turn list (on frames at) = if nat_lt 100 (length frames) then fails Deep else goes (record { list = list; frames = frames; phase = at })
value_turn list (whole value) = record_turn list value
value_turn list wrong = fails Syntax

-- the outcome of a token between records: any value there has to be a map
abbrev pub is_after : Listing → Bool
is_after Outside = false
is_after First = false
is_after After = true
is_after Next = false

abbrev pub other_value : Listing → Trouble
other_value list = if is_after list then Syntax else Kind

abbrev pub map_begun : State → Turn
map_begun s = if is_after s.list then fails Syntax else value_turn s.list (step s.frames s.phase (sign BeginMap))

abbrev pub in_list : State → Listing → Turn
in_list s list = goes (record s { list = list })

abbrev pub list_begun : State → Listing → Turn
list_begun s Outside = in_list s First
list_begun s First = fails Kind
list_begun s After = fails Syntax
list_begun s Next = fails Kind

abbrev pub list_ended : State → Listing → Turn
list_ended s Outside = fails Syntax
list_ended s First = in_list s Outside
list_ended s After = in_list s Outside
list_ended s Next = fails Syntax

abbrev pub comma_turn : State → Listing → Turn
comma_turn s list = if is_after list then in_list s Next else fails Syntax

abbrev pub turn_between : State → Token → Turn
turn_between s (sign BeginMap) = map_begun s
turn_between s (sign EndMap) = fails Syntax
turn_between s (sign BeginArray) = list_begun s s.list
turn_between s (sign EndArray) = list_ended s s.list
turn_between s (sign Colon) = fails Syntax
turn_between s (sign Comma) = comma_turn s s.list
turn_between s (text_token text) = fails (other_value s.list)
turn_between s (word_token value) = fails (other_value s.list)

abbrev pub turn : State → Token → Turn
turn s token = if is_within s.frames then value_turn s.list (step s.frames s.phase token) else turn_between s token

abbrev pub fault_of : FileRef → Trouble → ℕ → Fault
fault_of file Syntax place = fault.JsonSyntax file place
fault_of file Deep place = fault.JsonDeep file place
fault_of file Kind place = fault.JsonKind file place

-- whether a word may begin: within a record where a value is allowed, and between records where a map is
-- allowed (there the word, once complete, is a fault of kind)
abbrev pub takes_word : State → Bool
takes_word s = if is_within s.frames then takes_value s.phase else not (is_after s.list)

-- what follows the last token: bytes that aren't known yet, a word that has begun and may continue, a byte
-- that stops the text, or the end of the file
pub data Ending : Type 0 where
  goes_on : Ending
  begins : ℕ → Ending
  stops : ℕ → Ending
  ends : ℕ → Ending

-- no list is open; and neither a record nor a list is open
abbrev pub is_outside : Listing → Bool
is_outside Outside = true
is_outside First = false
is_outside After = false
is_outside Next = false

abbrev pub is_at_rest : State → Bool
is_at_rest s = is_outside s.list && not (is_within s.frames)

abbrev pub end_items : FileRef → State → Ending → List Item
end_items file s goes_on = []
end_items file s (begins place) = if takes_word s then [] else reading.fault (fault_of file Syntax place) ∷ []
end_items file s (stops place) = reading.fault (fault_of file Syntax place) ∷ []
end_items file s (ends place) = if is_at_rest s then [] else reading.fault (fault_of file Syntax place) ∷ []

-- the records of the tokens, up to the first fault
abbrev pub items_of : FileRef → State → List (ℕ × Token) → Ending → List Item
items_of file s [] ending = end_items file s ending
items_of file s ((place, token) ∷ tokens) ending = elim (turn s token) [
  | goes next ↦ items_of file next tokens ending
  | gives pairs next ↦ fields pairs ∷ items_of file next tokens ending
  | fails trouble ↦ reading.fault (fault_of file trouble place) ∷ []
]
