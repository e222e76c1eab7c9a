-- The outcomes of the code, in terms of the definitions.
use Rattle.std.specs.Prelude.{◌≡◌, ℕ, List, Option, Some, None}
use Rattle.mlr_spec.specs.Tree.{Tree, mapping, pairs_in}
use Rattle.mlr_json.specs.Steps.{frames_of}
use Rattle.read_json_lines.specs.declared.record_state.RecordState.{RecordState}
use Rattle.read_json_lines.specs.declared.record_state.Turn.{Turn}
use Rattle.read_json_lines.specs.declared.record_state.Turn.TheVariants.{On, Record, Fault}
use Rattle.read_json_lines.specs.Records as records
use Rattle.mlr_spec.specs.JsonTokens.{text_token}
use Rattle.read_json_lines.specs.declared.listing.Trouble.{Trouble}
use Rattle.read_json_lines.specs.Records.{State, goes, gives, fails, turn}

abbrev pub state_of : RecordState → State
state_of record_state = record { list = record_state.list; frames = frames_of record_state.machine; phase = record_state.machine.phase }

-- the fields of a value, if it is a map
abbrev pub record_in : Tree → Option (List (List ℕ × Tree))
record_in (mapping pairs) = Some (pairs_in pairs)
record_in _ = None

-- the outcome and the next state are those of the definition
abbrev pub IsTurn : records.Turn → Turn → State → Type 0
IsTurn (goes next) On s = s ≡ next
IsTurn (gives pairs next) (Record made) s = (made ≡ pairs) × (s ≡ next)
IsTurn (fails trouble) (Fault seen) s = seen ≡ trouble
IsTurn _ _ s = ⊥

-- the outcome of a token that completes no record
abbrev pub turn_of : Option Trouble → Turn
turn_of None = On
turn_of (Some trouble) = Fault trouble

-- the stream continues; `RefusesText` says whether every string continues it, or every string is this fault
abbrev pub IsOn : records.Turn → Type 0
IsOn (goes next) = Unit {0}
IsOn (gives pairs next) = ⊥
IsOn (fails trouble) = ⊥

abbrev pub RefusesText : State → Option Trouble → Type 0
RefusesText s None = (text : List ℕ) → IsOn (turn s (text_token text))
RefusesText s (Some trouble) = (text : List ℕ) → turn s (text_token text) ≡ fails trouble
