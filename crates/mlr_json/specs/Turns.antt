-- How the outcome of a text continues, token by token.
use Rattle.std.specs.Prelude.{◌≡◌, ℕ, ◌-◌, ◌<◌, ◌≤◌, Bool, true, false, List, length, Option, Some, None}
use Rattle.mlr_spec.specs.Tree.{Tree}
use Rattle.mlr_spec.specs.JsonTokens.{Lexeme, blank, mark, word, quote, piece, Tokens}
use Rattle.mlr_spec.specs.JsonGrammar.{IsJson, HasSyntaxFault, HasDeepFault}
use Rattle.mlr_value.specs.Value.{tree_of}
use Rattle.mlr_json.specs.declared.frame.Frame.{Frame}
use Rattle.mlr_json.specs.declared.frame.Phase.{Phase}
use Rattle.mlr_json.specs.declared.machine.Machine.{Machine}
use Rattle.mlr_json.specs.declared.read.JsonRead.{JsonRead}
use Rattle.mlr_json.specs.declared.read.JsonRead.TheVariants as answer
use Rattle.mlr_json.specs.declared.read.Turn.{Turn}
use Rattle.mlr_json.specs.declared.read.Turn.TheVariants as turn
use Rattle.mlr_json.specs.Machine.{Outcome, read, syntax, deep, outcome_from, outcome_after}
use Rattle.mlr_json.specs.Readable.{plain}
use Rattle.mlr_json.specs.Steps.{frames_of}
use Rattle.mlr_json.specs.Reading.{tokens_left}

abbrev pub outcome_at : ℕ → List Frame → Phase → Tokens → Outcome
outcome_at end frames at tokens = outcome_from end frames at tokens.tokens tokens.stop

abbrev pub after_at : Tree → Tokens → Outcome
after_at value tokens = outcome_after value tokens.tokens tokens.stop

-- an outcome is that of the machine and the rest of the text, or is settled
abbrev pub IsTurn : ℕ → Outcome → Machine → Turn → Type 0
IsTurn end outcome machine (turn.On following) = outcome ≡ outcome_at end (frames_of machine) machine.phase (tokens_left end following.now)
IsTurn end outcome machine (turn.Whole value following) = outcome ≡ after_at (tree_of value) (tokens_left end following.now)
IsTurn end outcome machine (turn.Syntax rest) = outcome ≡ syntax (end - rest)
IsTurn end outcome machine (turn.Deep rest) = outcome ≡ deep (end - rest)

abbrev pub IsTurnShorter : ℕ → Turn → Type 0
IsTurnShorter left (turn.On following) = length following.now < left
IsTurnShorter left (turn.Whole value following) = length following.now < left
IsTurnShorter left (turn.Syntax rest) = rest ≤ left
IsTurnShorter left (turn.Deep rest) = rest ≤ left

-- a lexeme that is more than blanks, outside strings
abbrev pub is_token : Lexeme → Bool
is_token blank = false
is_token (mark m) = true
is_token (word text) = true
is_token quote = true
is_token (piece p) = false

-- the outcome after a whole value
abbrev pub IsAfter : ℕ → Tree → Outcome → Option ℕ → Type 0
IsAfter end value outcome None = outcome ≡ read value
IsAfter end value outcome (Some rest) = outcome ≡ syntax (end - rest)

-- a result is this outcome; where memory ran out there is none
abbrev pub IsAnswer : Outcome → JsonRead → Type 0
IsAnswer outcome (answer.Ok value) = outcome ≡ read (tree_of value)
IsAnswer outcome (answer.Syntax place) = outcome ≡ syntax place
IsAnswer outcome (answer.Deep place) = outcome ≡ deep place
IsAnswer outcome answer.NoMemory = Unit {0}

-- the same by the grammar: the text is this value, or has its first fault at this place
abbrev pub IsRead : List ℕ → JsonRead → Type 0
IsRead text (answer.Ok value) = IsJson plain text (tree_of value)
IsRead text (answer.Syntax place) = HasSyntaxFault plain text place
IsRead text (answer.Deep place) = HasDeepFault plain text place
IsRead text answer.NoMemory = Unit {0}
