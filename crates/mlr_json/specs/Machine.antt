-- Reading token by token, with a stack of the brackets that are open, the innermost first.
use Rattle.std.specs.Prelude.{ℕ, nat_lt, Bool, true, false, if◌then◌else◌, List, [], ◌∷◌, ◌++◌, length, Option, Some, None}
use Rattle.mlr_spec.specs.declared.json.JsonMark.{JsonMark}
use Rattle.mlr_spec.specs.declared.json.JsonMark.TheVariants.{BeginMap, EndMap, BeginArray, EndArray, Colon, Comma}
use Rattle.mlr_spec.specs.Tree.{Tree, map_of, array_of}
use Rattle.mlr_spec.specs.Pairs.{put_at}
use Rattle.mlr_spec.specs.JsonTokens.{Token, sign, text_token, word_token, Tokens}
use Rattle.mlr_spec.specs.JsonGrammar.{text_value}
use Rattle.mlr_json.specs.declared.frame.Frame.{Frame}
use Rattle.mlr_json.specs.declared.frame.Frame.TheVariants.{Array, Map}
use Rattle.mlr_json.specs.declared.frame.Phase.{Phase}
use Rattle.mlr_json.specs.declared.frame.Phase.TheVariants as phase

-- what a token leads to: other frames and another phase, a whole value, or nothing, since it may not come there
pub data Step : Type 0 where
  on : List Frame → Phase → Step
  whole : Tree → Step
  wrong : Step

abbrev pub takes_value : Phase → Bool
takes_value phase.Value = true
takes_value phase.FirstItem = true
takes_value phase.FirstKey = false
takes_value phase.Key = false
takes_value phase.Colon = false
takes_value phase.Later = false

abbrev pub takes_key : Phase → Bool
takes_key phase.Value = false
takes_key phase.FirstItem = false
takes_key phase.FirstKey = true
takes_key phase.Key = true
takes_key phase.Colon = false
takes_key phase.Later = false

-- a value is the next item, or the value of the key that was read, or it is the whole value
abbrev pub with_value : Tree → List Frame → Step
with_value value [] = whole value
with_value value (Array items ∷ frames) = on (Array (items ++ value ∷ []) ∷ frames) phase.Later
with_value value (Map pairs key ∷ frames) = on (Map (put_at key value pairs) key ∷ frames) phase.Later

abbrev pub with_key : List ℕ → List Frame → Step
with_key key [] = wrong
with_key key (Array items ∷ frames) = wrong
with_key key (Map pairs last ∷ frames) = on (Map pairs key ∷ frames) phase.Colon

-- the end of a map, where it is allowed
abbrev pub map_ended : List Frame → Phase → Step
map_ended [] at = wrong
map_ended (Array items ∷ frames) at = wrong
map_ended (Map pairs key ∷ frames) phase.FirstKey = with_value (map_of pairs) frames
map_ended (Map pairs key ∷ frames) phase.Later = with_value (map_of pairs) frames
map_ended (Map pairs key ∷ frames) phase.Value = wrong
map_ended (Map pairs key ∷ frames) phase.FirstItem = wrong
map_ended (Map pairs key ∷ frames) phase.Key = wrong
map_ended (Map pairs key ∷ frames) phase.Colon = wrong

abbrev pub array_ended : List Frame → Phase → Step
array_ended [] at = wrong
array_ended (Map pairs key ∷ frames) at = wrong
array_ended (Array items ∷ frames) phase.FirstItem = with_value (array_of items) frames
array_ended (Array items ∷ frames) phase.Later = with_value (array_of items) frames
array_ended (Array items ∷ frames) phase.Value = wrong
array_ended (Array items ∷ frames) phase.FirstKey = wrong
array_ended (Array items ∷ frames) phase.Key = wrong
array_ended (Array items ∷ frames) phase.Colon = wrong

abbrev pub after_comma : List Frame → Step
after_comma [] = wrong
after_comma (Array items ∷ frames) = on (Array items ∷ frames) phase.Value
after_comma (Map pairs key ∷ frames) = on (Map pairs key ∷ frames) phase.Key

abbrev pub comma_read : List Frame → Phase → Step
comma_read frames phase.Later = after_comma frames
comma_read frames phase.Value = wrong
comma_read frames phase.FirstItem = wrong
comma_read frames phase.FirstKey = wrong
comma_read frames phase.Key = wrong
comma_read frames phase.Colon = wrong

abbrev pub colon_read : List Frame → Phase → Step
colon_read frames phase.Colon = on frames phase.Value
colon_read frames phase.Value = wrong
colon_read frames phase.FirstItem = wrong
colon_read frames phase.FirstKey = wrong
colon_read frames phase.Key = wrong
colon_read frames phase.Later = wrong

abbrev pub step_mark : List Frame → Phase → JsonMark → Step
step_mark frames at BeginMap = if takes_value at then on (Map [] [] ∷ frames) phase.FirstKey else wrong
step_mark frames at BeginArray = if takes_value at then on (Array [] ∷ frames) phase.FirstItem else wrong
step_mark frames at EndMap = map_ended frames at
step_mark frames at EndArray = array_ended frames at
step_mark frames at Colon = colon_read frames at
step_mark frames at Comma = comma_read frames at

unfoldable pub step : List Frame → Phase → Token → Step
step frames at (sign mark) = step_mark frames at mark
step frames at (text_token text) =
    if takes_key at then with_key text frames else (
    if takes_value at then with_value (text_value text) frames else wrong)
step frames at (word_token value) = if takes_value at then with_value value frames else wrong

-- what a whole text is: a value, or its first fault with its place
pub data Outcome : Type 0 where
  read : Tree → Outcome
  syntax : ℕ → Outcome
  deep : ℕ → Outcome

-- after a whole value only blanks are allowed
abbrev pub outcome_after : Tree → List (ℕ × Token) → Option ℕ → Outcome
outcome_after value ((place, token) ∷ tokens) stop = syntax place
outcome_after value [] (Some place) = syntax place
outcome_after value [] None = read value

-- where the tokens end within a value: at a byte that isn't allowed there, or at the end of the text
abbrev pub outcome_cut : ℕ → Option ℕ → Outcome
outcome_cut end (Some place) = syntax place
outcome_cut end None = syntax end

-- the outcome from frames and a phase on, where the text ends before the place `end`
abbrev pub outcome_from : ℕ → List Frame → Phase → List (ℕ × Token) → Option ℕ → Outcome
outcome_from end frames at [] stop = outcome_cut end stop
outcome_from end frames at ((place, token) ∷ tokens) stop = elim (step frames at token) [
  | on more next ↦ if nat_lt 100 (length more) then deep place else outcome_from end more next tokens stop
  | whole value ↦ outcome_after value tokens stop
  | wrong ↦ syntax place
]

abbrev pub outcome_of : ℕ → Tokens → Outcome
outcome_of end tokens = outcome_from end [] phase.Value tokens.tokens tokens.stop
