-- How the outcome continues after a token, and after a whole value.
use Rattle.std.proofs.Common.{◌≡◌, ℕ, ◌+◌, ◌-◌, ◌<◌, ◌≤◌, ltb, true, false, cond, List, [], ◌∷◌, length, drop, Option, Some, None, refl, ap, sym, subst, ◌∙◌, arith}
use Rattle.std.proofs.lemmas.Bool.{le-ltb}
use Rattle.std.proofs.lemmas.List.{length-reverse}
use Rattle.mlr_spec.specs.Tree.{Tree}
use Rattle.mlr_spec.specs.JsonTokens.{Lexeme, blank, mark, word, quote, piece, found, begun, bad, lexeme_outside, is_inside, Token, text_token, Tokens, and_token, or_stop, token_of_word, tokens_outside, tokens_of, lexemes_from}
use Rattle.mlr_json.specs.declared.frame.Frame.{Frame}
use Rattle.mlr_json.specs.declared.frame.Frame.TheVariants.{Array, Map}
use Rattle.mlr_json.specs.declared.frame.Phase.{Phase}
use Rattle.mlr_json.specs.declared.frame.Phase.TheVariants as phase
use Rattle.mlr_json.specs.declared.machine.Machine.{Machine}
use Rattle.mlr_json.specs.declared.read.JsonRead.{JsonRead}
use Rattle.mlr_json.specs.declared.read.JsonRead.TheVariants as answer
use Rattle.mlr_json.specs.Answer.{Says}
use Rattle.mlr_json.specs.Machine.{Step, on, whole, wrong, Outcome, read, syntax, deep, step, outcome_from, outcome_after, outcome_of}
use Rattle.mlr_json.specs.Readable.{plain}
use Rattle.mlr_json.specs.Steps.{frames_of, takes_text}
use Rattle.mlr_json.specs.Reading.{lexemes_left, tokens_left, stopped}
use Rattle.mlr_json.specs.Turns.{outcome_at, after_at, is_token, IsAnswer, IsRead}
use Rattle.mlr_json.proofs.GrammarAnswer.{outcome-says, outcome-only}
use Rattle.mlr_json.proofs.Left.{left-found, outside-begun, outside-bad}

-- a machine is never deeper than 100
pub is-shallow : (machine : Machine) → length (frames_of machine) ≤ 100
is-shallow machine = omega (arith, machine.is_shallow, machine.frames.ok.0, length-reverse machine.frames.items)

-- what a step leads to where the text is cut off after it
abbrev cut_step : ℕ → ℕ → ℕ → Step → Outcome
cut_step end place rest (on more next) = cond (ltb 100 (length more)) (deep place) (syntax rest)
cut_step end place rest (whole value) = syntax rest
cut_step end place rest wrong = syntax place

cut-by-step : (end : ℕ) (frames : List Frame) (at : Phase) (place rest : ℕ) (token : Token) → outcome_at end frames at (and_token place token (stopped (Some rest))) ≡ cut_step end place rest (step frames at token)
cut-by-step end frames at place rest token = by-step (step frames at token)
  where
    by-step : (s : Step) → (elim s [
      | on more next ↦ cond (ltb 100 (length more)) (deep place) (outcome_from end more next [] (Some rest))
      | whole value ↦ outcome_after value [] (Some rest)
      | wrong ↦ syntax place
    ]) ≡ cut_step end place rest s
    by-step (on more next) = refl
    by-step (whole value) = refl
    by-step wrong = refl

-- a string that may come, and is cut off
pub text-cut : (end : ℕ) (frames : List Frame) (at : Phase) (place rest : ℕ) (text : List ℕ) → takes_text frames at ≡ true → length frames ≤ 100 →
    outcome_at end frames at (and_token place (text_token text) (stopped (Some rest))) ≡ syntax rest
unfolding step
text-cut end frames at place rest text takes small = cut-by-step end frames at place rest (text_token text) ∙ cut at frames takes small
  where
    cut : (at : Phase) (frames : List Frame) → takes_text frames at ≡ true → length frames ≤ 100 → cut_step end place rest (step frames at (text_token text)) ≡ syntax rest
    cut phase.Value [] takes small = refl
    cut phase.Value (Array items ∷ frames) takes small = rw (le-ltb 100 _ small) refl
    cut phase.Value (Map pairs key ∷ frames) takes small = rw (le-ltb 100 _ small) refl
    cut phase.FirstItem [] takes small = refl
    cut phase.FirstItem (Array items ∷ frames) takes small = rw (le-ltb 100 _ small) refl
    cut phase.FirstItem (Map pairs key ∷ frames) takes small = rw (le-ltb 100 _ small) refl
    cut phase.FirstKey [] takes small = absurd (let e : false ≡ true = takes in cc)
    cut phase.FirstKey (Array items ∷ frames) takes small = absurd (let e : false ≡ true = takes in cc)
    cut phase.FirstKey (Map pairs key ∷ frames) takes small = rw (le-ltb 100 _ small) refl
    cut phase.Key [] takes small = absurd (let e : false ≡ true = takes in cc)
    cut phase.Key (Array items ∷ frames) takes small = absurd (let e : false ≡ true = takes in cc)
    cut phase.Key (Map pairs key ∷ frames) takes small = rw (le-ltb 100 _ small) refl
    cut phase.Colon frames takes small = absurd (let e : false ≡ true = takes in cc)
    cut phase.Later frames takes small = absurd (let e : false ≡ true = takes in cc)

-- a string that may not come
pub text-refused : (end : ℕ) (frames : List Frame) (at : Phase) (place : ℕ) (text : List ℕ) (more : Tokens) → takes_text frames at ≡ false →
    outcome_at end frames at (and_token place (text_token text) more) ≡ syntax place
unfolding step
text-refused end frames phase.Value place text more takes = absurd (let e : true ≡ false = takes in cc)
text-refused end frames phase.FirstItem place text more takes = absurd (let e : true ≡ false = takes in cc)
text-refused end [] phase.FirstKey place text more takes = refl
text-refused end (Array items ∷ frames) phase.FirstKey place text more takes = refl
text-refused end (Map pairs key ∷ frames) phase.FirstKey place text more takes = absurd (let e : true ≡ false = takes in cc)
text-refused end [] phase.Key place text more takes = refl
text-refused end (Array items ∷ frames) phase.Key place text more takes = refl
text-refused end (Map pairs key ∷ frames) phase.Key place text more takes = absurd (let e : true ≡ false = takes in cc)
text-refused end frames phase.Colon place text more takes = refl
text-refused end frames phase.Later place text more takes = refl

-- after a whole value
module _ (end : ℕ) (value : Tree) (text : List ℕ) (fits : length text ≤ end) where
  pub following-begun : lexeme_outside text ≡ begun → after_at value (tokens_left end text) ≡ read value
  following-begun is = ap (after_at value) (outside-begun end text fits is)

  pub following-bad : (offset : ℕ) → offset < length text → lexeme_outside text ≡ bad offset → after_at value (tokens_left end text) ≡ syntax (end - (length text - offset))
  following-bad offset within is = ap (after_at value) (outside-bad end text fits offset within is)

  stops : (place : ℕ) (token : Option Token) (more : Tokens) → after_at value (or_stop place token more) ≡ syntax place
  stops place None more = refl
  stops place (Some token) more = refl

  pub following-token : (l : Lexeme) (len : ℕ) → lexeme_outside text ≡ found l len → is_token l ≡ true → after_at value (tokens_left end text) ≡ syntax (end - length text)
  following-token l len is yes_token = ap (λ x. after_at value (tokens_outside plain x.lexemes x.stop)) (left-found false end text l len fits is) ∙ by-lexeme l yes_token
    where
      by-lexeme : (l : Lexeme) → is_token l ≡ true → after_at value (tokens_outside plain ((end - length text, l) ∷ (lexemes_left (is_inside false l) end (drop len text)).lexemes) (lexemes_left (is_inside false l) end (drop len text)).stop) ≡ syntax (end - length text)
      by-lexeme blank no_token = absurd (let e : false ≡ true = no_token in cc)
      by-lexeme (mark m) h = refl
      by-lexeme (word w) h = stops (end - length text) (token_of_word plain w) (tokens_left end (drop len text))
      by-lexeme quote h = refl
      by-lexeme (piece p) no_token = absurd (let e : false ≡ true = no_token in cc)

  pub following-blank : (l : Lexeme) (len : ℕ) → lexeme_outside text ≡ found l len → is_token l ≡ false → after_at value (tokens_left end text) ≡ after_at value (tokens_left end (drop len text))
  following-blank l len is no_token = ap (λ x. after_at value (tokens_outside plain x.lexemes x.stop)) (left-found false end text l len fits is) ∙ by-lexeme l no_token
    where
      by-lexeme : (l : Lexeme) → is_token l ≡ false → after_at value (tokens_outside plain ((end - length text, l) ∷ (lexemes_left (is_inside false l) end (drop len text)).lexemes) (lexemes_left (is_inside false l) end (drop len text)).stop) ≡ after_at value (tokens_left end (drop len text))
      by-lexeme blank h = refl
      by-lexeme (mark m) h = absurd (let e : true ≡ false = h in cc)
      by-lexeme (word w) h = absurd (let e : true ≡ false = h in cc)
      by-lexeme quote h = absurd (let e : true ≡ false = h in cc)
      by-lexeme (piece p) h = refl

-- at first the whole text remains
pub tokens_left-all : (text : List ℕ) → tokens_of plain text ≡ tokens_left (length text + 1) text
unfolding lexemes_left
tokens_left-all text =
    let first : 1 ≡ (length text + 1) - length text = omega arith in
    ap (λ p. tokens_outside plain (lexemes_from (length text + 1) false p text).lexemes (lexemes_from (length text + 1) false p text).stop) first

-- a result that is the machine's outcome is what the grammar says
pub answer-read : (text : List ℕ) (r : JsonRead) → IsAnswer (outcome_of (length text + 1) (tokens_of plain text)) r → IsRead text r
answer-read text (answer.Ok value) is = subst (Says plain text) is (outcome-says plain text)
answer-read text (answer.Syntax place) is = subst (Says plain text) is (outcome-says plain text)
answer-read text (answer.Deep place) is = subst (Says plain text) is (outcome-says plain text)
answer-read text answer.NoMemory is = tt

-- what the grammar says of a text is the result
pub answer-only : (text : List ℕ) (result : JsonRead) → IsAnswer (outcome_of (length text + 1) (tokens_of plain text)) result → (outcome : Outcome) → Says plain text outcome → IsAnswer outcome result
answer-only text result is outcome says = subst (λ o. IsAnswer o result) (sym (outcome-only plain text outcome says)) is
