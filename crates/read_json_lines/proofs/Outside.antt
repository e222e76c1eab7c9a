-- The tokens of the rest of a text that begins outside strings, one after another.
use Rattle.std.proofs.Common.{◌≡◌, ℕ, ◌+◌, ◌-◌, ◌<◌, ◌≤◌, Bool, true, false, List, [], ◌∷◌, length, drop, Option, Some, None, refl, ap, ◌∙◌}
use Rattle.std.proofs.lemmas.List.{drop_all}
use Rattle.mlr_spec.specs.declared.infer.InferOpts.{InferOpts}
use Rattle.mlr_spec.specs.declared.json.JsonMark.{JsonMark}
use Rattle.mlr_spec.specs.JsonTokens as spec
use Rattle.mlr_spec.specs.JsonTokens.{Piece, blank, mark, word, quote, piece, found, bad, lexeme_outside, lexeme_inside, and_lexeme, Token, sign, text_token, token_of_word, decoded, pieces_in, tokens_outside}
use Rattle.mlr_json.specs.Reading.{lexemes_left}
use Rattle.mlr_json.proofs.Left.{left-found}
use Rattle.read_json_lines.specs.Records.{Ending, begins}
use Rattle.read_json_lines.specs.Json.{Settled, ending, known, tokens_then, tokens_known, tokens_known_inside}
use Rattle.read_json_lines.specs.Streams.{and_token, or_stop, left, outside, inside, pieces}
use Rattle.read_json_lines.proofs.Lexing.{left-step, left-bad, word-ends, none-left}

-- a word, with or without value
pub word-then : (place : ℕ) (token : Option Token) (all : spec.Tokens) (following : Ending) → tokens_then (spec.or_stop place token all) following ≡ or_stop place token (tokens_then all following)
word-then place None all following = refl
word-then place (Some token) all following = refl

module _ (whole : Bool) (infer : InferOpts) (end : ℕ) (text : List ℕ) (fits : length text ≤ end) where
  pub outside-mark : (m : JsonMark) (len : ℕ) → lexeme_outside text ≡ found (mark m) len → outside whole infer end text ≡ and_token (end - length text) (sign m) (outside whole infer end (drop len text))
  outside-mark m len is = ap (tokens_known infer) (left-step whole false end text (mark m) len fits is refl)

  pub outside-one-blank : (len : ℕ) → lexeme_outside text ≡ found blank len → outside whole infer end text ≡ outside whole infer end (drop len text)
  outside-one-blank len is = ap (tokens_known infer) (left-step whole false end text blank len fits is refl)

  pub outside-quote : (len : ℕ) → lexeme_outside text ≡ found quote len
      → outside whole infer end text ≡ and_token (end - length text) (text_token (decoded (pieces whole end (drop len text)))) (inside whole infer end (drop len text))
  outside-quote len is = ap (tokens_known infer) (left-step whole false end text quote len fits is refl)

  pub outside-word : (w : List ℕ) (len : ℕ) → lexeme_outside text ≡ found (word w) len → 0 < length (drop len text)
      → outside whole infer end text ≡ or_stop (end - length text) (token_of_word infer w) (outside whole infer end (drop len text))
  outside-word w len is more =
      let following = left whole false end (drop len text) in
      ap (tokens_known infer) (left-step whole false end text (word w) len fits is (word-ends end w (drop len text) more))
      ∙ word-then (end - length text) (token_of_word infer w) (tokens_outside infer following.lexemes None) following.ending

  -- a word at the end of the file, or at the end of the bytes so far
  pub outside-last : (w : List ℕ) (len : ℕ) → lexeme_outside text ≡ found (word w) len → outside true infer end text ≡ or_stop (end - length text) (token_of_word infer w) (outside true infer end (drop len text))
  outside-last w len is =
      let following = left true false end (drop len text) in
      ap (λ x. tokens_known infer (known true end x)) (left-found false end text (word w) len fits is)
      ∙ word-then (end - length text) (token_of_word infer w) (tokens_outside infer following.lexemes None) following.ending

  pub outside-open : (w : List ℕ) (len : ℕ) → lexeme_outside text ≡ found (word w) len → length text ≤ len → outside false infer end text ≡ record { tokens = []; ending = begins (end - length text) }
  outside-open w len is ends =
      ap (λ x. tokens_known infer (known false end x))
      (left-found false end text (word w) len fits is
      ∙ ap (λ t. and_lexeme (end - length text) (word w) (lexemes_left false end t)) (drop_all len text ends)
      ∙ ap (λ x. and_lexeme (end - length text) (word w) x) (none-left end))

  pub outside-bad : (k : ℕ) → lexeme_outside text ≡ bad k → outside whole infer end text ≡ record { tokens = []; ending = ending whole end (Some (end - length text + k)) }
  outside-bad k is = ap (tokens_known infer) (left-bad whole false end text k is)

  pub inside-quote : (len : ℕ) → lexeme_inside text ≡ found quote len → (pieces whole end text ≡ []) × (inside whole infer end text ≡ outside whole infer end (drop len text))
  inside-quote len is =
      let step = left-step whole true end text quote len fits is refl in
      (ap (λ (x : Settled). pieces_in x.lexemes) step, ap (tokens_known_inside infer) step)

  pub inside-piece : (p : Piece) (len : ℕ) → lexeme_inside text ≡ found (piece p) len → (pieces whole end text ≡ p ∷ pieces whole end (drop len text)) × (inside whole infer end text ≡ inside whole infer end (drop len text))
  inside-piece p len is =
      let step = left-step whole true end text (piece p) len fits is refl in
      (ap (λ (x : Settled). pieces_in x.lexemes) step, ap (tokens_known_inside infer) step)

  pub inside-stops : (following : Ending) → left whole true end text ≡ record { lexemes = []; ending = following } → (pieces whole end text ≡ []) × (inside whole infer end text ≡ record { tokens = []; ending = following })
  inside-stops following is = (ap (λ (x : Settled). pieces_in x.lexemes) is, ap (tokens_known_inside infer) is)
