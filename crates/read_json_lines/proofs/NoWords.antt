-- A word where none is allowed is a fault at its first byte, whatever the word is.
use Rattle.std.proofs.Common.{◌≡◌, ℕ, ◌-◌, ◌<◌, ◌≤◌, Bool, true, false, not, cond, List, [], ◌∷◌, length, drop, Option, Some, None, inl, inr, refl, ap, sym, ◌∙◌, arith}
use Rattle.std.proofs.lemmas.Bool.{true≢false, cases_Bool, cases_lt}
use Rattle.std.proofs.lemmas.List.{length-drop}
use Rattle.mlr_spec.specs.declared.infer.InferOpts.{InferOpts}
use Rattle.mlr_spec.specs.Tree.{Tree}
use Rattle.mlr_spec.specs.JsonTokens.{Token, word, found, lexeme_outside, word_token, word_value, token_of_word}
use Rattle.mlr_json.specs.declared.frame.Frame.{Frame}
use Rattle.mlr_json.specs.declared.frame.Phase.{Phase}
use Rattle.mlr_json.specs.Machine.{step, takes_value, with_value, wrong}
use Rattle.mlr_json.specs.Steps.{is_within}
use Rattle.mlr_event.specs.declared.names.FileRef.{FileRef}
use Rattle.mlr_event.specs.Reading as reading
use Rattle.mlr_event.specs.Reading.{Item, fields}
use Rattle.read_json_lines.specs.declared.listing.Listing.{Listing}
use Rattle.read_json_lines.specs.declared.listing.Trouble.TheVariants.{Syntax, Kind}
use Rattle.read_json_lines.specs.Records as records
use Rattle.read_json_lines.specs.Records.{State, goes, gives, fails, turn, turn_between, value_turn, is_after, takes_word, fault_of, items_of}
use Rattle.read_json_lines.specs.Json.{Known, items_in}
use Rattle.read_json_lines.specs.Streams.{or_stop, outside}
use Rattle.read_json_lines.proofs.Outside.{outside-word, outside-last, outside-open}

no-step : (list : Listing) (frames : List Frame) (at : Phase) (value : Tree) → takes_value at ≡ false → value_turn list (step frames at (word_token value)) ≡ fails Syntax
unfolding step
no-step list frames at value none = ap (λ b. value_turn list (cond b (with_value value frames) wrong)) none

following-only : (b : Bool) → not b ≡ false → fails (cond b Syntax Kind) ≡ fails Syntax
following-only true none = refl
following-only false none = absurd (true≢false none)

word-fails : (s : State) (value : Tree) → takes_word s ≡ false → turn s (word_token value) ≡ fails Syntax
word-fails s value none = elim (cases_Bool (is_within s.frames)) [
  | inl within ↦ ap turned within ∙ no-step s.list s.frames s.phase value (sym (ap takes within) ∙ none)
  | inr between ↦ ap turned between ∙ following-only (is_after s.list) (sym (ap takes between) ∙ none)
]
  where
    turned : Bool → records.Turn
    turned within = cond within (value_turn s.list (step s.frames s.phase (word_token value))) (turn_between s (word_token value))

    takes : Bool → Bool
    takes within = cond within (takes_value s.phase) (not (is_after s.list))

module _ (file : FileRef) (s : State) (none : takes_word s ≡ false) where
  abbrev fault_at : ℕ → List Item
  fault_at place = reading.fault (fault_of file Syntax place) ∷ []

  stopped-or-not : (place : ℕ) (infer : InferOpts) (w : List ℕ) (rest : Known) → items_in file s (or_stop place (token_of_word infer w) rest) ≡ fault_at place
  stopped-or-not place infer w rest = by (word_value infer w)
    where
      by_turn : records.Turn → List Item
      by_turn t = elim t [
        | goes next ↦ items_of file next rest.tokens rest.ending
        | gives pairs next ↦ fields pairs ∷ items_of file next rest.tokens rest.ending
        | fails trouble ↦ reading.fault (fault_of file trouble place) ∷ []
      ]

      by : (value : Option Tree) → items_in file s (or_stop place (elim value as (λ _. Option Token) [ Some v ↦ Some (word_token v) | None ↦ None ]) rest) ≡ fault_at place
      by None = refl
      by (Some v) = ap by_turn (word-fails s v none)

  pub no-word : (whole : Bool) (infer : InferOpts) (end : ℕ) (text w : List ℕ) (len : ℕ) → length text ≤ end → lexeme_outside text ≡ found (word w) len
      → items_in file s (outside whole infer end text) ≡ fault_at (end - length text)
  no-word true infer end text w len fits is = ap (items_in file s) (outside-last true infer end text fits w len is) ∙ stopped-or-not (end - length text) infer w (outside true infer end (drop len text))
  no-word false infer end text w len fits is = elim (cases_lt len (length text)) [
    | inl below ↦
        let some : 0 < length (drop len text) = omega (arith, length-drop len text, below) in
        ap (items_in file s) (outside-word false infer end text fits w len is some) ∙ stopped-or-not (end - length text) infer w (outside false infer end (drop len text))
    | inr ends ↦ ap (items_in file s) (outside-open false infer end text fits w len is ends) ∙ ap (λ b. cond b [] (fault_at (end - length text))) none
  ]
