-- What the first bytes of a file fix stays the same whatever bytes follow.
use Rattle.std.proofs.Common.{◌≡◌, ℕ, ◌+◌, ◌-◌, ◌≤◌, true, false, cond, List, [], ◌∷◌, length, Option, Some, None, inl, inr, refl, ap, ap₂, ◌∙◌, arith}
use Rattle.std.proofs.lemmas.Bool.{cases_Bool, le-ltb}
use Rattle.std.proofs.lemmas.List.{append-nil}
use Rattle.mlr_spec.specs.JsonTokens.{text_token}
use Rattle.mlr_spec.specs.declared.infer.InferOpts.{InferOpts}
use Rattle.mlr_event.specs.declared.names.FileRef.{FileRef}
use Rattle.read_json_lines.specs.declared.listing.Trouble.TheVariants.{Syntax}
use Rattle.mlr_event.specs.Reading as reading
use Rattle.mlr_event.specs.Reading.{Item}
use Rattle.read_json_lines.specs.declared.stream.Stream.{Stream}
use Rattle.read_json_lines.specs.declared.strings.OpenText.{OpenText}
use Rattle.read_json_lines.specs.Records as records
use Rattle.read_json_lines.specs.Records.{State, goes, gives, fails, turn, goes_on, stops, fault_of, items_of}
use Rattle.read_json_lines.specs.Json.{ending, items_in, tokens_known}
use Rattle.read_json_lines.specs.Turns.{state_of, IsOn}
use Rattle.read_json_lines.specs.Streams.{and_token, outside, future, items_at, tokens_of, text_tokens, text_after, FitsText, IsFit}
use Rattle.read_json_lines.proofs.Lexing.{left-begun, stopped_at, nothing-between}
use Rattle.read_json_lines.proofs.Outside.{inside-stops, outside-open}
use Rattle.read_json_lines.proofs.Taking.{all-following, nothing-following}

-- a string that continues after the bytes so far
pub goes-following : (file : FileRef) (s : State) (end there : ℕ) (text : List ℕ) → IsOn (turn s (text_token text))
    → items_in file s (and_token there (text_token text) (record { tokens = []; ending = ending false end (Some end) })) ≡ []
goes-following file s end there text on =
    ap (λ e. items_of file s ((there, text_token text) ∷ []) e) (ap (λ b. cond b (stops end) goes_on) (le-ltb end end (omega arith))) ∙ by (turn s (text_token text)) on
  where
    by : (t : records.Turn) → IsOn t → (elim t as (λ _. List Item) [
      | goes next ↦ items_of file next [] goes_on
      | gives pairs next ↦ reading.fields pairs ∷ items_of file next [] goes_on
      | fails trouble ↦ reading.fault (fault_of file trouble there) ∷ []
    ]) ≡ []
    by (goes next) on = refl
    by (gives pairs next) on = absurd on
    by (fails trouble) on = absurd on

-- an allowed word at the end of the bytes so far gives no items yet
pub begun-outside : (file : FileRef) (s : State) (infer : InferOpts) (end : ℕ) (bytes : List ℕ) → length bytes ≤ end → FitsText None s bytes → items_in file s (outside false infer end bytes) ≡ []
begun-outside file s infer end bytes small (inl none) = ap (λ t. items_in file s (outside false infer end t)) none ∙ ap (λ x. items_in file s (tokens_known infer x)) (left-begun false false end [] nothing-between)
begun-outside file s infer end bytes small (inr fits) =
    ap (items_in file s) (outside-open false infer end bytes small bytes (length bytes) fits.0 (omega arith))
    ∙ ap (λ b. cond b [] (reading.fault (fault_of file Syntax (end - length bytes)) ∷ [])) fits.1

-- a stream gives no items for no bytes
pub future-nothing : (s : Stream) → IsFit s → future s false [] ≡ []
future-nothing s fit =
    let b = s.begun.items in
    let end = s.place + length b in
    ap (λ t. items_at s false (s.place + length t) t) (append-nil b)
    ∙ elim (cases_Bool s.stopped) [
      | inl stopped ↦ nothing-following s (tokens_of false s.infer s.text end b) stopped
      | inr running ↦ all-following s (tokens_of false s.infer s.text end b) running ∙ by s.text (fit running)
    ]
  where
    by : (o : Option OpenText) → FitsText o (state_of s.record_state) s.begun.items
        → items_in s.file (state_of s.record_state) (tokens_of false s.infer o (s.place + length s.begun.items) s.begun.items) ≡ []
    by None fits =
        begun-outside s.file (state_of s.record_state) s.infer (s.place + length s.begun.items) s.begun.items (omega arith) fits
    by (Some t) fits =
        let b = s.begun.items in
        let end = s.place + length b in
        let here : end - length b + length b ≡ end = omega arith in
        let small : length b ≤ end = omega arith in
        let ended = inside-stops false s.infer end b small (ending false end (Some end)) (left-begun false true end b fits.0 ∙ ap (λ p. stopped_at false end (Some p)) here) in
        ap₂ (λ q x. items_in s.file (state_of s.record_state) (text_tokens (Some t) q x)) ended.0 ended.1
        ∙ goes-following s.file (state_of s.record_state) end t.place (text_after t.builder []) (fits.1 (text_after t.builder []))
