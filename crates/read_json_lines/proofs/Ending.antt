-- The end of a file.
use Rattle.std.proofs.Common.{◌≡◌, ℕ, ◌+◌, ◌-◌, ◌<◌, ◌≤◌, true, false, cond, ◌==◌, inl, inr, ◌||◌, List, [], ◌∷◌, ◌++◌, length, Option, Some, None, ap, ap₂, refl, sym, ◌∙◌, arith, append_assoc, is_some}
use Rattle.std.proofs.lemmas.Bool.{true≢false, cases_lt, eq-eqb}
use Rattle.std.proofs.lemmas.List.{append-nil, drop_all}
use Rattle.mlr_spec.specs.JsonTokens.{text_token, token_of_word}
use Rattle.mlr_event.specs.declared.event.Event.{Event}
use Rattle.mlr_event.specs.declared.names.FileRef.{FileRef}
use Rattle.mlr_event.specs.Reading as reading
use Rattle.mlr_event.specs.Reading.{events_of, ctx_after}
use Rattle.mlr_event.specs.Stream.{has_fault, events_after, ctx_after_events}
use Rattle.mlr_event.proofs.Streams.{events_of-append, ctx_after-append, has_fault-append}
use Rattle.read_json_lines.specs.declared.listing.Trouble.TheVariants.{Syntax}
use Rattle.read_json_lines.specs.declared.stream.Stream.{Stream}
use Rattle.read_json_lines.specs.declared.strings.OpenText.{OpenText}
use Rattle.read_json_lines.specs.Records as records
use Rattle.read_json_lines.specs.Records.{State, goes, gives, fails, turn, stops, items_of, is_at_rest, end_items, ends, fault_of}
use Rattle.read_json_lines.specs.Json.{Settled, items_in, tokens_known}
use Rattle.read_json_lines.specs.Turns.{state_of, IsOn}
use Rattle.read_json_lines.specs.Streams.{and_token, or_stop, outside, future, rest_items, items_at, tokens_of, text_tokens, text_after, FitsText, IsFit, Takes, Appends, HasPut}
use Rattle.read_json_lines.proofs.Lexing.{left-begun, nothing-between}
use Rattle.read_json_lines.proofs.Outside.{inside-stops, outside-last}
use Rattle.read_json_lines.proofs.Taking.{all-following, nothing-following}
use Rattle.read_json_lines.proofs.Turning.{future-outside, future-begun, begun-word}

-- the end of the file, if no string is open and no word has begun
pub future-end : (s : Stream) → s.stopped ≡ false → is_some s.text ≡ false → s.begun.items ≡ [] → future s true [] ≡ end_items s.file (state_of s.record_state) (ends (s.place + 0))
future-end s running no_text none =
    future-outside s true [] no_text none
    ∙ all-following s (outside true s.infer (s.place + 0) []) running
    ∙ ap (λ (x : Settled). items_in s.file (state_of s.record_state) (tokens_known s.infer x)) (left-begun true false (s.place + 0) [] nothing-between)

pub ended-rest : (s : Stream) (before : List Event) → is_some s.text ≡ false → s.begun.items ≡ [] → s.stopped ≡ false → is_at_rest (state_of s.record_state) ≡ true → Appends s s before before (future s true [])
ended-rest s before no_text none running rest =
    let is : future s true [] ≡ [] = future-end s running no_text none ∙ ap (λ b. cond b [] (reading.fault (fault_of s.file Syntax (s.place + 0)) ∷ [])) rest in
    record {
      events = sym (append-nil before) ∙ ap (λ m. before ++ events_of s.at m) (sym is);
      at = ap (ctx_after s.at) (sym is);
      stopped = running ∙ ap has_fault (sym is);
    }

pub ended-cut : (s new : Stream) (before after : List Event) → is_some s.text ≡ false → s.begun.items ≡ [] → s.stopped ≡ false → is_at_rest (state_of s.record_state) ≡ false
    → HasPut s new before after (reading.fault (fault_of s.file Syntax s.place) ∷ []) → Appends s new before after (future s true [])
ended-cut s new before after no_text none running busy put =
    let same : s.place + 0 ≡ s.place = omega arith in
    let is : future s true [] ≡ reading.fault (fault_of s.file Syntax s.place) ∷ [] =
    future-end s running no_text none ∙ ap (λ b. cond b [] (reading.fault (fault_of s.file Syntax (s.place + 0)) ∷ [])) busy ∙ ap (λ p. reading.fault (fault_of s.file Syntax p) ∷ []) same in
    record {
      events = put.appends.events ∙ ap (λ m. before ++ events_of s.at m) (sym is);
      at = put.appends.at ∙ ap (ctx_after s.at) (sym is);
      stopped = put.appends.stopped ∙ ap has_fault (sym is);
    }

-- a string that is allowed, cut by the end of the file
text-cut : (file : FileRef) (s : State) (place there : ℕ) (text : List ℕ) → IsOn (turn s (text_token text))
    → items_in file s (and_token there (text_token text) (record { tokens = []; ending = stops place })) ≡ reading.fault (fault_of file Syntax place) ∷ []
text-cut file s place there text on = by (turn s (text_token text)) on
  where
    by : (t : records.Turn) → IsOn t → (elim t [
      | goes next ↦ items_of file next [] (stops place)
      | gives pairs next ↦ reading.fields pairs ∷ items_of file next [] (stops place)
      | fails trouble ↦ reading.fault (fault_of file trouble there) ∷ []
    ]) ≡ reading.fault (fault_of file Syntax place) ∷ []
    by (goes next) on = refl
    by (gives pairs next) on = absurd on
    by (fails trouble) on = absurd on

-- the end of the file within a string that is allowed
pub ended-open : (s new : Stream) (before after : List Event) → is_some s.text ≡ true → s.stopped ≡ false → IsFit s
    → HasPut s new before after (reading.fault (fault_of s.file Syntax (s.place + length s.begun.items)) ∷ []) → Appends s new before after (future s true [])
ended-open s new before after some running fit put =
    let b = s.begun.items in
    let end = s.place + length b in
    let cut : future s true [] ≡ reading.fault (fault_of s.file Syntax end) ∷ [] =
    ap (λ t. items_at s true (s.place + length t) t) (append-nil b)
    ∙ all-following s (tokens_of true s.infer s.text end b) running
    ∙ by s.text some (fit running) in
    record {
      events = put.appends.events ∙ ap (λ m. before ++ events_of s.at m) (sym cut);
      at = put.appends.at ∙ ap (ctx_after s.at) (sym cut);
      stopped = put.appends.stopped ∙ ap has_fault (sym cut);
    }
  where
    by : (o : Option OpenText) → is_some o ≡ true → FitsText o (state_of s.record_state) s.begun.items
        → items_in s.file (state_of s.record_state) (tokens_of true s.infer o (s.place + length s.begun.items) s.begun.items)
        ≡ reading.fault (fault_of s.file Syntax (s.place + length s.begun.items)) ∷ []
    by None is fits = absurd (true≢false (sym is))
    by (Some t) is fits =
        let b = s.begun.items in
        let end = s.place + length b in
        let here : end - length b + length b ≡ end = omega arith in
        let small : length b ≤ end = omega arith in
        let ended = inside-stops true s.infer end b small (stops end) (left-begun true true end b fits.0 ∙ ap (λ p. record { lexemes = []; ending = stops p }) here) in
        ap₂ (λ q x. items_in s.file (state_of s.record_state) (text_tokens (Some t) q x)) ended.0 ended.1
        ∙ text-cut s.file (state_of s.record_state) end t.place (text_after t.builder []) (fits.1 (text_after t.builder []))

-- the last word of the file
module _ (old new : Stream) (before after : List Event) (running : old.stopped ≡ false) (no_text : is_some old.text ≡ false) (some : 0 < length old.begun.items) (fit : IsFit old)
    (same : new ≡ record old { place = old.place + length old.begun.items; begun = new.begun; record_state = new.record_state; at = new.at; stopped = new.stopped }) (none : new.begun.items ≡ [])
    (takes : Takes old new before after (λ rest. or_stop old.place (token_of_word old.infer old.begun.items) rest)) where
  last-word : future old true [] ≡ takes.more ++ future new true []
  last-word =
      let w = old.begun.items in
      let end = old.place + length w in
      let place : new.place ≡ old.place + length w = ap (λ (s : Stream). s.place) same in
      let begins : end - length w ≡ old.place = omega arith in
      let small : length w ≤ end = omega arith in
      let end_is : end ≡ new.place + 0 = omega (arith, place) in
      future-begun old true [] no_text
      ∙ ap (λ t. rest_items old (outside true old.infer (old.place + length t) t)) (append-nil w)
      ∙ all-following old (outside true old.infer end w) running
      ∙ ap (items_in old.file (state_of old.record_state))
      (outside-last true old.infer end w small w (length w) (begun-word old running no_text some fit).0
      ∙ ap₂ (λ p t. or_stop p (token_of_word old.infer w) (outside true old.infer end t)) begins (drop_all (length w) w (omega arith)))
      ∙ takes.items (outside true old.infer end [])
      ∙ ap (λ i. takes.more ++ rest_items new (outside true i end [])) (sym (ap (λ (s : Stream). s.infer) same))
      ∙ ap (λ e. takes.more ++ rest_items new (outside true new.infer e [])) end_is
      ∙ ap (λ x. takes.more ++ x) (sym (future-outside new true [] (ap (λ (s : Stream). is_some s.text) same ∙ no_text) none))

  pub ended-word : new.stopped ≡ true → Appends old new before after (future old true [])
  ended-word stopped =
      let is : takes.more ≡ future old true [] = sym (last-word ∙ ap (λ x. takes.more ++ x) (nothing-following new _ stopped) ∙ append-nil takes.more) in
      record {
        events = takes.appends.events ∙ ap (λ m. before ++ events_of old.at m) is;
        at = takes.appends.at ∙ ap (ctx_after old.at) is;
        stopped = takes.appends.stopped ∙ ap has_fault is;
      }

  pub ended-following : (last : Stream) (end : List Event) → new.stopped ≡ false → Appends new last after end (future new true []) → Appends old last before end (future old true [])
  ended-following last end runs rest =
      let m = takes.more in
      let more = future new true [] in
      let goes : has_fault m ≡ false = sym takes.appends.stopped ∙ runs in
      let is : m ++ more ≡ future old true [] = sym last-word in
      record {
        events = rest.events ∙ ap (λ e. e ++ events_of new.at more) takes.appends.events ∙ append_assoc before (events_of old.at m) (events_of new.at more)
            ∙ ap (λ a. before ++ (events_of old.at m ++ events_of a more)) takes.appends.at
            ∙ ap (λ e. before ++ e) (sym (events_of-append old.at m more ∙ ap (λ b. events_of old.at m ++ events_after b (ctx_after old.at m) more) goes))
            ∙ ap (λ x. before ++ events_of old.at x) is;
        at = rest.at ∙ ap (λ a. ctx_after a more) takes.appends.at
            ∙ sym (ctx_after-append old.at m more ∙ ap (λ b. ctx_after_events b (ctx_after old.at m) more) goes) ∙ ap (ctx_after old.at) is;
        stopped = rest.stopped ∙ sym (has_fault-append m more ∙ ap (λ b. b || has_fault more) goes) ∙ ap has_fault is;
      }

pub some-there : (n : ℕ) → (n == 0) ≡ false → 0 < n
some-there n is = elim (cases_lt 0 n) [
  | inl some ↦ some
  | inr none ↦ absurd (true≢false (sym (eq-eqb n 0 (omega (arith, none))) ∙ is))
]
