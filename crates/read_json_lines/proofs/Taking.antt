-- The items of tokens, one after another.
use Rattle.std.proofs.Common.{◌≡◌, ℕ, true, false, cond, List, [], ◌∷◌, ◌++◌, Some, None, refl, ap, ap₂, sym, subst, ◌∙◌, arith}
use Rattle.std.proofs.lemmas.Bool.{true≢false}
use Rattle.std.proofs.lemmas.List.{append-nil}
use Rattle.mlr_spec.specs.JsonTokens.{Token, text_token, decoded}
use Rattle.mlr_json.specs.declared.string.StringBuilder.{StringBuilder}
use Rattle.mlr_json.specs.Decoding.{Holds}
use Rattle.read_json_lines.specs.declared.listing.Trouble.{Trouble}
use Rattle.read_json_lines.proofs.Builder.{nothing-held}
use Rattle.mlr_event.specs.declared.event.Event.{Event}
use Rattle.mlr_event.specs.declared.names.FileRef.{FileRef}
use Rattle.mlr_event.specs.Reading.{Item, fields}
use Rattle.mlr_event.specs.Reading as reading
use Rattle.mlr_event.specs.Stream.{has_fault}
use Rattle.read_json_lines.specs.declared.record_state.RecordState.{RecordState}
use Rattle.read_json_lines.specs.declared.record_state.Turn.{Turn}
use Rattle.read_json_lines.specs.declared.record_state.Turn.TheVariants.{On, Record, Fault}
use Rattle.read_json_lines.specs.declared.stream.Stream.{Stream}
use Rattle.read_json_lines.specs.Records as records
use Rattle.read_json_lines.specs.Records.{State, Ending, goes, gives, fails, turn, fault_of, items_of}
use Rattle.read_json_lines.specs.Json.{Known, items_in}
use Rattle.read_json_lines.specs.Turns.{state_of, IsTurn, RefusesText}
use Rattle.read_json_lines.specs.Streams.{and_token, Takes, Appends, Counts, HasPut, Opens, rest_items, turn_items, text_tokens, text_after}

module _ (file : FileRef) (next : State) (place : ℕ) (tokens : List (ℕ × Token)) (e : Ending) where
  abbrev by : records.Turn → List Item
  by t = elim t [
    | goes next ↦ items_of file next tokens e
    | gives pairs next ↦ fields pairs ∷ items_of file next tokens e
    | fails trouble ↦ reading.fault (fault_of file trouble place) ∷ []
  ]

  turned : (t : records.Turn) (made : Turn) → IsTurn t made next
      → by t ≡ turn_items file made place ++ cond (has_fault (turn_items file made place)) [] (items_of file next tokens e)
  turned (goes s) On is = ap (λ x. items_of file x tokens e) (sym is)
  turned (goes s) (Record pairs) is = absurd is
  turned (goes s) (Fault trouble) is = absurd is
  turned (gives pairs s) On is = absurd is
  turned (gives pairs s) (Record made) is = ap₂ (λ p x. fields p ∷ items_of file x tokens e) (sym is.0) (sym is.1)
  turned (gives pairs s) (Fault trouble) is = absurd is
  turned (fails trouble) On is = absurd is
  turned (fails trouble) (Record pairs) is = absurd is
  turned (fails trouble) (Fault seen) is = ap (λ t. reading.fault (fault_of file t place) ∷ []) (sym is)

  pub token-taken : (s : State) (token : Token) (made : Turn) → IsTurn (turn s token) made next
      → items_of file s ((place, token) ∷ tokens) e ≡ turn_items file made place ++ cond (has_fault (turn_items file made place)) [] (items_of file next tokens e)
  token-taken s token made is = turned (turn s token) made is

-- one token was read, and its items were appended
pub takes-token : (old new : Stream) (before after : List Event) (place : ℕ) (token : Token) (made : Turn)
    → IsTurn (turn (state_of old.record_state) token) made (state_of new.record_state) → new.file ≡ old.file
    → Appends old new before after (turn_items old.file made place) → Counts old new
    → Takes old new before after (λ rest. and_token place token rest)
takes-token old new before after place token made is file appends counts = record {
  more = turn_items old.file made place;
  appends = appends;
  counts = counts;
  items = λ rest.
      token-taken old.file (state_of new.record_state) place rest.tokens rest.ending (state_of old.record_state) token made is
      ∙ ap₂ (λ stop f. turn_items old.file made place ++ cond stop [] (items_in f (state_of new.record_state) rest)) (sym appends.stopped) (sym file);
}

-- the same, from the state after the token and what was put of its outcome
pub takes-put : (old new : Stream) (state : RecordState) (before after : List Event) (place : ℕ) (token : Token) (made : Turn)
    → IsTurn (turn (state_of old.record_state) token) made (state_of state) → HasPut (record old { record_state = state }) new before after (turn_items old.file made place)
    → Takes old new before after (λ rest. and_token place token rest)
takes-put old new state before after place token made is put =
    takes-token old new before after place token made
    (subst (IsTurn (turn (state_of old.record_state) token) made) (ap (λ (s : Stream). state_of s.record_state) (sym put.same)) is)
    (ap (λ (s : Stream). s.file) put.same)
    (record { events = put.appends.events; at = put.appends.at; stopped = put.appends.stopped })
    (record { nr = put.counts.nr; fnr = put.counts.fnr })

-- after a fault there are no items
pub nothing-following : (s : Stream) (rest : Known) → s.stopped ≡ true → rest_items s rest ≡ []
nothing-following s rest is = ap (λ b. cond b [] (items_in s.file (state_of s.record_state) rest)) is

pub all-following : (s : Stream) (rest : Known) → s.stopped ≡ false → rest_items s rest ≡ items_in s.file (state_of s.record_state) rest
all-following s rest running = ap (λ b. cond b [] (items_in s.file (state_of s.record_state) rest)) running

-- an opening quote that isn't allowed, and one that is
pub opens-refused : (old new : Stream) (before after : List Event) (trouble : Trouble) → RefusesText (state_of old.record_state) (Some trouble)
    → HasPut old new before after (reading.fault (fault_of old.file trouble old.place) ∷ []) → Opens old new before after
opens-refused old new before after trouble refused put = record {
  more = reading.fault (fault_of old.file trouble old.place) ∷ [];
  appends = record { events = put.appends.events; at = put.appends.at; stopped = put.appends.stopped };
  counts = record { nr = put.counts.nr; fnr = put.counts.fnr };
  items = λ pieces rest.
      token-taken old.file (state_of old.record_state) old.place rest.tokens rest.ending (state_of old.record_state) (text_token (decoded pieces)) (Fault trouble)
      (subst (λ t. IsTurn t (Fault trouble) (state_of old.record_state)) (sym (refused (decoded pieces))) refl)
      ∙ ap (λ x. reading.fault (fault_of old.file trouble old.place) ∷ x) (sym (nothing-following new (text_tokens new.text pieces rest) put.appends.stopped));
  is_open = λ running. absurd (true≢false (sym put.appends.stopped ∙ running));
}

pub opens-taken : (old : Stream) (builder : StringBuilder) (before : List Event) → old.stopped ≡ false → Holds builder [] → RefusesText (state_of old.record_state) None
    → Opens old (record old { text = Some (record { builder = builder; place = old.place }) }) before before
opens-taken old builder before running holds takes = record {
  more = [];
  appends = record { events = sym (append-nil before); at = refl; stopped = running };
  counts = record { nr = omega arith; fnr = omega arith };
  items = λ pieces rest.
      ap (λ t. items_in old.file (state_of old.record_state) (and_token old.place (text_token t) rest)) (sym (nothing-held builder holds pieces))
      ∙ sym (all-following (record old { text = Some (record { builder = builder; place = old.place }) }) (and_token old.place (text_token (text_after builder pieces)) rest) running);
  is_open = λ _. takes;
}
