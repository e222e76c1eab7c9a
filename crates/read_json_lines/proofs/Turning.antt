-- A step of the stream, in terms of the items of all bytes that follow.
use Rattle.std.proofs.Common.{◌≡◌, ℕ, ◌+◌, ◌-◌, ◌<◌, ◌≤◌, Bool, true, false, ◌||◌, List, [], ◌∷◌, ◌++◌, length, take, drop, Option, Some, None, ◌⊎◌, inl, inr, refl, ap, ap₂, sym, subst, ◌∙◌, arith, append_assoc, is_some}
use Rattle.std.proofs.lemmas.Bool.{true≢false, cases_Bool}
use Rattle.std.proofs.lemmas.List.{append-nil, length-append}
use Rattle.std.proofs.lemmas.List.{length-drop, drop-append-le}
use Rattle.std.proofs.lemmas.List.Sums.{prefix_len-le-length}
use Rattle.std.proofs.Math.Seq.{take-length}
use Rattle.mlr_spec.specs.JsonTokens.{Lexeme, Piece, piece, token_of_word, is_blank, is_word_byte, word, mark, blank, quote, found, begun, bad, lexeme_outside, lexeme_inside, sign, text_token, decoded}
use Rattle.mlr_spec.specs.declared.json.JsonMark.{JsonMark}
use Rattle.mlr_json.specs.Reading.{is_of_string}
use Rattle.mlr_json.proofs.Blanks.{blank-lexeme}
use Rattle.mlr_json.proofs.Stable.{stays-found}
use Rattle.mlr_event.specs.declared.names.FileRef.{FileRef}
use Rattle.mlr_event.specs.Reading as reading
use Rattle.read_json_lines.specs.declared.listing.Trouble.TheVariants.{Syntax}
use Rattle.read_json_lines.specs.Records as records
use Rattle.read_json_lines.specs.Records.{goes, gives, fails, turn, takes_word, State, stops, fault_of, end_items, items_of}
use Rattle.read_json_lines.proofs.Outside.{inside-stops, inside-quote, outside-word, outside-mark, outside-quote, outside-bad}
use Rattle.read_json_lines.proofs.Blanks.{outside-blank, outside-bad-stays}
use Rattle.std.specs.List.{prefix_len, take_while}
use Rattle.read_json_lines.proofs.Begun.{word-ended}
use Rattle.read_json_lines.proofs.Raws.{string-piece, inside-bad-stays}
use Rattle.read_json_lines.proofs.Lexing.{left-bad, stopped_at, ending-stops, nothing-inside}
use Rattle.read_json_lines.proofs.NoWords.{no-word}
use Rattle.read_json_lines.proofs.WordPrefixes.{word-taken, word-still}
use Rattle.mlr_event.specs.declared.event.Event.{Event}
use Rattle.mlr_event.specs.Reading.{events_of, ctx_after}
use Rattle.mlr_event.proofs.Streams.{events_of-append, ctx_after-append, has_fault-append}
use Rattle.mlr_event.specs.Stream.{has_fault, events_after, ctx_after_events}
use Rattle.read_json_lines.specs.declared.stream.Stream.{Stream}
use Rattle.read_json_lines.specs.declared.strings.OpenText.{OpenText}
use Rattle.read_json_lines.specs.Json.{Known, ending, items_in}
use Rattle.read_json_lines.specs.Turns.{state_of, IsOn}
use Rattle.read_json_lines.specs.Streams.{and_token, or_stop, outside, inside, pieces, text_tokens, text_after, tokens_of, IsOpen, Opens, Pushes, is_quote, HasPut, future, items_at, rest_items, IsFit, FitsText, Takes, Turned}
use Rattle.read_json_lines.proofs.Taking.{all-following, nothing-following}

-- outside strings, with no word begun
pub no-text : (o : Option OpenText) → is_some o ≡ false → o ≡ None
no-text None none = refl
no-text (Some t) none = absurd (true≢false none)

pub future-outside : (s : Stream) (whole : Bool) (rest : List ℕ) → is_some s.text ≡ false → s.begun.items ≡ []
    → future s whole rest ≡ rest_items s (outside whole s.infer (s.place + length rest) rest)
future-outside s whole rest text none =
    ap (λ b. rest_items s (tokens_of whole s.infer s.text (s.place + length (b ++ rest)) (b ++ rest))) none
    ∙ ap (λ o. rest_items s (tokens_of whole s.infer o (s.place + length rest) rest)) (no-text s.text text)

pub fit-outside : (s : Stream) → is_some s.text ≡ false → s.begun.items ≡ [] → IsFit s
fit-outside s text none = λ _. subst (λ o. FitsText o (state_of s.record_state) s.begun.items) (sym (no-text s.text text)) (inl none)

pub drop-prefix : (len : ℕ) (text bytes : List ℕ) → len ≤ length text → drop len (text ++ bytes) ≡ drop len text ++ bytes
drop-prefix len text bytes fits = drop-append-le len text bytes fits

-- a step that reads tokens outside strings
module _ (old mid : Stream) (before after : List Event) (text : List ℕ) (len : ℕ) (tokens : Known → Known) where
  pub turned-outside : old.stopped ≡ false → is_some old.text ≡ false → old.begun.items ≡ []
      → mid ≡ record old { record_state = mid.record_state; at = mid.at; stopped = mid.stopped }
      → 0 < length text → len ≤ length text
      → Takes old mid before after tokens
      → ((whole : Bool) (end : ℕ) (bytes : List ℕ) → length (text ++ bytes) ≤ end → end - length (text ++ bytes) ≡ old.place → outside whole old.infer end (text ++ bytes) ≡ tokens (outside whole old.infer end (drop len text ++ bytes)))
      → Turned old (record mid { place = mid.place + len }) text (drop len text) before after
  turned-outside running no_text none same some fits takes steps = record {
    more = takes.more;
    appends = record { events = takes.appends.events; at = takes.appends.at; stopped = takes.appends.stopped };
    items = λ whole bytes.
        let end = old.place + length (text ++ bytes) in
        let rest = drop len text ++ bytes in
        let many : length (text ++ bytes) ≡ length text + length bytes = length-append text bytes in
        let left_is : length rest ≡ (length text - len) + length bytes = length-append (drop len text) bytes ∙ ap (λ n. n + length bytes) (length-drop len text) in
        let place : mid.place ≡ old.place = ap (λ (s : Stream). s.place) same in
        let ends : end ≡ mid.place + len + length rest = omega (arith, many, left_is, place, fits) in
        let begins : end - length (text ++ bytes) ≡ old.place = omega arith in
        let small : length (text ++ bytes) ≤ end = omega arith in
        future-outside old whole (text ++ bytes) no_text none
        ∙ all-following old (outside whole old.infer end (text ++ bytes)) running
        ∙ ap (items_in old.file (state_of old.record_state)) (steps whole end bytes small begins)
        ∙ takes.items (outside whole old.infer end rest)
        ∙ ap (λ i. takes.more ++ rest_items mid (outside whole i end rest)) (sym (ap (λ (s : Stream). s.infer) same))
        ∙ ap (λ e. takes.more ++ rest_items (record mid { place = mid.place + len }) (outside whole mid.infer e rest)) ends
        ∙ ap (λ x. takes.more ++ x) (sym (future-outside (record mid { place = mid.place + len }) whole rest
        (ap (λ (s : Stream). is_some s.text) same ∙ no_text) (ap (λ (s : Stream). s.begun.items) same ∙ none)));
    fit = fit-outside (record mid { place = mid.place + len }) (ap (λ (s : Stream). is_some s.text) same ∙ no_text) (ap (λ (s : Stream). s.begun.items) same ∙ none);
  }

-- the bytes that have begun are kept
pub turned-kept : (old new : Stream) (before : List Event) (text rest : List ℕ) → old.begun.items ++ text ≡ new.begun.items ++ rest → IsFit (record old { begun = new.begun })
    → old.stopped ≡ false → Turned old (record old { begun = new.begun }) text rest before before
turned-kept old new before text rest same fit running = record {
  more = [];
  appends = record { events = sym (append-nil before); at = refl; stopped = running };
  items = λ whole bytes.
      let all : old.begun.items ++ (text ++ bytes) ≡ new.begun.items ++ (rest ++ bytes) = sym (append_assoc old.begun.items text bytes) ∙ ap (λ t. t ++ bytes) same ∙ append_assoc new.begun.items rest bytes in
      ap (λ t. items_at old whole (old.place + length t) t) all;
  fit = fit;
}

drop-length : (text : List ℕ) → drop (length text) text ≡ []
drop-length [] = refl
drop-length (b ∷ text) = drop-length text

-- a word that has begun
pub fit-word : (old new : Stream) → is_some old.text ≡ false → takes_word (state_of old.record_state) ≡ true → lexeme_outside new.begun.items ≡ found (word new.begun.items) (length new.begun.items) → IsFit (record old { begun = new.begun })
fit-word old new text takes is = λ _. subst (λ o. FitsText o (state_of old.record_state) new.begun.items) (sym (no-text old.text text)) (inr (is, takes))

-- a word that is all of the text
pub turned-word : (old new : Stream) (before : List Event) (text w rest : List ℕ) (len : ℕ) → old.stopped ≡ false → is_some old.text ≡ false → old.begun.items ≡ [] → takes_word (state_of old.record_state) ≡ true
    → lexeme_outside text ≡ found (word w) len → len ≡ length text → new.begun.items ≡ old.begun.items ++ w → rest ≡ drop len text
    → Turned old (record old { begun = new.begun }) text rest before before
turned-word old new before text w rest len running no_text none takes prefix whole items left_is =
    let all : w ≡ text = word-taken text w len prefix ∙ ap (λ n. take n text) whole ∙ take-length text in
    let begun_is : new.begun.items ≡ text = items ∙ ap (λ b. b ++ w) none ∙ all in
    let nothing : rest ≡ [] = left_is ∙ ap (λ n. drop n text) whole ∙ drop-length text in
    let same : old.begun.items ++ text ≡ new.begun.items ++ rest = ap (λ b. b ++ text) none ∙ sym (append-nil text) ∙ ap₂ (λ a b. a ++ b) (sym begun_is) (sym nothing) in
    let found_it : lexeme_outside new.begun.items ≡ found (word new.begun.items) (length new.begun.items) =
    ap lexeme_outside begun_is ∙ prefix ∙ ap₂ (λ x n. found (word x) n) (all ∙ sym begun_is) (whole ∙ ap length (sym begun_is)) in
    turned-kept old new before text rest same (fit-word old new no_text takes found_it) running

-- a word where none is allowed
pub turned-no-word : (old new : Stream) (before after : List Event) (text w rest : List ℕ) (len : ℕ) → old.stopped ≡ false → is_some old.text ≡ false → old.begun.items ≡ [] → takes_word (state_of old.record_state) ≡ false
    → lexeme_outside text ≡ found (word w) len → HasPut old new before after (reading.fault (fault_of old.file Syntax old.place) ∷ []) → Turned old new text rest before after
turned-no-word old new before after text w rest len running no_text none takes prefix put = record {
  more = reading.fault (fault_of old.file Syntax old.place) ∷ [];
  appends = record { events = put.appends.events; at = put.appends.at; stopped = put.appends.stopped };
  items = λ whole bytes.
      let all = text ++ bytes in
      let end = old.place + length all in
      let begins : end - length all ≡ old.place = omega arith in
      let small : length all ≤ end = omega arith in
      let nothing : future new whole (rest ++ bytes) ≡ [] = nothing-following new _ put.appends.stopped in
      future-outside old whole all no_text none
      ∙ all-following old (outside whole old.infer end all) running
      ∙ no-word old.file (state_of old.record_state) takes whole old.infer end all (take_while is_word_byte all) (prefix_len is_word_byte all) small (word-still text bytes w len prefix)
      ∙ ap (λ p. reading.fault (fault_of old.file Syntax p) ∷ []) begins
      ∙ ap (λ x. reading.fault (fault_of old.file Syntax old.place) ∷ x) (sym nothing);
  fit = λ runs. absurd (true≢false (sym put.appends.stopped ∙ runs));
}

-- blanks outside strings
takes-nothing : (old : Stream) (before : List Event) → old.stopped ≡ false → Takes old old before before (λ rest. rest)
takes-nothing old before running = record {
  more = [];
  appends = record { events = sym (append-nil before); at = refl; stopped = running };
  counts = record { nr = omega arith; fnr = omega arith };
  items = λ rest. sym (all-following old rest running);
}

module _ (old : Stream) (before : List Event) (text rest : List ℕ) (len : ℕ) (running : old.stopped ≡ false) (text_is : is_some old.text ≡ false) (none : old.begun.items ≡ [])
    (some : 0 < length text) (within : len ≤ length text) where
  pub turned-blank : lexeme_outside text ≡ found blank len → rest ≡ drop len text → Turned old (record old { place = old.place + len }) text rest before before
  turned-blank prefix left_is =
      subst (λ t. Turned old (record old { place = old.place + len }) text t before before) (sym left_is)
      (turned-outside old old before before text len (λ r. r) running text_is none refl some within (takes-nothing old before running)
      (λ whole end bytes fits place. outside-blank whole old.infer end text bytes len fits prefix))

  pub turned-mark : (mid : Stream) (after : List Event) (m : JsonMark) → mid ≡ record old { record_state = mid.record_state; at = mid.at; stopped = mid.stopped }
      → Takes old mid before after (λ r. and_token old.place (sign m) r) → lexeme_outside text ≡ found (mark m) len → rest ≡ drop len text
      → Turned old (record mid { place = mid.place + len }) text rest before after
  turned-mark mid after m same takes prefix left_is =
      subst (λ t. Turned old (record mid { place = mid.place + len }) text t before after) (sym left_is)
      (turned-outside old mid before after text len (λ r. and_token old.place (sign m) r) running text_is none same some within takes
      (λ whole end bytes fits place.
      outside-mark whole old.infer end (text ++ bytes) fits m len (stays-found false text bytes (mark m) len prefix (inl refl))
      ∙ ap (λ p. and_token p (sign m) (outside whole old.infer end (drop len (text ++ bytes)))) place
      ∙ ap (λ t. and_token old.place (sign m) (outside whole old.infer end t)) (drop-prefix len text bytes within)))

-- an opening quote
pub turned-quote : (old mid : Stream) (before after : List Event) (text rest : List ℕ) (len : ℕ) → old.stopped ≡ false → is_some old.text ≡ false → old.begun.items ≡ []
    → 0 < length text → len ≤ length text → mid ≡ record old { text = mid.text; stopped = mid.stopped } → Opens old mid before after → lexeme_outside text ≡ found quote len → rest ≡ drop len text
    → Turned old (record mid { place = mid.place + len }) text rest before after
turned-quote old mid before after text rest len running no_text none some within same opens prefix left_is = record {
  more = opens.more;
  appends = record { events = opens.appends.events; at = opens.appends.at; stopped = opens.appends.stopped };
  items = λ whole bytes.
      let end = old.place + length (text ++ bytes) in
      let following = drop len text ++ bytes in
      let new = record mid { place = mid.place + len } in
      let many : length (text ++ bytes) ≡ length text + length bytes = length-append text bytes in
      let left_len : length following ≡ (length text - len) + length bytes = length-append (drop len text) bytes ∙ ap (λ n. n + length bytes) (length-drop len text) in
      let place : mid.place ≡ old.place = ap (λ (s : Stream). s.place) same in
      let ends : end ≡ mid.place + len + length following = omega (arith, many, left_len, place, within) in
      let begins : end - length (text ++ bytes) ≡ old.place = omega arith in
      let small : length (text ++ bytes) ≤ end = omega arith in
      let begun_is : new.begun.items ≡ [] = ap (λ (s : Stream). s.begun.items) same ∙ none in
      let string : List ℕ → ℕ → Known = λ t p. and_token p (text_token (decoded (pieces whole end t))) (inside whole old.infer end t) in
      future-outside old whole (text ++ bytes) no_text none
      ∙ all-following old (outside whole old.infer end (text ++ bytes)) running
      ∙ ap (items_in old.file (state_of old.record_state))
      (outside-quote whole old.infer end (text ++ bytes) small len (stays-found false text bytes quote len prefix (inl refl))
      ∙ ap₂ string (drop-prefix len text bytes within) begins)
      ∙ opens.items (pieces whole end following) (inside whole old.infer end following)
      ∙ ap (λ i. opens.more ++ rest_items mid (text_tokens mid.text (pieces whole end following) (inside whole i end following))) (sym (ap (λ (s : Stream). s.infer) same))
      ∙ ap (λ x. opens.more ++ x) (string-following mid whole end following opens.is_open)
      ∙ ap (λ e. opens.more ++ items_at new whole e following) ends
      ∙ ap (λ b. opens.more ++ items_at new whole (new.place + length (b ++ following)) (b ++ following)) (sym begun_is)
      ∙ ap (λ t. opens.more ++ future new whole (t ++ bytes)) (sym left_is);
  fit = λ runs. fits-open mid.text (state_of mid.record_state) mid.begun.items (ap (λ (s : Stream). s.begun.items) same ∙ none) (opens.is_open runs);
}
  where
    fits-open : (o : Option OpenText) (s : State) (bytes : List ℕ) → bytes ≡ [] → IsOpen o s → FitsText o s bytes
    fits-open None s bytes none is = absurd is
    fits-open (Some t) s bytes none is = (ap lexeme_inside none ∙ nothing-inside, is)

    string-following : (s : Stream) (whole : Bool) (end : ℕ) (bytes : List ℕ) → (s.stopped ≡ false → IsOpen s.text (state_of s.record_state))
        → rest_items s (text_tokens s.text (pieces whole end bytes) (inside whole s.infer end bytes)) ≡ items_at s whole end bytes
    string-following s whole end bytes is_open = elim (cases_Bool s.stopped) [
      | inl stopped ↦ nothing-following s _ stopped ∙ sym (nothing-following s _ stopped)
      | inr runs ↦ ap (rest_items s) (by s.text (is_open runs))
    ]
      where
        by : (o : Option OpenText) → IsOpen o (state_of s.record_state) → text_tokens o (pieces whole end bytes) (inside whole s.infer end bytes) ≡ tokens_of whole s.infer o end bytes
        by None is = absurd is
        by (Some t) is = refl

-- a byte that isn't allowed outside strings
pub turned-bad : (old new : Stream) (before after : List Event) (text rest : List ℕ) (k : ℕ) → old.stopped ≡ false → is_some old.text ≡ false → old.begun.items ≡ []
    → k < length text → lexeme_outside text ≡ bad k → HasPut old new before after (reading.fault (fault_of old.file Syntax (old.place + k)) ∷ []) → Turned old new text rest before after
turned-bad old new before after text rest k running no_text none within prefix put = record {
  more = reading.fault (fault_of old.file Syntax (old.place + k)) ∷ [];
  appends = record { events = put.appends.events; at = put.appends.at; stopped = put.appends.stopped };
  items = λ whole bytes.
      let end = old.place + length (text ++ bytes) in
      let many : length (text ++ bytes) ≡ length text + length bytes = length-append text bytes in
      let small : length (text ++ bytes) ≤ end = omega arith in
      let here : end - length (text ++ bytes) + k ≡ old.place + k = omega arith in
      let below : old.place + k < end = omega (arith, many) in
      let nothing : future new whole (rest ++ bytes) ≡ [] = nothing-following new _ put.appends.stopped in
      future-outside old whole (text ++ bytes) no_text none
      ∙ all-following old (outside whole old.infer end (text ++ bytes)) running
      ∙ ap (items_in old.file (state_of old.record_state)) (outside-bad whole old.infer end (text ++ bytes) small k (outside-bad-stays text bytes k prefix))
      ∙ ap (λ p. end_items old.file (state_of old.record_state) (ending whole end (Some p))) here
      ∙ ap (end_items old.file (state_of old.record_state)) (ending-stops whole end (old.place + k) below)
      ∙ ap (λ x. reading.fault (fault_of old.file Syntax (old.place + k)) ∷ x) (sym nothing);
  fit = λ runs. absurd (true≢false (sym put.appends.stopped ∙ runs));
}

-- the word that has begun, if no string is open
pub begun-word : (s : Stream) → s.stopped ≡ false → is_some s.text ≡ false → 0 < length s.begun.items → IsFit s
    → (lexeme_outside s.begun.items ≡ found (word s.begun.items) (length s.begun.items)) × (takes_word (state_of s.record_state) ≡ true)
begun-word s running no_text some fit = by s.begun.items some (subst (λ o. FitsText o (state_of s.record_state) s.begun.items) (no-text s.text no_text) (fit running))
  where
    by : (bytes : List ℕ) → 0 < length bytes → FitsText None (state_of s.record_state) bytes → (lexeme_outside bytes ≡ found (word bytes) (length bytes)) × (takes_word (state_of s.record_state) ≡ true)
    by bytes some (inl none) = absurd (omega (arith, ap length none, some))
    by bytes some (inr is) = is

pub future-begun : (s : Stream) (whole : Bool) (rest : List ℕ) → is_some s.text ≡ false
    → future s whole rest ≡ rest_items s (outside whole s.infer (s.place + length (s.begun.items ++ rest)) (s.begun.items ++ rest))
future-begun s whole rest text =
    let all = s.begun.items ++ rest in
    ap (λ o. rest_items s (tokens_of whole s.infer o (s.place + length all) all)) (no-text s.text text)

-- the end of a word that spans two pieces of the file
pub turned-flush : (old new : Stream) (before after : List Event) (text : List ℕ) → old.stopped ≡ false → is_some old.text ≡ false → 0 < length old.begun.items → 0 < length text
    → prefix_len is_word_byte text ≡ 0 → IsFit old
    → new ≡ record old { place = old.place + length old.begun.items; begun = new.begun; record_state = new.record_state; at = new.at; stopped = new.stopped } → new.begun.items ≡ []
    → Takes old new before after (λ rest. or_stop old.place (token_of_word old.infer old.begun.items) rest)
    → Turned old new text text before after
turned-flush old new before after text running no_text some more ends fit same none takes = record {
  more = takes.more;
  appends = record { events = takes.appends.events; at = takes.appends.at; stopped = takes.appends.stopped };
  items = λ whole bytes.
      let w = old.begun.items in
      let rest = text ++ bytes in
      let end = old.place + length (w ++ rest) in
      let many : length (w ++ rest) ≡ length w + length rest = length-append w rest in
      let following : drop (length w) (w ++ rest) ≡ rest = drop-prefix (length w) w rest (omega arith) ∙ ap (λ t. t ++ rest) (drop-length w) in
      let place : new.place ≡ old.place + length w = ap (λ (s : Stream). s.place) same in
      let some_after : 0 < length (drop (length w) (w ++ rest)) = omega (arith, ap length following, length-append text bytes, more) in
      let small : length (w ++ rest) ≤ end = omega arith in
      let begins : end - length (w ++ rest) ≡ old.place = omega arith in
      let end_is : end ≡ new.place + length rest = omega (arith, many, place) in
      future-begun old whole rest no_text
      ∙ all-following old (outside whole old.infer end (w ++ rest)) running
      ∙ ap (items_in old.file (state_of old.record_state))
      (outside-word whole old.infer end (w ++ rest) small w (length w) (word-ended w text bytes some more ends (begun-word old running no_text some fit).0) some_after
      ∙ ap₂ (λ p t. or_stop p (token_of_word old.infer w) (outside whole old.infer end t)) begins following)
      ∙ takes.items (outside whole old.infer end rest)
      ∙ ap (λ i. takes.more ++ rest_items new (outside whole i end rest)) (sym (ap (λ (s : Stream). s.infer) same))
      ∙ ap (λ e. takes.more ++ rest_items new (outside whole new.infer e rest)) end_is
      ∙ ap (λ x. takes.more ++ x) (sym (future-outside new whole rest (ap (λ (s : Stream). is_some s.text) same ∙ no_text) none));
  fit = fit-outside new (ap (λ (s : Stream). is_some s.text) same ∙ no_text) none;
}

-- within a string, with no escape begun
module _ (s : Stream) (whole : Bool) (rest : List ℕ) (some : is_some s.text ≡ true) (none : s.begun.items ≡ []) where
  pub future-inside : future s whole rest
      ≡ rest_items s (text_tokens s.text (pieces whole (s.place + length rest) rest) (inside whole s.infer (s.place + length rest) rest))
  future-inside =
      ap (λ b. items_at s whole (s.place + length (b ++ rest)) (b ++ rest)) none
      ∙ ap (rest_items s) (by s.text some)
    where
      by : (o : Option OpenText) → is_some o ≡ true
          → tokens_of whole s.infer o (s.place + length rest) rest ≡ text_tokens o (pieces whole (s.place + length rest) rest) (inside whole s.infer (s.place + length rest) rest)
      by None is = absurd (true≢false (sym is))
      by (Some t) is = refl

-- a piece of a string
pub turned-piece : (old mid : Stream) (before : List Event) (text rest : List ℕ) (p : Piece) (len : ℕ) → old.stopped ≡ false → is_some old.text ≡ true → old.begun.items ≡ [] → IsFit old
    → len ≤ length text → lexeme_inside text ≡ found (piece p) len → rest ≡ drop len text
    → mid ≡ record old { text = mid.text } → is_some mid.text ≡ true → Pushes old.text mid.text (piece p)
    → Turned old (record mid { place = mid.place + len }) text rest before before
turned-piece old mid before text rest p len running some none fit within prefix left_is same open_mid pushed = record {
  more = [];
  appends = record { events = sym (append-nil before); at = ap (λ (s : Stream). s.at) same; stopped = ap (λ (s : Stream). s.stopped) same ∙ running };
  items = λ whole bytes.
      let new = record mid { place = mid.place + len } in
      let following = drop len text ++ bytes in
      let end = old.place + length (text ++ bytes) in
      let many : length (text ++ bytes) ≡ length text + length bytes = length-append text bytes in
      let left_len : length following ≡ (length text - len) + length bytes = length-append (drop len text) bytes ∙ ap (λ n. n + length bytes) (length-drop len text) in
      let place : mid.place ≡ old.place = ap (λ (s : Stream). s.place) same in
      let ends : end ≡ new.place + length following = omega (arith, many, left_len, place, within) in
      let small : length (text ++ bytes) ≤ end = omega arith in
      let state : (tokens : Known) → rest_items old tokens ≡ rest_items new tokens = λ tokens. sym (ap (λ (s : Stream). rest_items (record s { place = s.place + len }) tokens) same) in
      future-inside old whole (text ++ bytes) some none
      ∙ ap (rest_items old) (string-piece whole old.infer end old.text text bytes p len small within prefix ∙ pushed (pieces whole end following) (inside whole old.infer end following))
      ∙ state (text_tokens mid.text (pieces whole end following) (inside whole old.infer end following))
      ∙ ap (λ i. rest_items new (text_tokens mid.text (pieces whole end following) (inside whole i end following))) (sym (ap (λ (s : Stream). s.infer) same))
      ∙ ap (λ e. rest_items new (text_tokens mid.text (pieces whole e following) (inside whole mid.infer e following))) ends
      ∙ sym (future-inside new whole following open_mid (ap (λ (s : Stream). s.begun.items) same ∙ none))
      ∙ ap (λ t. future new whole (t ++ bytes)) (sym left_is);
  fit = λ runs. subst (λ (s : Stream). FitsText mid.text (state_of s.record_state) s.begun.items) (sym same) (fits-open old.text mid.text (state_of old.record_state) old.begun.items none open_mid some (fit running));
}
  where
    fits-open : (o m : Option OpenText) (s : State) (bytes : List ℕ) → bytes ≡ [] → is_some m ≡ true → is_some o ≡ true → FitsText o s bytes → FitsText m s bytes
    fits-open o None s bytes none m_is o_is fits = absurd (true≢false (sym m_is))
    fits-open None (Some m) s bytes none m_is o_is fits = absurd (true≢false (sym o_is))
    fits-open (Some o) (Some m) s bytes none m_is o_is fits = fits

-- the closing quote of a string
pub turned-closed : (old mid : Stream) (before after : List Event) (text rest : List ℕ) (len : ℕ) → old.stopped ≡ false → is_some old.text ≡ true → old.begun.items ≡ []
    → 0 < length text → len ≤ length text → lexeme_inside text ≡ found quote len → rest ≡ drop len text
    → mid ≡ record old { text = mid.text; record_state = mid.record_state; at = mid.at; stopped = mid.stopped } → mid.text ≡ None
    → Takes old mid before after (λ r. text_tokens old.text [] r)
    → Turned old (record mid { place = mid.place + len }) text rest before after
turned-closed old mid before after text rest len running some none bytes_there within prefix left_is same closed takes =
    let none_mid : mid.begun.items ≡ [] = ap (λ (s : Stream). s.begun.items) same ∙ none in
    let no_text : is_some mid.text ≡ false = ap (λ (o : Option OpenText). is_some o) closed in
    record {
      more = takes.more;
      appends = record { events = takes.appends.events; at = takes.appends.at; stopped = takes.appends.stopped };
      items = λ whole bytes.
          let new = record mid { place = mid.place + len } in
          let following = drop len text ++ bytes in
          let end = old.place + length (text ++ bytes) in
          let many : length (text ++ bytes) ≡ length text + length bytes = length-append text bytes in
          let left_len : length following ≡ (length text - len) + length bytes = length-append (drop len text) bytes ∙ ap (λ n. n + length bytes) (length-drop len text) in
          let place : mid.place ≡ old.place = ap (λ (s : Stream). s.place) same in
          let ends : end ≡ mid.place + len + length following = omega (arith, many, left_len, place, within) in
          let small : length (text ++ bytes) ≤ end = omega arith in
          let closing = inside-quote whole old.infer end (text ++ bytes) small len (stays-found true text bytes quote len prefix (inl refl)) in
          future-inside old whole (text ++ bytes) some none
          ∙ ap₂ (λ q t. rest_items old (text_tokens old.text q t)) closing.0 closing.1
          ∙ all-following old (text_tokens old.text [] (outside whole old.infer end (drop len (text ++ bytes)))) running
          ∙ ap (λ t. items_in old.file (state_of old.record_state) (text_tokens old.text [] (outside whole old.infer end t))) (drop-prefix len text bytes within)
          ∙ takes.items (outside whole old.infer end following)
          ∙ ap (λ i. takes.more ++ rest_items mid (outside whole i end following)) (sym (ap (λ (s : Stream). s.infer) same))
          ∙ ap (λ e. takes.more ++ rest_items new (outside whole mid.infer e following)) ends
          ∙ ap (λ x. takes.more ++ x) (sym (future-outside new whole following no_text none_mid))
          ∙ ap (λ t. takes.more ++ future new whole (t ++ bytes)) (sym left_is);
      fit = fit-outside (record mid { place = mid.place + len }) no_text none_mid;
    }

-- an escape that spans two pieces of the file
pub fit-escape : (old new : Stream) → old.stopped ≡ false → is_some old.text ≡ true → lexeme_inside new.begun.items ≡ begun → IsFit old → IsFit (record old { begun = new.begun })
fit-escape old new running some prefix fit = λ _. by old.text some (fit running)
  where
    by : (o : Option OpenText) → is_some o ≡ true → FitsText o (state_of old.record_state) old.begun.items → FitsText o (state_of old.record_state) new.begun.items
    by None is fits = absurd (true≢false (sym is))
    by (Some t) is fits = (prefix, fits.1)

-- a lexeme within a string is its closing quote, or a piece
pub quote-of : (l : Lexeme) → is_quote l ≡ true → l ≡ quote
quote-of quote is = refl
quote-of blank is = absurd (true≢false (sym is))
quote-of (mark m) is = absurd (true≢false (sym is))
quote-of (word w) is = absurd (true≢false (sym is))
quote-of (piece p) is = absurd (true≢false (sym is))

pub piece-of : (l : Lexeme) → is_of_string l ≡ true → is_quote l ≡ false → (p : Piece) × (l ≡ piece p)
piece-of quote here is = absurd (true≢false is)
piece-of blank here is = absurd (true≢false (sym here))
piece-of (mark m) here is = absurd (true≢false (sym here))
piece-of (word w) here is = absurd (true≢false (sym here))
piece-of (piece p) here is = (p, refl)

-- a bad byte in a string that is allowed
stops-following : (file : FileRef) (s : State) (place there : ℕ) (text : List ℕ) → IsOn (turn s (text_token text))
    → items_in file s (and_token there (text_token text) (record { tokens = []; ending = stops place })) ≡ reading.fault (fault_of file Syntax place) ∷ []
stops-following file s place there text on = by (turn s (text_token text)) on
  where
    by : (t : records.Turn) → IsOn t → (elim t [
      | goes next ↦ items_of file next [] (stops place)
      | gives pairs next ↦ reading.fields pairs ∷ items_of file next [] (stops place)
      | fails trouble ↦ reading.fault (fault_of file trouble there) ∷ []
    ]) ≡ reading.fault (fault_of file Syntax place) ∷ []
    by (goes next) on = refl
    by (gives pairs next) on = absurd on
    by (fails trouble) on = absurd on

pub turned-bad-inside : (old new : Stream) (before after : List Event) (text rest : List ℕ) (k : ℕ) → old.stopped ≡ false → is_some old.text ≡ true → old.begun.items ≡ [] → IsFit old
    → k < length text → lexeme_inside text ≡ bad k → HasPut old new before after (reading.fault (fault_of old.file Syntax (old.place + k)) ∷ []) → Turned old new text rest before after
turned-bad-inside old new before after text rest k running some none fit within prefix put = record {
  more = reading.fault (fault_of old.file Syntax (old.place + k)) ∷ [];
  appends = record { events = put.appends.events; at = put.appends.at; stopped = put.appends.stopped };
  items = λ whole bytes.
      let end = old.place + length (text ++ bytes) in
      let many : length (text ++ bytes) ≡ length text + length bytes = length-append text bytes in
      let small : length (text ++ bytes) ≤ end = omega arith in
      let here : end - length (text ++ bytes) + k ≡ old.place + k = omega arith in
      let below : old.place + k < end = omega (arith, many) in
      let nothing : future new whole (rest ++ bytes) ≡ [] = nothing-following new _ put.appends.stopped in
      let ended = inside-stops whole old.infer end (text ++ bytes) small (stops (old.place + k))
      (left-bad whole true end (text ++ bytes) k (inside-bad-stays text bytes k prefix) ∙ ap (λ p. stopped_at whole end (Some p)) here
      ∙ ap (λ e. record { lexemes = []; ending = e }) (ending-stops whole end (old.place + k) below)) in
      future-inside old whole (text ++ bytes) some none
      ∙ ap₂ (λ q t. rest_items old (text_tokens old.text q t)) ended.0 ended.1
      ∙ all-following old (text_tokens old.text [] (record { tokens = []; ending = stops (old.place + k) })) running
      ∙ by old.text some (fit running)
      ∙ ap (λ x. reading.fault (fault_of old.file Syntax (old.place + k)) ∷ x) (sym nothing);
  fit = λ runs. absurd (true≢false (sym put.appends.stopped ∙ runs));
}
  where
    by : (o : Option OpenText) → is_some o ≡ true → FitsText o (state_of old.record_state) old.begun.items
        → items_in old.file (state_of old.record_state) (text_tokens o [] (record { tokens = []; ending = stops (old.place + k) })) ≡ reading.fault (fault_of old.file Syntax (old.place + k)) ∷ []
    by None is fits = absurd (true≢false (sym is))
    by (Some t) is fits = stops-following old.file (state_of old.record_state) (old.place + k) t.place (text_after t.builder []) (fits.1 (text_after t.builder []))

-- no step, and one step after another
pub turned-none : (old : Stream) (before : List Event) (text : List ℕ) → old.stopped ≡ false → IsFit old → Turned old old text text before before
turned-none old before text running fit = record {
  more = [];
  appends = record { events = sym (append-nil before); at = refl; stopped = running };
  items = λ whole bytes. refl;
  fit = fit;
}

pub turned-both : (old mid new : Stream) (text left rest : List ℕ) (before between after : List Event) → mid.stopped ≡ false
    → Turned old mid text left before between → Turned mid new left rest between after → Turned old new text rest before after
turned-both old mid new text left rest before between after running first second =
    let none : has_fault first.more ≡ false = sym first.appends.stopped ∙ running in
    record {
      more = first.more ++ second.more;
      appends = record {
        events = second.appends.events ∙ ap (λ e. e ++ events_of mid.at second.more) first.appends.events ∙ append_assoc before (events_of old.at first.more) (events_of mid.at second.more)
            ∙ ap (λ a. before ++ (events_of old.at first.more ++ events_of a second.more)) first.appends.at
            ∙ ap (λ e. before ++ e) (sym (events_of-append old.at first.more second.more ∙ ap (λ b. events_of old.at first.more ++ events_after b (ctx_after old.at first.more) second.more) none));
        at = second.appends.at ∙ ap (λ a. ctx_after a second.more) first.appends.at
            ∙ sym (ctx_after-append old.at first.more second.more ∙ ap (λ b. ctx_after_events b (ctx_after old.at first.more) second.more) none);
        stopped = second.appends.stopped ∙ sym (has_fault-append first.more second.more ∙ ap (λ b. b || has_fault second.more) none);
      };
      items = λ whole bytes. first.items whole bytes ∙ ap (λ x. first.more ++ x) (second.items whole bytes) ∙ sym (append_assoc first.more second.more (future new whole (rest ++ bytes)));
      fit = second.fit;
    }

no-blank : (old : Stream) (before : List Event) (text : List ℕ) (len : ℕ) → len ≡ 0 → old.stopped ≡ false → is_some old.text ≡ false → old.begun.items ≡ []
    → Turned old (record old { place = old.place + len }) text (drop len text) before before
no-blank old before text len zero_is running text_is none =
    let place_is : old.place ≡ old.place + len = omega (arith, zero_is) in
    subst (λ p. Turned old (record old { place = p }) text (drop len text) before before) place_is
    (subst (λ n. Turned old old text (drop n text) before before) (sym zero_is) (turned-none old before text running (fit-outside old text_is none)))

-- the blanks at the start of a text, if there are any
pub turned-blanks : (old : Stream) (before : List Event) (text : List ℕ) → old.stopped ≡ false → is_some old.text ≡ false → old.begun.items ≡ []
    → Turned old (record old { place = old.place + prefix_len is_blank text }) text (drop (prefix_len is_blank text) text) before before
turned-blanks old before [] running text_is none = no-blank old before [] 0 refl running text_is none
turned-blanks old before (b ∷ t) running text_is none =
    let len = prefix_len is_blank (b ∷ t) in
    elim (cases_Bool (is_blank b)) as (λ _. Turned old (record old { place = old.place + len }) (b ∷ t) (drop len (b ∷ t)) before before) [
      | inl y ↦ turned-blank old before (b ∷ t) (drop len (b ∷ t)) len running text_is none (omega arith) (prefix_len-le-length is_blank (b ∷ t)) (blank-lexeme b t y) refl
      | inr n ↦ no-blank old before (b ∷ t) len (first-other b t n) running text_is none
    ]
  where
    first-other : (b : ℕ) (t : List ℕ) → is_blank b ≡ false → prefix_len is_blank (b ∷ t) ≡ 0
    first-other b t n = rw n refl

-- after a fault the rest of the text doesn't matter, and may be taken as empty
pub turned-all : (old new : Stream) (text left : List ℕ) (before after : List Event) → (new.stopped ≡ true) ⊎ (left ≡ []) → Turned old new text left before after → Turned old new text [] before after
turned-all old new text left before after ends turned = record {
  more = turned.more;
  appends = record { events = turned.appends.events; at = turned.appends.at; stopped = turned.appends.stopped };
  items = λ whole bytes. turned.items whole bytes ∙ ap (λ x. turned.more ++ x) (by whole bytes ends);
  fit = turned.fit;
}
  where
    by : (whole : Bool) (bytes : List ℕ) → (new.stopped ≡ true) ⊎ (left ≡ []) → future new whole (left ++ bytes) ≡ future new whole ([] ++ bytes)
    by whole bytes (inl stopped) = nothing-following new _ stopped ∙ sym (nothing-following new _ stopped)
    by whole bytes (inr none) = ap (λ t. future new whole (t ++ bytes)) none

-- an escape that spans two pieces is read as one text
pub turned-over : (old v new : Stream) (text whole_text rest : List ℕ) (before after : List Event) → v.begun.items ≡ [] → old.begun.items ++ text ≡ whole_text ++ rest
    → Turned (record old { begun = v.begun }) new whole_text [] before after → Turned old new text rest before after
turned-over old v new text whole_text rest before after none parts turned = record {
  more = turned.more;
  appends = record { events = turned.appends.events; at = turned.appends.at; stopped = turned.appends.stopped };
  items = λ whole bytes.
      let all : old.begun.items ++ (text ++ bytes) ≡ whole_text ++ (rest ++ bytes) = sym (append_assoc old.begun.items text bytes) ∙ ap (λ t. t ++ bytes) parts ∙ append_assoc whole_text rest bytes in
      ap (λ t. items_at old whole (old.place + length t) t) all
      ∙ sym (ap (λ b. items_at old whole (old.place + length (b ++ (whole_text ++ (rest ++ bytes)))) (b ++ (whole_text ++ (rest ++ bytes)))) none)
      ∙ turned.items whole (rest ++ bytes);
  fit = turned.fit;
}

pub escape-begun : (s : Stream) → s.stopped ≡ false → is_some s.text ≡ true → IsFit s → lexeme_inside s.begun.items ≡ begun
escape-begun s running some fit = by s.text some (fit running)
  where
    by : (o : Option OpenText) → is_some o ≡ true → FitsText o (state_of s.record_state) s.begun.items → lexeme_inside s.begun.items ≡ begun
    by None is fits = absurd (true≢false (sym is))
    by (Some t) is fits = fits.0
