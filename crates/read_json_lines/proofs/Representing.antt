-- What a reader represents, in terms of the events that it has given.
use Rattle.std.proofs.Common.{◌≡◌, ℕ, zero, suc, ◌+◌, ◌<◌, ◌≤◌, true, false, List, [], ◌∷◌, ◌++◌, take, Option, Some, None, refl, ap, sym, ◌∙◌, arith, is_some}
use Rattle.std.specs.Option.{unwrap_or}
use Rattle.std.proofs.lemmas.Bool.{true≢false}
use Rattle.std.proofs.lemmas.List.{append-nil}
use Rattle.mlr_spec.specs.declared.infer.InferOpts.{InferOpts}
use Rattle.mlr_event.specs.declared.event.Ctx.{Ctx}
use Rattle.mlr_event.specs.declared.event.Event.{Event}
use Rattle.mlr_event.specs.declared.names.FileRef.{FileRef}
use Rattle.mlr_event.specs.declared.options.ReadOpts.{ReadOpts}
use Rattle.mlr_event.specs.Reading as reading
use Rattle.mlr_event.specs.Reading.{Item, ctx_after, events_of}
use Rattle.mlr_event.specs.Stream.{has_fault, events_after, ctx_after_events}
use Rattle.mlr_event.proofs.Streams.{events_of-append, ctx_after-append}
use Rattle.mlr_event.specs.Adding.{Adds}
use Rattle.read_json_lines.specs.declared.listing.Trouble.TheVariants.{Syntax}
use Rattle.read_json_lines.specs.declared.stream.Stream.{Stream}
use Rattle.read_json_lines.specs.Records.{start_state, fault_of}
use Rattle.read_json_lines.specs.Json.{items_in, tokens_known, file_items, ctx_fed, ctx_read, json_fed, json_read}
use Rattle.read_json_lines.specs.Streams.{IsFit, Appends, HasPut, future}
use Rattle.read_json_lines.specs.Represents.{Gave, RepresentsBy, byte_order_mark}
use Rattle.read_json_lines.proofs.Lexing.{left-begun, nothing-between}
use Rattle.read_json_lines.proofs.Taking.{nothing-following}
use Rattle.read_json_lines.proofs.Turning.{fit-outside}
use Rattle.read_json_lines.proofs.Prefixes.{future-nothing}
use Rattle.read_json_lines.proofs.Marks.{part-fault, empty-whole}

-- the first bytes of a byte order mark give no items yet
pub marked-nothing : (infer : InferOpts) (file : FileRef) (n : ℕ) → n < 3 → file_items false infer file (take n byte_order_mark) ≡ []
marked-nothing infer file zero small = ap (λ x. items_in file start_state (tokens_known infer x)) (left-begun false false 1 [] nothing-between)
marked-nothing infer file (suc zero) small = refl
marked-nothing infer file (suc (suc zero)) small = refl
marked-nothing infer file (suc (suc (suc n))) small = absurd (omega (arith, small))

module _ (opts : ReadOpts) (file : FileRef) (start : Ctx) (stream : Stream) (bytes : List ℕ) where
  -- the items that it has given are those that the bytes so far fix
  pub gave-fed : (gave : Gave opts file start stream bytes) → file_items false opts.infer file bytes ≡ gave.given
  gave-fed gave =
      ap (file_items false opts.infer file) (sym (append-nil bytes)) ∙ gave.items false []
      ∙ ap (λ x. gave.given ++ x) (future-nothing stream gave.fit) ∙ append-nil gave.given

  pub represents-ctx : (marked : Option ℕ) → RepresentsBy marked opts file start stream bytes → stream.at ≡ ctx_fed opts file start bytes
  represents-ctx (Some n) represents = represents.0.at_is ∙ ap (ctx_after start) (sym (ap (file_items false opts.infer file) represents.2 ∙ marked-nothing opts.infer file n represents.1))
  represents-ctx None gave = gave.at ∙ ap (ctx_after start) (sym (gave-fed gave))

  -- the whole file was read, and its last events were appended
  pub record HasEnd (at_last : Ctx) (before after : List Event) : Type 0 where
    pub at : at_last ≡ ctx_read opts file start bytes
    pub adds : Adds before after (json_fed opts file start bytes) (json_read opts file start bytes)

  -- the items of the end of the file follow those of the bytes so far
  ends-with : (given more : List Item) (old new : Ctx) (before after : List Event) → old ≡ ctx_after start given → has_fault given ≡ false
      → file_items false opts.infer file bytes ≡ given → file_items true opts.infer file bytes ≡ given ++ more
      → new ≡ ctx_after old more → after ≡ before ++ events_of old more → HasEnd new before after
  ends-with given more old new before after at goes fed read new_is events = record {
    at = new_is ∙ ap (λ a. ctx_after a more) at ∙ sym (ctx_after-append start given more ∙ ap (λ b. ctx_after_events b (ctx_after start given) more) goes) ∙ ap (ctx_after start) (sym read);
    adds = (
      events_of old more,
      ap (events_of start) read ∙ events_of-append start given more ∙ ap (λ b. events_of start given ++ events_after b (ctx_after start given) more) goes
          ∙ ap (λ a. events_of start given ++ events_of a more) (sym at) ∙ ap (λ x. events_of start x ++ events_of old more) (sym fed),
      events,
    );
  }

  gave-read : (gave : Gave opts file start stream bytes) → file_items true opts.infer file bytes ≡ gave.given ++ future stream true []
  gave-read gave = ap (file_items true opts.infer file) (sym (append-nil bytes)) ∙ gave.items true []

  -- the end of the file, after a fault or without one
  pub end-stopped : (marked : Option ℕ) (before : List Event) → stream.stopped ≡ true → RepresentsBy marked opts file start stream bytes → HasEnd stream.at before before
  end-stopped (Some n) before stopped represents = absurd (true≢false (sym stopped ∙ represents.0.goes_on))
  end-stopped None before stopped gave =
      let read : file_items true opts.infer file bytes ≡ gave.given = gave-read gave ∙ ap (λ x. gave.given ++ x) (nothing-following stream _ stopped) ∙ append-nil gave.given in
      record {
        at = gave.at ∙ ap (ctx_after start) (sym read);
        adds = ([], ap (events_of start) (read ∙ sym (gave-fed gave)) ∙ sym (append-nil (events_of start (file_items false opts.infer file bytes))), sym (append-nil before));
      }

  pub end-stream : (marked : Option ℕ) (new : Stream) (before after : List Event) → unwrap_or marked 0 ≤ 0 → stream.stopped ≡ false
      → (IsFit stream → Appends stream new before after (future stream true [])) → RepresentsBy marked opts file start stream bytes → HasEnd new.at before after
  end-stream (Some zero) new before after none running appends represents =
      let put = appends (fit-outside stream (ap is_some represents.0.text_is) represents.0.begun_is) in
      ends-with [] (future stream true []) stream.at new.at before after represents.0.at_is refl
      (ap (file_items false opts.infer file) represents.2 ∙ marked-nothing opts.infer file 0 (omega arith))
      (ap (file_items true opts.infer file) represents.2 ∙ empty-whole stream opts.infer file start represents.0) put.at put.events
  end-stream (Some (suc n)) new before after none running appends represents = absurd (omega (arith, none))
  end-stream None new before after none running appends gave =
      let put = appends gave.fit in
      ends-with gave.given (future stream true []) stream.at new.at before after gave.at (sym gave.stopped ∙ running) (gave-fed gave) (gave-read gave) put.at put.events

  -- the end of the file within a mark
  pub end-mark : (marked : Option ℕ) (m : ℕ) (new : Stream) (before after : List Event) → m ≡ unwrap_or marked 0 → 0 < m
      → HasPut stream new before after (reading.fault (fault_of stream.file Syntax (m + 1)) ∷ []) → RepresentsBy marked opts file start stream bytes → HasEnd new.at before after
  end-mark (Some n) m new before after m_is some put represents =
      let begun : 0 < n = omega (arith, m_is, some) in
      ends-with [] (reading.fault (fault_of stream.file Syntax (m + 1)) ∷ []) stream.at new.at before after represents.0.at_is refl
      (ap (file_items false opts.infer file) represents.2 ∙ marked-nothing opts.infer file n represents.1)
      (ap (file_items true opts.infer file) represents.2 ∙ part-fault opts.infer file n represents.1 begun
      ∙ ap (λ k. reading.fault (fault_of file Syntax (k + 1)) ∷ []) (sym m_is) ∙ ap (λ f. reading.fault (fault_of f Syntax (m + 1)) ∷ []) (sym represents.0.file_is))
      put.appends.at put.appends.events
  end-mark None m new before after m_is some put gave = absurd (omega (arith, m_is, some))
