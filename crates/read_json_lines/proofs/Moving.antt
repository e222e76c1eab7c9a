-- A piece of a file, from the state before it to the state after it.
use Rattle.std.proofs.Common.{◌≡◌, ℕ, Bool, true, false, ◌==◌, ◌||◌, ◌⊎◌, List, [], ◌∷◌, ◌++◌, length, take, Option, Some, None, inl, inr, refl, ap, sym, subst, ◌∙◌, arith, append_assoc, is_some}
use Rattle.std.proofs.lemmas.Bool.{true≢false, eqb-true}
use Rattle.std.proofs.lemmas.List.{append-nil}
use Rattle.mlr_event.specs.declared.event.Ctx.{Ctx}
use Rattle.mlr_event.specs.declared.event.Event.{Event}
use Rattle.mlr_event.specs.declared.names.FileRef.{FileRef}
use Rattle.mlr_event.specs.declared.options.ReadOpts.{ReadOpts}
use Rattle.mlr_event.specs.Reading.{ctx_after, events_of}
use Rattle.mlr_event.specs.Stream.{has_fault, events_after, ctx_after_events}
use Rattle.mlr_event.proofs.Streams.{events_of-append, ctx_after-append, has_fault-append}
use Rattle.mlr_event.specs.Adding.{Adds}
use Rattle.read_json_lines.specs.declared.stream.Stream.{Stream}
use Rattle.read_json_lines.specs.Json.{file_items, json_fed}
use Rattle.read_json_lines.specs.Streams.{IsFit, Turned, future}
use Rattle.read_json_lines.specs.Represents.{Gave, Moves, RepresentsBy, RepresentsWith, byte_order_mark}
use Rattle.read_json_lines.proofs.Taking.{nothing-following}
use Rattle.read_json_lines.proofs.Representing.{marked-nothing, gave-fed}

pub nothing-left : (text : List ℕ) → (length text == 0) ≡ true → text ≡ []
nothing-left [] is = refl
nothing-left (b ∷ t) is = absurd (omega (arith, eqb-true (length (b ∷ t)) 0 is))

module _ (opts : ReadOpts) (file : FileRef) (start : Ctx) where
  -- the state before a piece
  pub represents-start : (mark : Option ℕ) (stream : Stream) (bytes piece : List ℕ) → RepresentsBy mark opts file start stream bytes → RepresentsWith mark opts file start stream (bytes ++ piece) piece (json_fed opts file start bytes)
  represents-start (Some n) stream bytes piece represents =
      (represents.0, represents.1, ap (λ x. x ++ piece) represents.2, ap (events_of start) (ap (file_items false opts.infer file) represents.2 ∙ marked-nothing opts.infer file n represents.1))
  represents-start None stream bytes piece gave = record {
    given = gave.given;
    at = gave.at;
    stopped = gave.stopped;
    fit = gave.fit;
    put_is = ap (events_of start) (gave-fed opts file start stream bytes gave);
    items = λ whole rest. ap (file_items whole opts.infer file) (append_assoc bytes piece rest) ∙ gave.items whole (piece ++ rest);
  }

  module _ (all : List ℕ) where
    pub moves-none : (mark : Option ℕ) (stream : Stream) (left : List ℕ) (put before : List Event) → RepresentsWith mark opts file start stream all left put → Moves opts file start mark stream all left put before before
    moves-none mark stream left put before represents = record {
      more = [];
      events = sym (append-nil before);
      represents = subst (λ p. RepresentsWith mark opts file start stream all left p) (sym (append-nil put)) represents;
    }

    pub moves-both : (mark after_mark : Option ℕ) (stream new : Stream) (left rest : List ℕ) (put before between after : List Event) → Moves opts file start mark stream all left put before between
        → ((p : List Event) → RepresentsWith mark opts file start stream all left p → Moves opts file start after_mark new all rest p between after) → Moves opts file start after_mark new all rest put before after
    moves-both mark after_mark stream new left rest put before between after first then =
        let second = then (put ++ first.more) first.represents in
        record {
          more = first.more ++ second.more;
          events = second.events ∙ ap (λ e. e ++ second.more) first.events ∙ append_assoc before first.more second.more;
          represents = subst (λ p. RepresentsWith after_mark opts file start new all rest p) (append_assoc put first.more second.more) second.represents;
        }

    -- the stream reads the rest of the piece
    pub moves-fed : (mark : Option ℕ) (stream new : Stream) (left : List ℕ) (put before after : List Event) → is_some mark ≡ false → stream.stopped ≡ false
        → (IsFit stream → Turned stream new left [] before after) → RepresentsWith mark opts file start stream all left put → Moves opts file start mark new all [] put before after
    moves-fed (Some n) stream new left put before after none running fed represents = absurd (true≢false none)
    moves-fed None stream new left put before after none running fed goes =
        let turned = fed goes.fit in
        let given = goes.given in
        let more = turned.more in
        let goes_on : has_fault given ≡ false = sym goes.stopped ∙ running in
        record {
          more = events_of stream.at more;
          events = turned.appends.events;
          represents = record {
            given = given ++ more;
            at = turned.appends.at ∙ ap (λ a. ctx_after a more) goes.at ∙ sym (ctx_after-append start given more ∙ ap (λ b. ctx_after_events b (ctx_after start given) more) goes_on);
            stopped = turned.appends.stopped ∙ sym (has_fault-append given more ∙ ap (λ b. b || has_fault more) goes_on);
            fit = turned.fit;
            put_is = ap (λ p. p ++ events_of stream.at more) goes.put_is ∙ ap (λ a. events_of start given ++ events_of a more) goes.at
                ∙ sym (events_of-append start given more ∙ ap (λ b. events_of start given ++ events_after b (ctx_after start given) more) goes_on);
            items = λ whole rest. goes.items whole rest ∙ ap (λ x. given ++ x) (turned.items whole rest) ∙ sym (append_assoc given more (future new whole ([] ++ rest)));
          };
        }

    -- the state after a piece
    pub represents-end : (mark : Option ℕ) (stream : Stream) (left : List ℕ) (put : List Event) → (left ≡ []) ⊎ (stream.stopped ≡ true) → RepresentsWith mark opts file start stream all left put
        → RepresentsBy mark opts file start stream all × (json_fed opts file start all ≡ put)
    represents-end (Some n) stream left put (inr stopped) represents = absurd (true≢false (sym stopped ∙ represents.0.goes_on))
    represents-end (Some n) stream left put (inl none) represents =
        let all_is : all ≡ take n byte_order_mark = represents.2 ∙ ap (λ x. take n byte_order_mark ++ x) none ∙ append-nil (take n byte_order_mark) in
        ((represents.0, represents.1, all_is), ap (events_of start) (ap (file_items false opts.infer file) all_is ∙ marked-nothing opts.infer file n represents.1) ∙ sym represents.3)
    represents-end None stream left put ends goes =
        let gave : Gave opts file start stream all = record {
          given = goes.given;
          at = goes.at;
          stopped = goes.stopped;
          fit = goes.fit;
          items = λ whole rest. goes.items whole rest ∙ ap (λ x. goes.given ++ x) (by whole rest ends);
        } in
        (gave, ap (events_of start) (gave-fed opts file start stream all gave) ∙ sym goes.put_is)
      where
        by : (whole : Bool) (rest : List ℕ) → (left ≡ []) ⊎ (stream.stopped ≡ true) → future stream whole (left ++ rest) ≡ future stream whole rest
        by whole rest (inl none) = ap (λ l. future stream whole (l ++ rest)) none
        by whole rest (inr stopped) = nothing-following stream _ stopped ∙ sym (nothing-following stream _ stopped)

  -- a piece was read
  pub record Taken (mark : Option ℕ) (stream : Stream) (bytes piece : List ℕ) (before after : List Event) : Type 0 where
    pub represents : RepresentsBy mark opts file start stream (bytes ++ piece)
    pub adds : Adds before after (json_fed opts file start bytes) (json_fed opts file start (bytes ++ piece))

  pub taken : (mark : Option ℕ) (stream : Stream) (bytes piece left : List ℕ) (before after : List Event) → (left ≡ []) ⊎ (stream.stopped ≡ true)
      → Moves opts file start mark stream (bytes ++ piece) left (json_fed opts file start bytes) before after → Taken mark stream bytes piece before after
  taken mark stream bytes piece left before after ends moves =
      let ended = represents-end (bytes ++ piece) mark stream left (json_fed opts file start bytes ++ moves.more) ends moves.represents in
      record { represents = ended.0; adds = (moves.more, ended.1, moves.events) }
