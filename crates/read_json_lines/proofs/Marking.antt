-- The byte order mark, byte by byte.
use Rattle.std.proofs.Common.{◌≡◌, ℕ, zero, suc, ◌+◌, ◌-◌, ◌<◌, ◌≤◌, Bool, true, false, ◌==◌, List, [], ◌∷◌, ◌++◌, length, take, drop, slice_index_or, Option, Some, None, inl, inr, refl, ap, ap₂, sym, subst, ◌∙◌, arith, is_some}
use Rattle.std.specs.Option.{unwrap_or}
use Rattle.std.proofs.Math.Seq.{take-length}
use Rattle.std.proofs.lemmas.Bool.{true≢false, cases_Bool, eqb-true}
use Rattle.std.proofs.lemmas.List.{append-nil}
use Rattle.mlr_event.specs.declared.event.Ctx.{Ctx}
use Rattle.mlr_event.specs.declared.event.Event.{Event}
use Rattle.mlr_event.specs.declared.names.FileRef.{FileRef}
use Rattle.mlr_event.specs.declared.options.ReadOpts.{ReadOpts}
use Rattle.mlr_event.specs.Reading as reading
use Rattle.mlr_event.specs.Reading.{ctx_after, events_of}
use Rattle.read_json_lines.specs.declared.listing.Trouble.TheVariants.{Syntax}
use Rattle.read_json_lines.specs.declared.stream.Stream.{Stream}
use Rattle.read_json_lines.specs.Records.{start_state, fault_of}
use Rattle.read_json_lines.specs.Json.{items_in, file_items}
use Rattle.read_json_lines.specs.Streams.{HasPut, Starts, outside}
use Rattle.read_json_lines.specs.Represents.{Goes, Moves, RepresentsWith, byte_order_mark}
use Rattle.read_json_lines.proofs.Taking.{nothing-following}
use Rattle.read_json_lines.proofs.Turning.{fit-outside}
use Rattle.read_json_lines.proofs.Marks.{starts-future, first-other, second-other, third-other, marked}

following-first : (b : ℕ) (t : List ℕ) → take (length (b ∷ t) - 1) (drop 1 (b ∷ t)) ≡ t
following-first b t =
    let n : length (b ∷ t) - 1 ≡ length t = omega arith in
    ap (λ k. take k t) n ∙ take-length t

module _ (opts : ReadOpts) (file : FileRef) (start : Ctx) (old : Stream) (all : List ℕ) (put before : List Event) where
  moved : (mark : Option ℕ) (new : Stream) (text left : List ℕ) → left ≡ text → RepresentsWith mark opts file start new all text put → Moves opts file start mark new all left put before before
  moved mark new text left is represents = record {
    more = [];
    events = sym (append-nil before);
    represents = subst (λ p. RepresentsWith mark opts file start new all left p) (sym (append-nil put)) (subst (λ t. RepresentsWith mark opts file start new all t put) (sym is) represents);
  }

  -- one more byte of the mark
  one-more : (n b : ℕ) (t : List ℕ) → n + 1 < 3 → b ≡ slice_index_or {A = ℕ} byte_order_mark n 0 → RepresentsWith (Some n) opts file start old all (b ∷ t) put → RepresentsWith (Some (n + 1)) opts file start old all t put
  one-more zero b t small is represents = (represents.0, small, represents.2 ∙ ap (λ x. x ∷ t) is, represents.3)
  one-more (suc zero) b t small is represents = (represents.0, small, represents.2 ∙ ap (λ x. 239 ∷ x ∷ t) is, represents.3)
  one-more (suc (suc n)) b t small is represents = absurd (omega (arith, small))

  -- the last byte of the mark
  abbrev past_mark : Stream
  past_mark = record old { place = old.place + 3 }

  starts-following : Starts old opts.infer file start 1 → Starts past_mark opts.infer file start 4
  starts-following starts = record {
    infer_is = starts.infer_is;
    file_is = starts.file_is;
    place_is = ap (λ p. p + 3) starts.place_is;
    state_is = starts.state_is;
    text_is = starts.text_is;
    begun_is = starts.begun_is;
    at_is = starts.at_is;
    goes_on = starts.goes_on;
  }

  last-one : (n b : ℕ) (t : List ℕ) → n < 3 → 3 ≤ n + 1 → b ≡ slice_index_or {A = ℕ} byte_order_mark n 0 → RepresentsWith (Some n) opts file start old all (b ∷ t) put → Goes opts file start past_mark all t put
  last-one zero b t small many is represents = absurd (omega (arith, many))
  last-one (suc zero) b t small many is represents = absurd (omega (arith, many))
  last-one (suc (suc zero)) b t small many is represents =
      let starts = starts-following represents.0 in
      record {
        given = [];
        at = starts.at_is;
        stopped = starts.goes_on;
        fit = fit-outside past_mark (ap is_some starts.text_is) starts.begun_is;
        put_is = represents.3;
        items = λ whole rest.
            ap (λ x. file_items whole opts.infer file (x ++ rest)) (represents.2 ∙ ap (λ x. 239 ∷ 187 ∷ x ∷ t) is)
            ∙ marked whole opts.infer file (t ++ rest) ∙ sym (starts-future past_mark opts.infer file start 4 starts whole (t ++ rest));
      }
  last-one (suc (suc (suc n))) b t small many is represents = absurd (omega (arith, small))

  -- another byte, before any byte of the mark
  none-begun : (b : ℕ) (t : List ℕ) → (b ≡ 239 → ⊥) → RepresentsWith (Some 0) opts file start old all (b ∷ t) put → Goes opts file start old all (b ∷ t) put
  none-begun b t differs represents =
      let starts = represents.0 in
      record {
        given = [];
        at = starts.at_is;
        stopped = starts.goes_on;
        fit = fit-outside old (ap is_some starts.text_is) starts.begun_is;
        put_is = represents.3;
        items = λ whole rest.
            let text = b ∷ t ++ rest in
            let end : length text + 1 ≡ 1 + length text = omega arith in
            ap (λ x. file_items whole opts.infer file (x ++ rest)) represents.2
            ∙ first-other whole opts.infer file b (t ++ rest) (apart b 239 differs)
            ∙ ap (λ e. items_in file start_state (outside whole opts.infer e text)) end
            ∙ sym (starts-future old opts.infer file start 1 starts whole text);
      }
    where
      apart : (x y : ℕ) → (x ≡ y → ⊥) → (x == y) ≡ false
      apart x y differs = elim (cases_Bool (x == y)) [
        | inl same ↦ absurd (differs (eqb-true x y same))
        | inr other ↦ other
      ]

  -- another byte, after a part of the mark
  not-whole : (new : Stream) (after : List Event) (n b : ℕ) (t : List ℕ) → 0 < n → (b ≡ slice_index_or {A = ℕ} byte_order_mark n 0 → ⊥)
      → HasPut old new before after (reading.fault (fault_of old.file Syntax (n + 1)) ∷ []) → RepresentsWith (Some n) opts file start old all (b ∷ t) put
      → Moves opts file start None new all (b ∷ t) put before after
  not-whole new after n b t some differs had represents =
      let starts = represents.0 in
      let bad = reading.fault (fault_of old.file Syntax (n + 1)) ∷ [] in
      record {
        more = events_of old.at bad;
        events = had.appends.events;
        represents = record {
          given = bad;
          at = had.appends.at ∙ ap (λ a. ctx_after a bad) starts.at_is;
          stopped = had.appends.stopped;
          fit = λ runs. absurd (true≢false (sym had.appends.stopped ∙ runs));
          put_is = ap₂ (λ p a. p ++ events_of a bad) represents.3 starts.at_is;
          items = λ whole rest.
              ap (λ x. file_items whole opts.infer file (x ++ rest)) represents.2 ∙ by whole rest n some differs represents.1
              ∙ ap (λ f. reading.fault (fault_of f Syntax (n + 1)) ∷ []) (sym starts.file_is)
              ∙ ap (λ x. bad ++ x) (sym (nothing-following new _ had.appends.stopped));
        };
      }
    where
      apart : (x y : ℕ) → (x ≡ y → ⊥) → (x == y) ≡ false
      apart x y differs = elim (cases_Bool (x == y)) [
        | inl same ↦ absurd (differs (eqb-true x y same))
        | inr other ↦ other
      ]

      by : (whole : Bool) (rest : List ℕ) (n : ℕ) → 0 < n → (b ≡ slice_index_or {A = ℕ} byte_order_mark n 0 → ⊥) → n < 3
          → file_items whole opts.infer file ((take n byte_order_mark ++ (b ∷ t)) ++ rest) ≡ reading.fault (fault_of file Syntax (n + 1)) ∷ []
      by whole rest zero some differs small = absurd (omega (arith, some))
      by whole rest (suc zero) some differs small = second-other whole opts.infer file b (t ++ rest) (apart b 187 differs)
      by whole rest (suc (suc zero)) some differs small = third-other whole opts.infer file b (t ++ rest) (apart b 191 differs)
      by whole rest (suc (suc (suc n))) some differs small = absurd (omega (arith, small))

  -- the same, in terms of the code's tests
  module _ (mark : Option ℕ) (m : ℕ) (text : List ℕ) (m_is : m ≡ unwrap_or mark 0) (waits : is_some mark ≡ true) (some : 0 < length text) where
    abbrev left : List ℕ
    left = take (length text - 1) (drop 1 text)

    abbrev IsNext : Type 0
    IsNext = slice_index_or text 0 0 ≡ slice_index_or {A = ℕ} byte_order_mark m 0

    pub mark-more : IsNext → m + 1 < 3 → RepresentsWith mark opts file start old all text put → Moves opts file start (Some (m + 1)) old all left put before before
    mark-more next small represents = by mark text m m_is waits some next small represents
      where
        by : (mark : Option ℕ) (text : List ℕ) (m : ℕ) → m ≡ unwrap_or mark 0 → is_some mark ≡ true → 0 < length text → slice_index_or text 0 0 ≡ slice_index_or {A = ℕ} byte_order_mark m 0 → m + 1 < 3
            → RepresentsWith mark opts file start old all text put → Moves opts file start (Some (m + 1)) old all (take (length text - 1) (drop 1 text)) put before before
        by None text m m_is waits some next small represents = absurd (true≢false (sym waits))
        by (Some n) [] m m_is waits some next small represents = absurd (omega (arith, some))
        by (Some n) (b ∷ t) m m_is waits some next small represents =
            moved (Some (m + 1)) old t (take (length (b ∷ t) - 1) (drop 1 (b ∷ t))) (following-first b t)
            (one-more m b t small next (subst (λ k. RepresentsWith (Some k) opts file start old all (b ∷ t) put) (sym m_is) represents))

    pub mark-last : IsNext → m < 3 → 3 ≤ m + 1 → RepresentsWith mark opts file start old all text put → Moves opts file start None past_mark all left put before before
    mark-last next small many represents = by mark text m m_is waits some next small many represents
      where
        by : (mark : Option ℕ) (text : List ℕ) (m : ℕ) → m ≡ unwrap_or mark 0 → is_some mark ≡ true → 0 < length text → slice_index_or text 0 0 ≡ slice_index_or {A = ℕ} byte_order_mark m 0 → m < 3 → 3 ≤ m + 1
            → RepresentsWith mark opts file start old all text put → Moves opts file start None past_mark all (take (length text - 1) (drop 1 text)) put before before
        by None text m m_is waits some next small many represents = absurd (true≢false (sym waits))
        by (Some n) [] m m_is waits some next small many represents = absurd (omega (arith, some))
        by (Some n) (b ∷ t) m m_is waits some next small many represents =
            moved None past_mark t (take (length (b ∷ t) - 1) (drop 1 (b ∷ t))) (following-first b t)
            (last-one m b t small many next (subst (λ k. RepresentsWith (Some k) opts file start old all (b ∷ t) put) (sym m_is) represents))

    pub mark-none : (m < 3 → IsNext → ⊥) → m ≤ 0 → RepresentsWith mark opts file start old all text put → Moves opts file start None old all text put before before
    mark-none differs none represents = by mark text m m_is waits some differs none represents
      where
        by : (mark : Option ℕ) (text : List ℕ) (m : ℕ) → m ≡ unwrap_or mark 0 → is_some mark ≡ true → 0 < length text → (m < 3 → slice_index_or text 0 0 ≡ slice_index_or {A = ℕ} byte_order_mark m 0 → ⊥) → m ≤ 0
            → RepresentsWith mark opts file start old all text put → Moves opts file start None old all text put before before
        by None text m m_is waits some differs none represents = absurd (true≢false (sym waits))
        by (Some n) [] m m_is waits some differs none represents = absurd (omega (arith, some))
        by (Some (suc n)) (b ∷ t) m m_is waits some differs none represents = absurd (omega (arith, m_is, none))
        by (Some zero) (b ∷ t) m m_is waits some differs none represents =
            moved None old (b ∷ t) (b ∷ t) refl
            (none-begun b t (λ is. differs (omega (arith, none)) (is ∙ sym (ap (λ k. slice_index_or {A = ℕ} byte_order_mark k 0) m_is))) represents)

    pub mark-cut : (new : Stream) (after : List Event) → (m < 3 → IsNext → ⊥) → 0 < m → HasPut old new before after (reading.fault (fault_of old.file Syntax (m + 1)) ∷ [])
        → RepresentsWith mark opts file start old all text put → Moves opts file start None new all text put before after
    mark-cut new after differs begun had represents = by mark text m m_is waits some differs begun had represents
      where
        by : (mark : Option ℕ) (text : List ℕ) (m : ℕ) → m ≡ unwrap_or mark 0 → is_some mark ≡ true → 0 < length text → (m < 3 → slice_index_or text 0 0 ≡ slice_index_or {A = ℕ} byte_order_mark m 0 → ⊥) → 0 < m
            → HasPut old new before after (reading.fault (fault_of old.file Syntax (m + 1)) ∷ []) → RepresentsWith mark opts file start old all text put → Moves opts file start None new all text put before after
        by None text m m_is waits some differs begun had represents = absurd (true≢false (sym waits))
        by (Some n) [] m m_is waits some differs begun had represents = absurd (omega (arith, some))
        by (Some n) (b ∷ t) m m_is waits some differs begun had represents =
            let here = subst (λ k. RepresentsWith (Some k) opts file start old all (b ∷ t) put) (sym m_is) represents in
            not-whole new after m b t begun (λ is. differs here.1 is) had here
