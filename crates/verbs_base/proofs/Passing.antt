-- Events are given to a verb over records one by one.
use Rattle.std.proofs.Common.{◌≡◌, Bool, true, false, not, ◌||◌, List, [], ◌∷◌, ◌++◌, Option, Some, None, refl, ap, ap₂, sym, ◌∙◌, subst, append_assoc, inl, inr}
use Rattle.std.specs.List.{list_any}
use Rattle.std.proofs.lemmas.Bool.{cases_Bool, not-true, or_parts}
use Rattle.std.proofs.lemmas.Grind.{flat_map-append}
use Rattle.std.proofs.lemmas.List.{append-nil}
use Rattle.std.proofs.lemmas.List.Folds.{list_any-append}
use Rattle.mlr_event.specs.Adding.{Adds}
use Rattle.mlr_event.specs.declared.event.Ctx.{Ctx}
use Rattle.mlr_event.specs.declared.event.Event.{Event}
use Rattle.mlr_event.specs.declared.event.Event.TheVariants as event
use Rattle.mlr_event.specs.Verb.{gives, is_fault, is_last, is_open, made}
use Rattle.mlr_event.proofs.Making.{made-next, no-fault}
use Rattle.verbs_base.specs.Laws.{verb-quiet}
use Rattle.verbs_base.specs.OverEvents.{WasGiven, at_end, open_so_far}
use Rattle.verbs_base.specs.Records.{Fields, PassesEach, RecordVerb, Row, events_of, given_for, given_for_all, records, row_in, rows_in, verb_of, with_context}

pub rows-append : (xs ys : List Event) → rows_in (xs ++ ys) ≡ rows_in xs ++ rows_in ys
rows-append xs ys = flat_map-append row_in xs ys

pub given-append : (verb : RecordVerb) (before : List Row) (xs ys : List Event) → given_for_all verb before (xs ++ ys) ≡ given_for_all verb before xs ++ given_for_all verb (before ++ rows_in xs) ys
given-append verb before [] ys = ap (λ b. given_for_all verb b ys) (sym (append-nil before))
given-append verb before (x ∷ xs) ys =
    ap (λ t. given_for verb before x ++ t) (given-append verb (before ++ row_in x) xs ys)
    ∙ ap (λ b. given_for verb before x ++ (given_for_all verb (before ++ row_in x) xs ++ given_for_all verb b ys)) (append_assoc before (row_in x) (rows_in xs))
    ∙ sym (append_assoc (given_for verb before x) (given_for_all verb (before ++ row_in x) xs) (given_for_all verb (before ++ rows_in (x ∷ xs)) ys))

-- the verb has taken the first events of a list, and `rest` is still to come
module _ {S : Type 0} (meaning : S → RecordVerb) (represents : S → List Row → Type 0) where
  pub record Passed (old : S) (events out : List Event) (now : S) (rest out_now : List Event) : Type 0 where
    pub passed : List Event
    pub all : events ≡ passed ++ rest
    pub same : meaning now ≡ meaning old
    pub at : (before : List Row) → represents old before → represents now (before ++ rows_in passed)
    pub gives : (before : List Row) → represents old before → out_now ≡ out ++ given_for_all (meaning old) before passed

  pub none-passed : (old : S) (events out : List Event) → Passed old events out old events out
  none-passed old events out = record {
    passed = [];
    all = refl;
    same = refl;
    at = λ before holds. subst (represents old) (sym (append-nil before)) holds;
    gives = λ before holds. sym (append-nil out);
  }

  pub one-passed : (old : S) (events out : List Event) (now : S) (rest : List Event) (e : Event) (out_now : List Event) → Passed old events out now (e ∷ rest) out_now
      → (then_ : S) (out_then : List Event) → meaning then_ ≡ meaning now
      → ((before : List Row) → represents now before → represents then_ (before ++ row_in e))
      → ((before : List Row) → represents now before → out_then ≡ out_now ++ given_for (meaning now) before e)
      → Passed old events out then_ rest out_then
  one-passed old events out now rest e out_now so_far then_ out_then same at gives = record {
    passed = so_far.passed ++ e ∷ [];
    all = so_far.all ∙ sym (append_assoc so_far.passed (e ∷ []) rest);
    same = same ∙ so_far.same;
    at = λ before holds.
        subst (represents then_) (append_assoc before (rows_in so_far.passed) (row_in e) ∙ ap (λ t. before ++ (rows_in so_far.passed ++ t)) (sym (append-nil (row_in e))) ∙ ap (λ t. before ++ t) (sym (rows-append so_far.passed (e ∷ []))))
        (at (before ++ rows_in so_far.passed) (so_far.at before holds));
    gives = λ before holds.
        let v = meaning old in
        gives (before ++ rows_in so_far.passed) (so_far.at before holds)
        ∙ ap₂ (λ a m. a ++ given_for m (before ++ rows_in so_far.passed) e) (so_far.gives before holds) so_far.same
        ∙ append_assoc out (given_for_all v before so_far.passed) (given_for v (before ++ rows_in so_far.passed) e)
        ∙ ap (λ t. out ++ (given_for_all v before so_far.passed ++ t)) (sym (append-nil (given_for v (before ++ rows_in so_far.passed) e)))
        ∙ ap (λ t. out ++ t) (sym (given-append v before so_far.passed (e ∷ [])));
  }

  module _ (old : S) (events out : List Event) (now : S) (out_now : List Event) (done : Passed old events out now [] out_now) where
    all-is : events ≡ done.passed
    all-is = done.all ∙ append-nil done.passed

    pub all-at : (before : List Row) → represents old before → represents now (before ++ rows_in events)
    all-at before holds = subst (λ t. represents now (before ++ rows_in t)) (sym all-is) (done.at before holds)

    pub all-gives : (before : List Row) → represents old before → out_now ≡ out ++ given_for_all (meaning old) before events
    all-gives before holds = done.gives before holds ∙ ap (λ t. out ++ given_for_all (meaning old) before t) (sym all-is)

-- records are no fault
records-clean : (given : List Row) → list_any is_fault (events_of given) ≡ false
records-clean [] = refl
records-clean (row ∷ given) = records-clean given

context-clean : (ctx : Ctx) (given : List Fields) → list_any is_fault (with_context ctx given) ≡ false
context-clean ctx [] = refl
context-clean ctx (fields ∷ given) = context-clean ctx given

pub end-gives : (verb : RecordVerb) (given : List Event) (ctx : Ctx) → gives (verb_of verb) given (event.End ctx) ≡ events_of (verb.late (rows_in given) ctx) ++ event.End ctx ∷ []
end-gives verb given ctx = no-fault (events_of (verb.late (rows_in given) ctx)) (event.End ctx ∷ []) (records-clean (verb.late (rows_in given) ctx))

-- a list and the events after it are open together
pub open-parts : (xs ys : List Event) → is_open (xs ++ ys) ≡ true → (is_open xs ≡ true) × (is_open ys ≡ true)
open-parts xs ys open_is =
    let parts = or_parts (list_any is_last xs) (list_any is_last ys) (sym (list_any-append is_last xs ys) ∙ not-true (list_any is_last (xs ++ ys)) open_is) in
    (ap not parts.0, ap not parts.1)

one-gives : (verb : RecordVerb) (given : List Event) (e : Event) → is_last e ≡ false → gives (verb_of verb) given e ≡ given_for verb (rows_in given) e
one-gives verb given (event.Rec fields ctx) is = refl
one-gives verb given (event.Text text) is = refl
one-gives verb given (event.Out target piece) is = refl
one-gives verb given (event.End ctx) is = absurd (let f : true ≡ false = is in cc)
one-gives verb given (event.Fault fault) is = absurd (let f : true ≡ false = is in cc)

inner : (e : Event) → is_open (e ∷ []) ≡ true → is_last e ≡ false
inner e open_is = (or_parts (is_last e) false (not-true (is_last e || false) open_is)).0

-- events before the end add what they give
open-made : (verb : RecordVerb) (given events : List Event) → is_open (given ++ events) ≡ true → made (verb_of verb) (given ++ events) ≡ made (verb_of verb) given ++ given_for_all verb (rows_in given) events
open-made verb given [] open_is = ap (made (verb_of verb)) (append-nil given) ∙ sym (append-nil (made (verb_of verb) given))
open-made verb given (e ∷ events) open_is =
    let m = made (verb_of verb) in
    let one_more : is_open ((given ++ e ∷ []) ++ events) ≡ true = ap is_open (append_assoc given (e ∷ []) events) ∙ open_is in
    let with_one = (open-parts (given ++ e ∷ []) events one_more).0 in
    let parts = open-parts given (e ∷ []) with_one in
    ap m (sym (append_assoc given (e ∷ []) events))
    ∙ open-made verb (given ++ e ∷ []) events one_more
    ∙ ap₂ (λ a b. a ++ given_for_all verb b events) (made-next (verb_of verb) (verb-quiet verb) refl given e parts.0 ∙ ap (λ t. m given ++ t) (one-gives verb given e (inner e parts.1)))
    (rows-append given (e ∷ []) ∙ ap (λ t. rows_in given ++ t) (append-nil (row_in e)))
    ∙ append_assoc (m given) (given_for verb (rows_in given) e) (given_for_all verb (rows_in given ++ row_in e) events)

pub open-adds : (verb : RecordVerb) (given events out out_now : List Event) → is_open (given ++ events) ≡ true → out_now ≡ out ++ given_for_all verb (rows_in given) events
    → Adds out out_now (made (verb_of verb) given) (made (verb_of verb) (given ++ events))
open-adds verb given events out out_now open_is out_is = (given_for_all verb (rows_in given) events, open-made verb given events open_is, out_is)

-- a verb over records that was given events
module _ (verb : RecordVerb) (represents : List Row → Type 0) where
  pub still-given : (shut : Option Bool) (given : List Event) → WasGiven verb represents shut given → is_open given ≡ true → represents (rows_in given)
  still-given shut given (open_so_far none holds) open_is = holds
  still-given shut given (at_end ended told) open_is = absurd (let f : false ≡ true = sym ended ∙ open_is in cc)

  pub not-told : (shut : Option Bool) (given : List Event) → WasGiven verb represents shut given → is_open given ≡ true → shut ≡ None
  not-told shut given (open_so_far none holds) open_is = none
  not-told shut given (at_end ended told) open_is = absurd (let f : false ≡ true = sym ended ∙ open_is in cc)

  -- an event after an open list, or the end of the list
  pub given-one : (shut : Option Bool) (given : List Event) (e : Event) → is_last e ≡ false → shut ≡ None → represents (rows_in given ++ row_in e) → WasGiven verb represents shut (given ++ e ∷ [])
  given-one shut given e inner none holds = open_so_far none (subst represents (ap (λ t. rows_in given ++ t) (sym (append-nil (row_in e))) ∙ sym (rows-append given (e ∷ []))) holds)

  pub given-last : (shut : Option Bool) (given : List Event) (e : Event) → is_last e ≡ true → shut ≡ Some (verb.closed (records (rows_in given))) → WasGiven verb represents shut (given ++ e ∷ [])
  given-last shut given e last is =
      at_end (ap not (list_any-append is_last given (e ∷ []) ∙ ap (λ b. list_any is_last given || (b || false)) last ∙ or-true (list_any is_last given)))
      (is ∙ ap (λ t. Some (verb.closed (records t))) (sym (rows-append given (e ∷ []) ∙ ap (λ t. rows_in given ++ t) (append-nil (row_in e) ∙ no-row e last) ∙ append-nil (rows_in given))))
    where
      or-true : (b : Bool) → (b || true) ≡ true
      or-true true = refl
      or-true false = refl

      no-row : (e : Event) → is_last e ≡ true → row_in e ≡ []
      no-row (event.Rec fields ctx) is = absurd (let f : false ≡ true = is in cc)
      no-row (event.Text text) is = refl
      no-row (event.Out target piece) is = refl
      no-row (event.End ctx) is = refl
      no-row (event.Fault fault) is = refl

  pub given-all : (shut : Option Bool) (given events : List Event) → shut ≡ None → represents (rows_in given ++ rows_in events) → WasGiven verb represents shut (given ++ events)
  given-all shut given events none holds = open_so_far none (subst represents (sym (rows-append given events)) holds)

  -- a verb that gives each record as it is
  pub passes-on : PassesEach verb represents → (shut : Option Bool) (given following : List Event) → WasGiven verb represents shut given → WasGiven verb represents shut (given ++ following)
  passes-on passes shut given following (open_so_far none holds) = open_so_far none (subst represents (sym (rows-append given following)) (passes.keeps (rows_in given) (rows_in following) holds))
  passes-on passes shut given following (at_end ended told) =
      at_end (not-open given following ended) (told ∙ ap Some (passes.unclosed (records (rows_in given)) ∙ sym (passes.unclosed (records (rows_in (given ++ following))))))
    where
      not-open : (xs ys : List Event) → is_open xs ≡ false → is_open (xs ++ ys) ≡ false
      not-open xs ys ended = elim (cases_Bool (is_open (xs ++ ys))) [
        | inl still ↦ absurd (let f : false ≡ true = sym ended ∙ (open-parts xs ys still).0 in cc)
        | inr closed ↦ closed
      ]
