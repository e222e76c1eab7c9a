-- The events of a list are appended one after another.
use Rattle.std.proofs.Common.{◌≡◌, ℕ, true, not, List, [], ◌∷◌, ◌++◌, Option, Some, None, refl, ap, sym, ◌∙◌, subst, append_assoc}
use Rattle.std.proofs.lemmas.Bool.{and_parts, not-true, true≢false}
use Rattle.std.proofs.lemmas.List.{append-nil}
use Rattle.mlr_event.specs.Adding.{Adds}
use Rattle.mlr_event.specs.declared.event.Event.{Event}
use Rattle.mlr_event.specs.declared.event.Event.TheVariants as event
use Rattle.mlr_event.specs.declared.fault.Fault.{Fault}
use Rattle.mlr_event.specs.Verb.{is_last, is_list}
use Rattle.writers.specs.declared.options.WriteOpts.{WriteOpts}
use Rattle.outlet.specs.declared.outlet.Outlet.{Outlet}
use Rattle.outlet.specs.Out.{out_of}
use Rattle.outlet.specs.Represents.{LetSays}
use Rattle.outlet.specs.PendingText.{IsAt, Appends, AppendsSome, let_of, over_by}
use Rattle.outlet.proofs.Putting.{adds-nothing}

adds-both : (first now later before middle after : List ℕ) → Adds first now before middle → Adds now later middle after → Adds first later before after
adds-both first now later before middle after a b =
    (a.0 ++ b.0, b.1 ∙ ap (λ t. t ++ b.0) a.1 ∙ append_assoc before a.0 b.0, b.2 ∙ ap (λ t. t ++ b.0) a.2 ∙ append_assoc first a.0 b.0)

-- nothing follows a last event
last-alone : (xs : List Event) (y : Event) (ys : List Event) → is_list (xs ++ y ∷ ys) ≡ true → is_last y ≡ true → ys ≡ []
last-alone [] y [] list last = refl
last-alone [] y (z ∷ ys) list last = absurd (true≢false (sym last ∙ not-true (is_last y) (and_parts (not (is_last y)) (is_list (z ∷ ys)) list).0))
last-alone (x ∷ []) y ys list last = last-alone [] y ys (and_parts (not (is_last x)) (is_list (y ∷ ys)) list).1 last
last-alone (x ∷ z ∷ xs) y ys list last = last-alone (z ∷ xs) y ys (and_parts (not (is_last x)) (is_list (z ∷ xs ++ y ∷ ys)) list).1 last

over-last : (e : Event) (fault : Option Fault) → over_by e ≡ Some fault → is_last e ≡ true
over-last (event.Rec fields ctx) fault is = absurd (let e : None ≡ Some fault = is in cc)
over-last (event.Text text) fault is = absurd (let e : None ≡ Some fault = is in cc)
over-last (event.Out target piece) fault is = absurd (let e : None ≡ Some fault = is in cc)
over-last (event.End ctx) fault is = refl
over-last (event.Fault f) fault is = refl

-- how far it has come
pub record Passed (first : Outlet) (events : List Event) (now : Outlet) (left : List Event) : Type 0 where
  pub passed : List Event
  pub all : events ≡ passed ++ left
  pub at : (opts : WriteOpts) (before : List Event) → IsAt opts before first → is_list (before ++ events) ≡ true → IsAt opts (before ++ passed) now
  pub adds : (opts : WriteOpts) (before : List Event) → IsAt opts before first → is_list (before ++ events) ≡ true → Adds first.text now.text (out_of opts before) (out_of opts (before ++ passed))

pub none-passed : (first : Outlet) (events : List Event) → Passed first events first events
none-passed first events = record {
  passed = [];
  all = refl;
  at = λ opts before at list. subst (λ t. IsAt opts t first) (sym (append-nil before)) at;
  adds = λ opts before at list. adds-nothing first.text (out_of opts before) (out_of opts (before ++ [])) (ap (out_of opts) (append-nil before));
}

module _ (first : Outlet) (events : List Event) (now : Outlet) (left : List Event) (e : Event) (so_far : Passed first events now (e ∷ left)) where
  rest-is : events ≡ so_far.passed ++ e ∷ left
  rest-is = so_far.all

  list-is : (before : List Event) → is_list (before ++ events) ≡ true → is_list ((before ++ so_far.passed) ++ e ∷ left) ≡ true
  list-is before list = ap is_list (append_assoc before so_far.passed (e ∷ left) ∙ ap (λ t. before ++ t) (sym rest-is)) ∙ list

  one-more : (before : List Event) → (before ++ so_far.passed) ++ e ∷ [] ≡ before ++ (so_far.passed ++ e ∷ [])
  one-more before = append_assoc before so_far.passed (e ∷ [])

  module _ (over : Option (Option Fault)) (later : Outlet) (appends : (opts : WriteOpts) (before : List Event) → IsAt opts before now → Appends over opts before (e ∷ []) now later) where
    then-appends : (opts : WriteOpts) (before : List Event) → IsAt opts before first → is_list (before ++ events) ≡ true → Appends over opts (before ++ so_far.passed) (e ∷ []) now later
    then-appends opts before at list = appends opts (before ++ so_far.passed) (so_far.at opts before at list)

    adds-more : (opts : WriteOpts) (before : List Event) → IsAt opts before first → is_list (before ++ events) ≡ true → Adds first.text later.text (out_of opts before) (out_of opts (before ++ (so_far.passed ++ e ∷ [])))
    adds-more opts before at list =
        adds-both first.text now.text later.text (out_of opts before) (out_of opts (before ++ so_far.passed)) (out_of opts (before ++ (so_far.passed ++ e ∷ []))) (so_far.adds opts before at list)
        (subst (λ t. Adds now.text later.text (out_of opts (before ++ so_far.passed)) (out_of opts t)) (one-more before) (then-appends opts before at list).adds)

    pub one-passed : over ≡ None → Passed first events later left
    one-passed none = record {
      passed = so_far.passed ++ e ∷ [];
      all = rest-is ∙ sym (append_assoc so_far.passed (e ∷ []) left);
      at = λ opts before at list. subst (λ t. IsAt opts t later) (one-more before) ((then-appends opts before at list).more none);
      adds = adds-more;
    }

  -- this one was the last
  last-passed : (fault : Option Fault) (later : Outlet) → over_by e ≡ Some fault → ((opts : WriteOpts) (before : List Event) → IsAt opts before now → Appends (Some fault) opts before (e ∷ []) now later)
      → (opts : WriteOpts) (before : List Event) → IsAt opts before first → is_list (before ++ events) ≡ true → Appends (Some fault) opts before events first later
  last-passed fault later is appends opts before at list = subst (λ t. Appends (Some fault) opts before t first later) (sym whole) (record {
    says = subst (λ t. says-of t) (one-more before) (then-appends (Some fault) later appends opts before at list).says;
    adds = adds-more (Some fault) later appends opts before at list;
    more = λ none. absurd (let e : Some fault ≡ None = none in cc);
  })
    where
      says-of : List Event → Type 0
      says-of t = LetSays (let_of (Some fault)) t

      nothing-left : left ≡ []
      nothing-left = last-alone (before ++ so_far.passed) e left (list-is before list) (over-last e fault is)

      whole : events ≡ so_far.passed ++ e ∷ []
      whole = rest-is ∙ ap (λ t. so_far.passed ++ e ∷ t) nothing-left

  -- so nothing remains
  last-left : (fault : Option Fault) → over_by e ≡ Some fault → (before : List Event) → is_list (before ++ events) ≡ true → left ≡ []
  last-left fault is before list = last-alone (before ++ so_far.passed) e left (list-is before list) (over-last e fault is)

  pub last-taken : (fault : Option Fault) (later : Outlet) → over_by e ≡ Some fault → ((opts : WriteOpts) (before : List Event) → IsAt opts before now → Appends (Some fault) opts before (e ∷ []) now later)
      → (before : List Event) → is_list (before ++ events) ≡ true → AppendsSome (Some fault) first events later left
  last-taken fault later is appends before list =
      let nothing = last-left fault is before list in
      record {
        taken = events;
        all = sym (append-nil events) ∙ ap (λ t. events ++ t) (sym nothing);
        last = λ fault is. nothing;
        appends = last-passed fault later is appends;
      }

  pub is-open : (opts : WriteOpts) (before : List Event) → IsAt opts before first → is_list (before ++ events) ≡ true → (opts : WriteOpts) × (before : List Event) × IsAt opts before now
  is-open opts before at list = (opts, before ++ so_far.passed, so_far.at opts before at list)

-- those that were passed were taken
pub passed-taken : (first : Outlet) (events : List Event) (now : Outlet) (left : List Event) → Passed first events now left → AppendsSome None first events now left
passed-taken first events now left done = record {
  taken = done.passed;
  all = done.all;
  last = λ fault is. absurd (let e : None ≡ Some fault = is in cc);
  appends = λ opts before at list.
      let now_at = done.at opts before at list in
      record { says = now_at.clear; adds = done.adds opts before at list; more = λ none. now_at };
}
