-- One event is appended after others.
use Rattle.std.proofs.Common.{◌≡◌, ℕ, true, false, not, ◌||◌, List, [], ◌∷◌, ◌++◌, Option, Some, None, refl, ap, sym, ◌∙◌, subst}
use Rattle.std.specs.List.{list_any}
use Rattle.std.specs.Prelude.{IfOk, OnOk, Result, Ok, Err}
use Rattle.std.proofs.lemmas.Bool.{not-true}
use Rattle.std.proofs.lemmas.List.{append-nil}
use Rattle.std.proofs.lemmas.List.Folds.{list_any-append}
use Rattle.mlr_event.specs.Adding.{Adds}
use Rattle.mlr_event.specs.declared.event.Body.{Body}
use Rattle.mlr_event.specs.declared.event.Ctx.{Ctx}
use Rattle.mlr_event.specs.declared.event.Event.{Event}
use Rattle.mlr_event.specs.declared.event.Event.TheVariants as event
use Rattle.mlr_event.specs.declared.event.Piece.{Piece}
use Rattle.mlr_event.specs.declared.fault.Fault.{Fault}
use Rattle.mlr_event.specs.declared.names.Target.{Target}
use Rattle.mlr_event.specs.declared.names.Target.TheVariants.{Stdout, Stderr, File}
use Rattle.mlr_event.specs.Verb.{is_last, is_open}
use Rattle.writers.specs.declared.options.WriteOpts.{WriteOpts}
use Rattle.writers.specs.Represents as writer
use Rattle.writers.specs.Written.{written}
use Rattle.outlet.specs.declared.outlet.Outlet.{Outlet}
use Rattle.outlet.specs.Out.{bodies, event_bodies, out_of, piece_bodies}
use Rattle.outlet.specs.PendingText.{IsAt, Appends, over_by}
use Rattle.outlet.proofs.Growing.{bodies-append, end-following, fault-following, out-following, out-open}

-- the same lists by other names
pub adds-as : (old new before before' after after' : List ℕ) → before ≡ before' → after ≡ after' → Adds old new before after → Adds old new before' after'
adds-as old new before before' after after' p q a = (a.0, sym q ∙ a.1 ∙ ap (λ t. t ++ a.0) p, a.2)

pub adds-nothing : (old before after : List ℕ) → after ≡ before → Adds old old before after
adds-nothing old before after same = ([], same ∙ sym (append-nil before), sym (append-nil old))

-- an event that isn't the last leaves a list open
pub inner : (e : Event) → over_by e ≡ None → is_last e ≡ false
inner (event.Rec fields ctx) is = refl
inner (event.Text text) is = refl
inner (event.Out target piece) is = refl
inner (event.End ctx) is = absurd (let e : Some None ≡ None = is in cc)
inner (event.Fault fault) is = absurd (let e : Some (Some fault) ≡ None = is in cc)

no-over : (e : Event) (b : Body) → event_bodies e ≡ b ∷ [] → over_by e ≡ None
no-over (event.Rec fields ctx) b is = refl
no-over (event.Text text) b is = refl
no-over (event.Out target piece) b is = refl
no-over (event.End ctx) b is = absurd (let e : [] ≡ b ∷ [] = is in cc)
no-over (event.Fault fault) b is = absurd (let e : [] ≡ b ∷ [] = is in cc)

pub open-following : (events following : List Event) → is_open events ≡ true → is_open (events ++ following) ≡ is_open following
open-following events following open_is = ap not (list_any-append is_last events following ∙ ap (λ b. b || list_any is_last following) (not-true (list_any is_last events) open_is))

-- what a piece gives by its target
pub piece-here : (target : Target) (piece : Piece) → target ≡ Stdout → piece_bodies target piece ≡ piece.body ∷ []
piece-here target piece is = ap (λ t. piece_bodies t piece) is

pub piece-elsewhere : (target : Target) (piece : Piece) → (target ≡ Stdout → ⊥) → piece_bodies target piece ≡ []
piece-elsewhere Stdout piece apart = absurd (apart refl)
piece-elsewhere Stderr piece apart = refl
piece-elsewhere (File name) piece apart = refl

module _ (opts : WriteOpts) (before : List Event) (outlet outlet' : Outlet) (at : IsAt opts before outlet) where
  -- a record or a text
  pub body-appends : (e : Event) (bs : List Body) → over_by e ≡ None → event_bodies e ≡ bs
      → writer.Represents opts outlet'.writer (bodies before ++ bs)
      → Adds outlet.text outlet'.text (written opts (bodies before) false) (written opts (bodies before ++ bs) false)
      → writer.IsOpen outlet'.writer → Appends None opts before (e ∷ []) outlet outlet'
  body-appends e bs is gives represents adds writes =
      let one : bodies (e ∷ []) ≡ bs = append-nil (event_bodies e) ∙ gives in
      let still : is_open (before ++ e ∷ []) ≡ true = open-following before (e ∷ []) at.clear ∙ ap (λ b. not (b || false)) (inner e is) in
      let all : bodies (before ++ e ∷ []) ≡ bodies before ++ bs = bodies-append before (e ∷ []) ∙ ap (λ t. bodies before ++ t) one in
      record {
        says = still;
        adds = adds-as outlet.text outlet'.text (written opts (bodies before) false) (out_of opts before) (written opts (bodies before ++ bs) false) (out_of opts (before ++ e ∷ []))
            (sym (out-open opts before at.clear)) (sym (out-open opts (before ++ e ∷ []) still ∙ ap (λ t. written opts t false) all)) adds;
        more = λ none. record { clear = still; represents = subst (writer.Represents opts outlet'.writer) (sym all) represents; writes = writes };
      }

  pub one-appends : (e : Event) (b : Body) → event_bodies e ≡ b ∷ []
      → ((opts : WriteOpts) (bodies : List Body) → writer.Represents opts outlet.writer bodies → writer.Represents opts outlet'.writer (bodies ++ b ∷ []))
      → ((opts : WriteOpts) (bodies : List Body) → writer.Represents opts outlet.writer bodies → Adds outlet.text outlet'.text (written opts bodies false) (written opts (bodies ++ b ∷ []) false))
      → writer.IsOpen outlet'.writer → Appends None opts before (e ∷ []) outlet outlet'
  one-appends e b gives represents adds writes = body-appends e (b ∷ []) (no-over e b gives) gives (represents opts (bodies before) at.represents) (adds opts (bodies before) at.represents) writes

  -- the end
  pub end-appends : (ctx : Ctx) → Adds outlet.text outlet'.text (written opts (bodies before) false) (written opts (bodies before) true) → Appends (Some None) opts before (event.End ctx ∷ []) outlet outlet'
  end-appends ctx adds = record {
    says = end-following before (event.End ctx ∷ []) at.clear;
    adds = adds-as outlet.text outlet'.text (written opts (bodies before) false) (out_of opts before) (written opts (bodies before) true) (out_of opts (before ++ event.End ctx ∷ []))
        (sym (out-open opts before at.clear)) (sym (out-following opts before (event.End ctx ∷ []) at.clear ∙ ap (λ t. written opts t true) (append-nil (bodies before)))) adds;
    more = λ none. absurd (let e : Some None ≡ None = none in cc);
  }

module _ (opts : WriteOpts) (before : List Event) (outlet : Outlet) (at : IsAt opts before outlet) where
  -- a piece for elsewhere
  pub nothing-appends : (e : Event) → over_by e ≡ None → event_bodies e ≡ [] → Appends None opts before (e ∷ []) outlet outlet
  nothing-appends e is gives = body-appends opts before outlet outlet at e [] is gives
      (subst (writer.Represents opts outlet.writer) (sym (append-nil (bodies before))) at.represents)
      (adds-nothing outlet.text (written opts (bodies before) false) (written opts (bodies before ++ []) false) (ap (λ t. written opts t false) (append-nil (bodies before))))
      at.writes

  -- a fault
  pub fault-appends : (fault : Fault) → Appends (Some (Some fault)) opts before (event.Fault fault ∷ []) outlet outlet
  fault-appends fault = record {
    says = fault-following before (event.Fault fault ∷ []) at.clear;
    adds = adds-nothing outlet.text (out_of opts before) (out_of opts (before ++ event.Fault fault ∷ []))
        (out-following opts before (event.Fault fault ∷ []) at.clear ∙ ap (λ t. written opts t false) (append-nil (bodies before)) ∙ sym (out-open opts before at.clear));
    more = λ none. absurd (let e : Some (Some fault) ≡ None = none in cc);
  }

-- what holds of each value that isn't the last event
pub if-ok-none : {E P : Type 0} (r : Result (Option (Option Fault)) E) (Q : Option (Option Fault) → Type 0) → (P → Q None) → IfOk r (λ over. over ≡ None) → OnOk r P → IfOk r Q
if-ok-none (Ok over) Q f none p = subst Q (sym none) (f p)
if-ok-none (Err e) Q f none p = tt
