-- What a verb makes of a list of events is a list of events.
use Rattle.std.proofs.Common.{◌≡◌, true, false, not, cond, ◌&&◌, ◌||◌, List, [], ◌∷◌, ◌++◌, refl, ap, ap₂, ◌∙◌, inl, inr}
use Rattle.std.specs.List.{list_any}
use Rattle.std.proofs.lemmas.Bool.{and_parts, cases_Bool, not-true, or_parts}
use Rattle.mlr_event.specs.declared.event.Event.{Event}
use Rattle.mlr_event.specs.declared.event.Event.TheVariants as event
use Rattle.mlr_event.specs.Verb.{KeepsOrder, Verb, gives, is_end, is_fault, is_last, is_list, is_open, is_part, made, made_after, then_unless_fault}
use Rattle.mlr_event.proofs.Making.{no-fault, then-nothing}

-- a list that ends in one event more is open before it
pub open-before : (xs : List Event) (y : Event) (ys : List Event) → is_list (xs ++ y ∷ ys) ≡ true → is_open xs ≡ true
open-before [] y ys list = refl
open-before (x ∷ []) y ys list =
    let parts = and_parts (not (is_last x)) (is_list (y ∷ ys)) list in
    ap not (ap (λ b. b || false) (not-true (is_last x) parts.0))
open-before (x ∷ z ∷ xs) y ys list =
    let parts = and_parts (not (is_last x)) (is_list (z ∷ xs ++ y ∷ ys)) list in
    ap (λ b. not (b || list_any is_last (z ∷ xs))) (not-true (is_last x) parts.0) ∙ open-before (z ∷ xs) y ys parts.1

-- an open list is a list, and is one with any event appended
pub open-list : (xs ys : List Event) → is_open xs ≡ true → is_list ys ≡ true → is_list (xs ++ ys) ≡ true
open-list [] ys open_is list = list
open-list (x ∷ xs) ys open_is list =
    let parts = or_parts (is_last x) (list_any is_last xs) (not-true (is_last x || list_any is_last xs) open_is) in
    step x (xs ++ ys) parts.0 (open-list xs ys (ap not parts.1) list)
  where
    step : (x : Event) (zs : List Event) → is_last x ≡ false → is_list zs ≡ true → is_list (x ∷ zs) ≡ true
    step x [] inner list = refl
    step x (z ∷ zs) inner list = ap₂ (λ a b. not a && b) inner list

-- a list may follow events that may be inside a list, unless they end in a fault
part-then : (xs ys : List Event) → is_part xs ≡ true → is_list ys ≡ true → is_list (then_unless_fault xs ys) ≡ true
part-then xs ys part list =
    let parts = and_parts (not (list_any is_end xs)) (is_list xs) part in
    elim (cases_Bool (list_any is_fault xs)) [
      | inl some ↦ ap (λ b. is_list (cond b xs (xs ++ ys))) some ∙ parts.1
      | inr none ↦ ap is_list (no-fault xs ys none) ∙ open-list xs ys (neither xs (not-true (list_any is_end xs) parts.0) none) list
    ]
  where
    last-is : (e : Event) → is_last e ≡ (is_end e || is_fault e)
    last-is (event.Rec fields ctx) = refl
    last-is (event.Text text) = refl
    last-is (event.Out target piece) = refl
    last-is (event.End ctx) = refl
    last-is (event.Fault fault) = refl

    neither : (xs : List Event) → list_any is_end xs ≡ false → list_any is_fault xs ≡ false → is_open xs ≡ true
    neither [] ends faults = refl
    neither (x ∷ xs) ends faults =
        let e = or_parts (is_end x) (list_any is_end xs) ends in
        let f = or_parts (is_fault x) (list_any is_fault xs) faults in
        ap₂ (λ a b. not (a || b)) (last-is x ∙ ap₂ (λ a b. a || b) e.0 f.0) (not-true (list_any is_last xs) (neither xs e.1 f.1))

module _ (verb : Verb) (order : KeepsOrder verb) where
  following-list : (before events : List Event) → is_list events ≡ true → is_list (made_after verb before events) ≡ true
  following-list before [] list = refl
  following-list before (e ∷ []) list = ap is_list (then-nothing (gives verb before e)) ∙ alone e
    where
      alone : (e : Event) → is_list (gives verb before e) ≡ true
      alone (event.Rec fields ctx) = (and_parts (not (list_any is_end (verb.now before fields ctx))) (is_list (verb.now before fields ctx)) (order.now before fields ctx)).1
      alone (event.Text text) = refl
      alone (event.Out target piece) = refl
      alone (event.End ctx) = part-then (verb.late before ctx) (event.End ctx ∷ []) (order.late before ctx) refl
      alone (event.Fault fault) = refl
  following-list before (e ∷ f ∷ events) list =
      let parts = and_parts (not (is_last e)) (is_list (f ∷ events)) list in
      part-then (gives verb before e) (made_after verb (before ++ e ∷ []) (f ∷ events)) (inner e (not-true (is_last e) parts.0)) (following-list (before ++ e ∷ []) (f ∷ events) parts.1)
    where
      inner : (e : Event) → is_last e ≡ false → is_part (gives verb before e) ≡ true
      inner (event.Rec fields ctx) is = order.now before fields ctx
      inner (event.Text text) is = refl
      inner (event.Out target piece) is = refl
      inner (event.End ctx) is = absurd (let e : true ≡ false = is in cc)
      inner (event.Fault fault) is = absurd (let e : true ≡ false = is in cc)

  pub made-list : (events : List Event) → is_list events ≡ true → is_list (made verb events) ≡ true
  made-list events list = part-then verb.first (made_after verb [] events) order.first (following-list [] events list)
