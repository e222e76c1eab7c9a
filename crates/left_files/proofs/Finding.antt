-- The first fault of a list of events.
use Rattle.std.proofs.Common.{◌≡◌, true, false, ◌||◌, List, [], ◌∷◌, ◌++◌, Option, Some, None, refl, ap, sym, ◌∙◌}
use Rattle.std.specs.List.{list_any}
use Rattle.std.specs.Option.{option_and_then, option_to_list}
use Rattle.std.proofs.lemmas.Bool.{or_parts}
use Rattle.mlr_event.specs.declared.event.Event.{Event}
use Rattle.mlr_event.specs.declared.event.Event.TheVariants as event
use Rattle.mlr_event.specs.declared.fault.Fault.{Fault}
use Rattle.mlr_event.specs.Verb.{is_fault, is_list}
use Rattle.mlr_event.proofs.Ordered.{open-before}
use Rattle.read_files.proofs.Events.{open-clear}
use Rattle.left_files.specs.Lefts.{fault_in, fault_of}

no-fault : (e : Event) → is_fault e ≡ false → fault_of e ≡ None
no-fault (event.Rec fields ctx) is = refl
no-fault (event.Text text) is = refl
no-fault (event.Out target piece) is = refl
no-fault (event.End ctx) is = refl
no-fault (event.Fault fault) is = absurd (let e : true ≡ false = is in cc)

is-none : (e : Event) → fault_of e ≡ None → is_fault e ≡ false
is-none (event.Rec fields ctx) is = refl
is-none (event.Text text) is = refl
is-none (event.Out target piece) is = refl
is-none (event.End ctx) is = refl
is-none (event.Fault fault) is = absurd (let e : Some fault ≡ None = is in cc)

-- a list without a fault
pub none-clear : (xs : List Event) → list_any is_fault xs ≡ false → fault_in xs ≡ None
none-clear [] clear = refl
none-clear (x ∷ xs) clear =
    let parts = or_parts (is_fault x) (list_any is_fault xs) clear in
    ap (λ first. elim first [ Some fault ↦ Some fault | None ↦ fault_in xs ]) (no-fault x parts.0) ∙ none-clear xs parts.1

pub clear-none : (xs : List Event) → fault_in xs ≡ None → list_any is_fault xs ≡ false
clear-none [] none = refl
clear-none (x ∷ xs) none = by (fault_of x) refl (clear-none xs)
  where
    by : (first : Option Fault) → fault_of x ≡ first → (fault_in xs ≡ None → list_any is_fault xs ≡ false) → list_any is_fault (x ∷ xs) ≡ false
    by (Some fault) is rest = absurd (let e : Some fault ≡ None = sym (ap (λ first. elim first [ Some fault ↦ Some fault | None ↦ fault_in xs ]) is) ∙ none in cc)
    by None is rest =
        ap (λ b. b || list_any is_fault xs) (is-none x is) ∙ rest (sym (ap (λ first. elim first [ Some fault ↦ Some fault | None ↦ fault_in xs ]) is) ∙ none)

-- what follows such a list
pub fault-following : (xs ys : List Event) → list_any is_fault xs ≡ false → fault_in (xs ++ ys) ≡ fault_in ys
fault-following [] ys clear = refl
fault-following (x ∷ xs) ys clear =
    let parts = or_parts (is_fault x) (list_any is_fault xs) clear in
    ap (λ first. elim first [ Some fault ↦ Some fault | None ↦ fault_in (xs ++ ys) ]) (no-fault x parts.0) ∙ fault-following xs ys parts.1

-- what no fault follows
pub fault-before : (xs ys : List Event) → fault_in ys ≡ None → fault_in (xs ++ ys) ≡ fault_in xs
fault-before [] ys none = none
fault-before (x ∷ xs) ys none = ap (λ next. elim (fault_of x) [ Some fault ↦ Some fault | None ↦ next ]) (fault-before xs ys none)

one : (e : Event) → (first : Option Fault) → fault_of e ≡ first → fault_in (e ∷ []) ≡ fault_of e
one e (Some fault) is = ap (λ first. elim first [ Some fault ↦ Some fault | None ↦ None ]) is ∙ sym is
one e None is = ap (λ first. elim first [ Some fault ↦ Some fault | None ↦ None ]) is ∙ sym is

-- a fault is the last event of a list
pub fault-last : (xs : List Event) (last : Option Event) → (last ≡ None → xs ≡ []) → is_list (xs ++ option_to_list last) ≡ true → fault_in (xs ++ option_to_list last) ≡ option_and_then fault_of last
fault-last xs None none list = ap (λ ys. fault_in (ys ++ [])) (none refl)
fault-last xs (Some e) none list = fault-following xs (e ∷ []) (open-clear xs (open-before xs e [] list)) ∙ one e (fault_of e) refl
