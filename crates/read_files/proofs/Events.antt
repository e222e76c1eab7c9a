-- Events up to the first fault, and lists of events.
use Rattle.std.proofs.Common.{◌≡◌, ◌⊎◌, Bool, true, false, not, cond, ◌&&◌, ◌||◌, List, [], ◌∷◌, ◌++◌, refl, ap, ap₂, sym, ◌∙◌, inl, inr, append_assoc}
use Rattle.std.specs.List.{list_any}
use Rattle.std.proofs.lemmas.Bool.{and_parts, cases_Bool, not-true, or_parts}
use Rattle.std.proofs.lemmas.List.{append-nil}
use Rattle.std.proofs.lemmas.List.Folds.{list_any-append}
use Rattle.mlr_event.specs.declared.event.Event.{Event}
use Rattle.mlr_event.specs.declared.event.Event.TheVariants as event
use Rattle.mlr_event.specs.Verb.{is_end, is_fault, is_last, is_list, is_open, is_part}
use Rattle.mlr_event.proofs.Ordered.{open-list}
use Rattle.read_files.specs.Sources.{until_fault}

-- what follows events without a fault, and a fault
pub until-clear : (xs : List Event) → list_any is_fault xs ≡ false → until_fault xs ≡ xs
until-clear [] h = refl
until-clear (x ∷ xs) h =
    let parts = or_parts (is_fault x) (list_any is_fault xs) h in
    ap (λ b. x ∷ cond b [] (until_fault xs)) parts.0 ∙ ap (λ l. x ∷ l) (until-clear xs parts.1)

pub until-following : (xs ys : List Event) → list_any is_fault xs ≡ false → until_fault (xs ++ ys) ≡ xs ++ until_fault ys
until-following [] ys h = refl
until-following (x ∷ xs) ys h =
    let parts = or_parts (is_fault x) (list_any is_fault xs) h in
    ap (λ b. x ∷ cond b [] (until_fault (xs ++ ys))) parts.0 ∙ ap (λ l. x ∷ l) (until-following xs ys parts.1)

pub until-faulty : (xs ys : List Event) → list_any is_fault xs ≡ true → until_fault (xs ++ ys) ≡ until_fault xs
until-faulty [] ys h = absurd (let e : false ≡ true = h in cc)
until-faulty (x ∷ xs) ys h = elim (cases_Bool (is_fault x)) [
  | inl is ↦ ap (λ b. x ∷ cond b [] (until_fault (xs ++ ys))) is ∙ sym (ap (λ b. x ∷ cond b [] (until_fault xs)) is)
  | inr none ↦
      ap (λ b. x ∷ cond b [] (until_fault (xs ++ ys))) none
      ∙ ap (λ l. x ∷ l) (until-faulty xs ys (sym (ap (λ b. b || list_any is_fault xs) none) ∙ h))
      ∙ sym (ap (λ b. x ∷ cond b [] (until_fault xs)) none)
]

-- more events give more
pub until-grows : (xs ys : List Event) → (more : List Event) × (until_fault (xs ++ ys) ≡ until_fault xs ++ more)
until-grows xs ys = elim (cases_Bool (list_any is_fault xs)) [
  | inl some ↦ ([], until-faulty xs ys some ∙ sym (append-nil (until_fault xs)))
  | inr none ↦ (until_fault ys, until-following xs ys none ∙ ap (λ l. l ++ until_fault ys) (sym (until-clear xs none)))
]

pub until-prefix : (xs ys zs : List Event) → (more : List Event) × (until_fault zs ≡ until_fault ys ++ more) → (more : List Event) × (until_fault (xs ++ zs) ≡ until_fault (xs ++ ys) ++ more)
until-prefix xs ys zs longer = elim (cases_Bool (list_any is_fault xs)) [
  | inl some ↦ ([], until-faulty xs zs some ∙ sym (until-faulty xs ys some) ∙ sym (append-nil (until_fault (xs ++ ys))))
  | inr none ↦ (
    longer.0,
    until-following xs zs none ∙ ap (λ l. xs ++ l) longer.1 ∙ sym (append_assoc xs (until_fault ys) longer.0) ∙ ap (λ l. l ++ longer.0) (sym (until-following xs ys none)),
  )
]

-- an end or a fault
last-is : (e : Event) → is_last e ≡ (is_end e || is_fault e)
last-is (event.Rec fields ctx) = refl
last-is (event.Text text) = refl
last-is (event.Out target piece) = refl
last-is (event.End ctx) = refl
last-is (event.Fault fault) = refl

fault-last : (e : Event) → is_fault e ≡ true → is_last e ≡ true
fault-last (event.Rec fields ctx) h = absurd (let e : false ≡ true = h in cc)
fault-last (event.Text text) h = absurd (let e : false ≡ true = h in cc)
fault-last (event.Out target piece) h = absurd (let e : false ≡ true = h in cc)
fault-last (event.End ctx) h = absurd (let e : false ≡ true = h in cc)
fault-last (event.Fault fault) h = refl

-- neither makes a list open
any-last : (xs : List Event) → list_any is_end xs ≡ false → list_any is_fault xs ≡ false → list_any is_last xs ≡ false
any-last [] ends faults = refl
any-last (x ∷ xs) ends faults =
    let e = or_parts (is_end x) (list_any is_end xs) ends in
    let f = or_parts (is_fault x) (list_any is_fault xs) faults in
    ap₂ (λ a b. a || b) (last-is x ∙ ap₂ (λ a b. a || b) e.0 f.0) (any-last xs e.1 f.1)

pub clear-open : (xs : List Event) → list_any is_end xs ≡ false → list_any is_fault xs ≡ false → is_open xs ≡ true
clear-open xs ends faults = ap not (any-last xs ends faults)

any-fault : (xs : List Event) → list_any is_last xs ≡ false → list_any is_fault xs ≡ false
any-fault [] h = refl
any-fault (x ∷ xs) h =
    let parts = or_parts (is_last x) (list_any is_last xs) h in
    ap₂ (λ a b. a || b) (inner (cases_Bool (is_fault x)) parts.0) (any-fault xs parts.1)
  where
    inner : (is_fault x ≡ true) ⊎ (is_fault x ≡ false) → is_last x ≡ false → is_fault x ≡ false
    inner (inl is) none = absurd (let e : true ≡ false = sym (fault-last x is) ∙ none in cc)
    inner (inr is) none = is

pub open-clear : (xs : List Event) → is_open xs ≡ true → list_any is_fault xs ≡ false
open-clear xs h = any-fault xs (not-true (list_any is_last xs) h)

-- events that are open up to their first fault have none
pub fault-none : (xs : List Event) → list_any is_fault (until_fault xs) ≡ false → list_any is_fault xs ≡ false
fault-none [] h = refl
fault-none (x ∷ xs) h =
    let parts = or_parts (is_fault x) (list_any is_fault (cond (is_fault x) [] (until_fault xs))) h in
    ap₂ (λ a b. a || b) parts.0 (fault-none xs (sym (ap (λ b. list_any is_fault (cond b [] (until_fault xs))) parts.0) ∙ parts.1))

pub until-open : (xs : List Event) → is_open (until_fault xs) ≡ true → list_any is_fault xs ≡ false
until-open xs h = fault-none xs (open-clear (until_fault xs) h)

-- a fault among them
pub fault-closed : (xs : List Event) → list_any is_fault xs ≡ true → is_open xs ≡ false
fault-closed xs h = elim (cases_Bool (is_open xs)) [
  | inl is ↦ absurd (let e : true ≡ false = sym h ∙ open-clear xs is in cc)
  | inr none ↦ none
]

pub end-closed : (xs : List Event) (y : Event) → is_last y ≡ true → is_open (xs ++ y ∷ []) ≡ false
end-closed xs y h =
    ap not (list_any-append is_last xs (y ∷ []) ∙ ap (λ b. list_any is_last xs || (b || false)) h ∙ or-true (list_any is_last xs))
  where
    or-true : (b : Bool) → (b || true) ≡ true
    or-true true = refl
    or-true false = refl

-- no end comes into them
pub until-no_end : (xs : List Event) → list_any is_end xs ≡ false → list_any is_end (until_fault xs) ≡ false
until-no_end [] h = refl
until-no_end (x ∷ xs) h =
    let parts = or_parts (is_end x) (list_any is_end xs) h in
    ap₂ (λ a b. a || b) parts.0 (rest (is_fault x) (until-no_end xs parts.1))
  where
    rest : (b : Bool) → list_any is_end (until_fault xs) ≡ false → list_any is_end (cond b [] (until_fault xs)) ≡ false
    rest true h = refl
    rest false h = h

-- events without an end, up to their first fault, are a list
pub until-list : (xs : List Event) → list_any is_end xs ≡ false → is_list (until_fault xs) ≡ true
until-list [] h = refl
until-list (x ∷ xs) h =
    let parts = or_parts (is_end x) (list_any is_end xs) h in
    elim (cases_Bool (is_fault x)) [
      | inl is ↦ ap (λ b. is_list (x ∷ cond b [] (until_fault xs))) is
      | inr none ↦ ap (λ b. is_list (x ∷ cond b [] (until_fault xs))) none ∙ step x (until_fault xs) (last-is x ∙ ap₂ (λ a b. a || b) parts.0 none) (until-list xs parts.1)
    ]
  where
    step : (x : Event) (zs : List Event) → is_last x ≡ false → is_list zs ≡ true → is_list (x ∷ zs) ≡ true
    step x [] inner list = refl
    step x (z ∷ zs) inner list = ap₂ (λ a b. not a && b) inner list

-- the rest of a part is one
list-rest : (xs ys : List Event) → is_list (xs ++ ys) ≡ true → is_list ys ≡ true
list-rest [] ys h = h
list-rest (x ∷ []) [] h = refl
list-rest (x ∷ []) (y ∷ ys) h = (and_parts (not (is_last x)) (is_list (y ∷ ys)) h).1
list-rest (x ∷ z ∷ xs) ys h = list-rest (z ∷ xs) ys (and_parts (not (is_last x)) (is_list (z ∷ xs ++ ys)) h).1

pub part-rest : (xs ys : List Event) → is_part (xs ++ ys) ≡ true → is_part ys ≡ true
part-rest xs ys h =
    let parts = and_parts (not (list_any is_end (xs ++ ys))) (is_list (xs ++ ys)) h in
    let ends = or_parts (list_any is_end xs) (list_any is_end ys) (sym (list_any-append is_end xs ys) ∙ not-true (list_any is_end (xs ++ ys)) parts.0) in
    ap₂ (λ a b. not a && b) ends.1 (list-rest xs ys parts.1)

-- a part is what it is up to its fault
list-until : (xs : List Event) → is_list xs ≡ true → until_fault xs ≡ xs
list-until [] h = refl
list-until (x ∷ []) h = alone (is_fault x) where
  alone : (b : Bool) → x ∷ cond b [] [] ≡ x ∷ []
  alone true = refl
  alone false = refl
list-until (x ∷ y ∷ xs) h =
    let parts = and_parts (not (is_last x)) (is_list (y ∷ xs)) h in
    let none = open-clear (x ∷ []) (ap (λ b. not (b || false)) (not-true (is_last x) parts.0)) in
    ap (λ b. x ∷ cond b [] (until_fault (y ∷ xs))) (or_parts (is_fault x) false none).0 ∙ ap (λ l. x ∷ l) (list-until (y ∷ xs) parts.1)

pub part-until : (xs : List Event) → is_part xs ≡ true → until_fault xs ≡ xs
part-until xs h = list-until xs (and_parts (not (list_any is_end xs)) (is_list xs) h).1

pub part-no_end : (xs : List Event) → is_part xs ≡ true → list_any is_end xs ≡ false
part-no_end xs h = not-true (list_any is_end xs) (and_parts (not (list_any is_end xs)) (is_list xs) h).0

-- events up to a fault, with an end after them where there is none
pub ended-list : (xs : List Event) (e : Event) (whole : Bool) → list_any is_end xs ≡ false → (whole ≡ true → list_any is_fault xs ≡ false) → is_list (until_fault xs ++ cond whole (e ∷ []) []) ≡ true
ended-list xs e true ends clear =
    ap (λ l. is_list (l ++ e ∷ [])) (until-clear xs (clear refl)) ∙ open-list xs (e ∷ []) (clear-open xs ends (clear refl)) refl
ended-list xs e false ends clear = ap is_list (append-nil (until_fault xs)) ∙ until-list xs ends
