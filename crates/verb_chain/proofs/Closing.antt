-- A chain that is given an end or a fault makes an end or a fault.
use Rattle.std.proofs.Common.{◌≡◌, Bool, true, false, not, cond, ◌&&◌, ◌||◌, List, [], ◌∷◌, ◌++◌, Option, Some, None, refl, ap, sym, ◌∙◌, inl, inr}
use Rattle.std.specs.List.{list_any}
use Rattle.std.proofs.lemmas.Bool.{cases_Bool}
use Rattle.std.proofs.lemmas.List.Folds.{list_any-append}
use Rattle.mlr_event.specs.declared.event.Event.{Event}
use Rattle.mlr_event.specs.declared.event.Event.TheVariants as event
use Rattle.mlr_event.specs.Verb.{Verb, gives, is_fault, is_last, is_open, made, made_after, then_unless_fault}
use Rattle.mlr_event.proofs.Making.{no-fault}
use Rattle.verb_chain.specs.Chain.{chain_from, closing, cut, last_context, zero_context}
use Rattle.verb_chain.proofs.Growing.{ended}

abbrev HasLast : List Event → Type 0
HasLast events = list_any is_last events ≡ true

or-true : (b : Bool) → (b || true) ≡ true
or-true true = refl
or-true false = refl

fault-last : (e : Event) → is_fault e ≡ true → is_last e ≡ true
fault-last (event.Rec fields ctx) is = absurd (let f : false ≡ true = is in cc)
fault-last (event.Text text) is = absurd (let f : false ≡ true = is in cc)
fault-last (event.Out target piece) is = absurd (let f : false ≡ true = is in cc)
fault-last (event.End ctx) is = refl
fault-last (event.Fault fault) is = refl

faults-last : (events : List Event) → list_any is_fault events ≡ true → HasLast events
faults-last [] is = absurd (let f : false ≡ true = is in cc)
faults-last (e ∷ events) is = elim (cases_Bool (is_fault e)) as (λ _. HasLast (e ∷ events)) [
  | inl fault ↦ ap (λ b. b || list_any is_last events) (fault-last e fault)
  | inr other ↦ ap (λ b. is_last e || b) (faults-last events (sym (ap (λ b. b || list_any is_fault events) other) ∙ is)) ∙ or-true (is_last e)
]

last-first : (xs ys : List Event) → HasLast xs → HasLast (then_unless_fault xs ys)
last-first xs ys has = elim (cases_Bool (list_any is_fault xs)) as (λ _. HasLast (then_unless_fault xs ys)) [
  | inl some ↦ ap (list_any is_last) (ap (λ b. cond b xs (xs ++ ys)) some) ∙ has
  | inr none ↦ ap (list_any is_last) (no-fault xs ys none) ∙ list_any-append is_last xs ys ∙ ap (λ b. b || list_any is_last ys) has
]

last-then : (xs ys : List Event) → HasLast ys → HasLast (then_unless_fault xs ys)
last-then xs ys has = elim (cases_Bool (list_any is_fault xs)) as (λ _. HasLast (then_unless_fault xs ys)) [
  | inl some ↦ ap (list_any is_last) (ap (λ b. cond b xs (xs ++ ys)) some) ∙ faults-last xs some
  | inr none ↦ ap (list_any is_last) (no-fault xs ys none) ∙ list_any-append is_last xs ys ∙ ap (λ b. list_any is_last xs || b) has ∙ or-true (list_any is_last xs)
]

gives-last : (verb : Verb) (before : List Event) (e : Event) → is_last e ≡ true → HasLast (gives verb before e)
gives-last verb before (event.Rec fields ctx) is = absurd (let f : false ≡ true = is in cc)
gives-last verb before (event.Text text) is = absurd (let f : false ≡ true = is in cc)
gives-last verb before (event.Out target piece) is = absurd (let f : false ≡ true = is in cc)
gives-last verb before (event.End ctx) is = last-then (verb.late before ctx) (event.End ctx ∷ []) refl
gives-last verb before (event.Fault fault) is = refl

following-last : (verb : Verb) (before events : List Event) → HasLast events → HasLast (made_after verb before events)
following-last verb before [] has = absurd (let f : false ≡ true = has in cc)
following-last verb before (e ∷ events) has = elim (cases_Bool (is_last e)) as (λ _. HasLast (made_after verb before (e ∷ events))) [
  | inl last ↦ last-first (gives verb before e) (made_after verb (before ++ e ∷ []) events) (gives-last verb before e last)
  | inr inner ↦
      last-then (gives verb before e) (made_after verb (before ++ e ∷ []) events)
      (following-last verb (before ++ e ∷ []) events (sym (ap (λ b. b || list_any is_last events) inner) ∙ has))
]

cut-last : (quiet : Bool) (verb : Verb) (events : List Event) → HasLast events → HasLast (cut quiet verb events)
cut-last false verb events has = has
cut-last true verb events has = go (closing verb events)
  where
    go : (found : Option (List Event)) → HasLast (ended found events)
    go None = has
    go (Some prefix) = list_any-append is_last prefix (event.End (last_context zero_context prefix) ∷ []) ∙ or-true (list_any is_last prefix)

chain-last : (quiet : Bool) (verbs : List Verb) (events : List Event) → HasLast events → HasLast (chain_from quiet verbs events)
chain-last quiet [] events has = has
chain-last quiet (verb ∷ verbs) events has =
    chain-last (quiet && not verb.effects) verbs (made verb (cut quiet verb events))
    (last-then verb.first (made_after verb [] (cut quiet verb events)) (following-last verb [] (cut quiet verb events) (cut-last quiet verb events has)))

not-false : (b : Bool) → not b ≡ false → b ≡ true
not-false true is = refl
not-false false is = absurd (let f : true ≡ false = is in cc)

pub chain-closes : (quiet : Bool) (verbs : List Verb) (events : List Event) → is_open events ≡ false → is_open (chain_from quiet verbs events) ≡ false
chain-closes quiet verbs events closed = ap not (chain-last quiet verbs events (not-false (list_any is_last events) closed))
