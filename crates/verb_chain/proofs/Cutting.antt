-- The events that a verb is given at its place, with one more event.
use Rattle.std.proofs.Common.{◌≡◌, Bool, true, false, not, cond, ◌&&◌, ◌||◌, List, [], ◌∷◌, ◌++◌, Option, Some, None, refl, ap, ap₂, sym, ◌∙◌, append_assoc, inl, inr}
use Rattle.std.specs.Prelude.{is_some}
use Rattle.std.specs.List.{find, list_any}
use Rattle.std.specs.Option.{option_map}
use Rattle.std.proofs.lemmas.Bool.{and_parts, cases_Bool, not-true}
use Rattle.std.proofs.lemmas.List.{append-nil}
use Rattle.std.proofs.lemmas.List.Folds.{list_any-append}
use Rattle.mlr_event.specs.declared.event.Ctx.{Ctx}
use Rattle.mlr_event.specs.declared.event.Event.{Event}
use Rattle.mlr_event.specs.declared.event.Event.TheVariants as event
use Rattle.mlr_event.specs.Verb.{Verb, is_last, is_open}
use Rattle.verb_chain.specs.Chain.{closing, context_or, cut, prefixes, last_context, zero_context}
use Rattle.verb_chain.specs.Represents.{is_cut}
use Rattle.verb_chain.proofs.Growing.{closes, closing-least, cut-closed, ended, least, least-split}

pub context-next : (ctx : Ctx) (events : List Event) (e : Event) → last_context ctx (events ++ e ∷ []) ≡ context_or (last_context ctx events) e
context-next ctx [] e = refl
context-next ctx (x ∷ events) e = context-next (context_or ctx x) events e

-- an event that is neither an end nor a fault leaves a list open
pub open-next : (events : List Event) (e : Event) → is_open events ≡ true → is_open (events ++ e ∷ []) ≡ not (is_last e)
open-next events e open_is =
    ap not (list_any-append is_last events (e ∷ []) ∙ ap (λ b. b || (is_last e || false)) (not-true (list_any is_last events) open_is) ∙ or-false (is_last e))
  where
    or-false : (b : Bool) → (b || false) ≡ b
    or-false true = refl
    or-false false = refl

-- a verb that was not closed is given all events
pub cut-whole : (quiet : Bool) (verb : Verb) (events : List Event) → is_cut quiet verb events ≡ false → cut quiet verb events ≡ events
cut-whole false verb events is = refl
cut-whole true verb events is = go (closing verb events) is
  where
    go : (o : Option (List Event)) → is_some o ≡ false → ended o events ≡ events
    go None is = refl
    go (Some prefix) is = absurd (let e : true ≡ false = is in cc)

-- a verb that was closed stays so, and is given no more events
pub cut-again : (quiet : Bool) (verb : Verb) (events : List Event) (e : Event) → is_cut quiet verb events ≡ true
    → (is_cut quiet verb (events ++ e ∷ []) ≡ true) × (cut quiet verb (events ++ e ∷ []) ≡ cut quiet verb events)
cut-again false verb events e is = absurd (let e : false ≡ true = is in cc)
cut-again true verb events e is = (closed, cut-closed verb events (e ∷ []) is)
  where
    closed : is_some (closing verb (events ++ e ∷ [])) ≡ true
    closed = elim (least-split (closes verb) [] events (e ∷ [])) [
      | inl early ↦ ap is_some (closing-least verb (events ++ e ∷ []) ∙ early.2)
      | inr late ↦ absurd (let e : false ≡ true = sym (ap is_some (closing-least verb events ∙ late.0)) ∙ is in cc)
    ]

-- if one more event closes a verb that was not closed, the whole list closes it
closing-next : (verb : Verb) (events : List Event) (e : Event) → is_some (closing verb events) ≡ false
    → closing verb (events ++ e ∷ []) ≡ cond (closes verb (events ++ e ∷ [])) (Some (events ++ e ∷ [])) None
closing-next verb events e is = elim (least-split (closes verb) [] events (e ∷ [])) [
  | inl early ↦ absurd (let e : true ≡ false = sym (ap is_some (closing-least verb events ∙ early.1)) ∙ is in cc)
  | inr late ↦ closing-least verb (events ++ e ∷ []) ∙ late.1 ∙ ap (option_map (λ prefix. events ++ prefix)) (ap (λ b. cond b (Some []) (option_map (λ prefix. e ∷ prefix) (cond (closes verb (events ++ e ∷ [])) (Some []) None))) (not-closed events late.0)) ∙ last (closes verb (events ++ e ∷ []))
]
  where
    none-full : (test : List Event → Bool) (before xs : List Event) → least test before xs ≡ None → test (before ++ xs) ≡ false
    none-full test before [] is = elim (cases_Bool (test before)) [
      | inl passes ↦ absurd (let e : Some [] ≡ None = sym (ap (λ b. cond b (Some []) None) passes) ∙ is in cc)
      | inr fails ↦ ap test (append-nil before) ∙ fails
    ]
    none-full test before (x ∷ xs) is = elim (cases_Bool (test before)) [
      | inl passes ↦ absurd (let e : Some [] ≡ None = sym (ap (λ b. cond b (Some []) (option_map (λ prefix. x ∷ prefix) (least test (before ++ x ∷ []) xs))) passes) ∙ is in cc)
      | inr fails ↦
          ap test (sym (append_assoc before (x ∷ []) xs))
          ∙ none-full test (before ++ x ∷ []) xs (unmap (least test (before ++ x ∷ []) xs) (sym (ap (λ b. cond b (Some []) (option_map (λ prefix. x ∷ prefix) (least test (before ++ x ∷ []) xs))) fails) ∙ is))
    ]
      where
        unmap : (o : Option (List Event)) → option_map (λ prefix. x ∷ prefix) o ≡ None → o ≡ None
        unmap None is = refl
        unmap (Some prefix) is = absurd (let e : Some (x ∷ prefix) ≡ None = is in cc)

    not-closed : (events : List Event) → least (closes verb) [] events ≡ None → closes verb events ≡ false
    not-closed events is = none-full (closes verb) [] events is

    last : (b : Bool) → option_map (λ prefix. events ++ prefix) (option_map (λ prefix. e ∷ prefix) (cond b (Some []) None)) ≡ cond b (Some (events ++ e ∷ [])) None
    last true = refl
    last false = refl

-- one more event doesn't close the verb
pub cut-open : (quiet : Bool) (verb : Verb) (events : List Event) (e : Event) → is_cut quiet verb events ≡ false → is_open events ≡ true → (quiet && (not (is_last e) && verb.closed (events ++ e ∷ []))) ≡ false
    → (is_cut quiet verb (events ++ e ∷ []) ≡ false) × (cut quiet verb (events ++ e ∷ []) ≡ events ++ e ∷ [])
cut-open quiet verb events e is open_is open_still = let still = kept quiet is open_still in (still, cut-whole quiet verb (events ++ e ∷ []) still)
  where
    kept : (quiet : Bool) → is_cut quiet verb events ≡ false → (quiet && (not (is_last e) && verb.closed (events ++ e ∷ []))) ≡ false → is_cut quiet verb (events ++ e ∷ []) ≡ false
    kept false is open_still = refl
    kept true is open_still =
        ap is_some (closing-next verb events e is)
        ∙ ap (λ b. is_some (cond b (Some (events ++ e ∷ [])) None)) (ap (λ b. b && verb.closed (events ++ e ∷ [])) (open-next events e open_is) ∙ open_still)

-- one more event closes the verb
pub cut-now : (verb : Verb) (events : List Event) (e : Event) → is_cut true verb events ≡ false → is_open events ≡ true → is_last e ≡ false → verb.closed (events ++ e ∷ []) ≡ true
    → (is_cut true verb (events ++ e ∷ []) ≡ true) × (cut true verb (events ++ e ∷ []) ≡ (events ++ e ∷ []) ++ event.End (last_context zero_context (events ++ e ∷ [])) ∷ [])
cut-now verb events e is open_is inner closed =
    let now : closes verb (events ++ e ∷ []) ≡ true = ap₂ (λ a b. a && b) (open-next events e open_is ∙ ap not inner) closed in
    let some : closing verb (events ++ e ∷ []) ≡ Some (events ++ e ∷ []) = closing-next verb events e is ∙ ap (λ b. cond b (Some (events ++ e ∷ [])) None) now in
    (ap is_some some, ap (λ o. ended o (events ++ e ∷ [])) some)

some-injective : (x y : List Event) → Some x ≡ Some y → x ≡ y
some-injective x y is = cc

-- the prefix that closes a verb has no end and no fault
pub closing-open : (verb : Verb) (events prefix : List Event) → closing verb events ≡ Some prefix → is_open prefix ≡ true
closing-open verb events prefix is = (and_parts (is_open prefix) (verb.closed prefix) (found-passes (prefixes events) is)).0
  where
    found-passes : (xs : List (List Event)) → find (closes verb) xs ≡ Some prefix → closes verb prefix ≡ true
    found-passes [] is = absurd (let e : None ≡ Some prefix = is in cc)
    found-passes (x ∷ xs) is = elim (cases_Bool (closes verb x)) [
      | inl passes ↦ ap (closes verb) (some-injective prefix x (sym (sym (ap (λ b. cond b (Some x) (find (closes verb) xs)) passes) ∙ is))) ∙ passes
      | inr fails ↦ found-passes xs (sym (ap (λ b. cond b (Some x) (find (closes verb) xs)) fails) ∙ is)
    ]
