-- A verb that gives each event as it is, at its place.
use Rattle.std.proofs.Common.{◌≡◌, ℕ, zero, suc, ◌<◌, Bool, true, false, ◌&&◌, List, [], ◌∷◌, ◌++◌, length, take, Some, None, cond, refl, ap, sym, ◌∙◌, subst, arith}
use Rattle.std.specs.Prelude.{is_some, slice_get}
use Rattle.std.specs.List.{find}
use Rattle.std.proofs.lemmas.List.{append-nil}
use Rattle.mlr_event.specs.Adding.{Adds}
use Rattle.mlr_event.specs.declared.event.Ctx.{Ctx}
use Rattle.mlr_event.specs.declared.event.Event.{Event}
use Rattle.mlr_event.specs.Verb.{PassesAll, Verb, is_list, is_open, made}
use Rattle.mlr_event.proofs.Ordered.{open-before, open-list}
use Rattle.verb_chain.specs.Chain.{closing, context_or, cut, last_context, prefixes, zero_context}
use Rattle.verb_chain.specs.declared.gate.Gate.{Gate}
use Rattle.verb_chain.specs.Represents.{GateRepresents, is_cut, made_at}
use Rattle.verb_chain.proofs.Cutting.{cut-whole}

-- a verb that is never closed gets no early end
never-closing : (verb : Verb) → ((events : List Event) → verb.closed events ≡ false) → (events : List Event) → closing verb events ≡ None
never-closing verb never events = none-found (prefixes events)
  where
    and-false : (b : Bool) → (b && false) ≡ false
    and-false true = refl
    and-false false = refl

    none-found : (xs : List (List Event)) → find (λ prefix. is_open prefix && verb.closed prefix) xs ≡ None
    none-found [] = refl
    none-found (x ∷ xs) = ap (λ b. cond b (Some x) (find (λ prefix. is_open prefix && verb.closed prefix) xs)) (ap (λ b. is_open x && b) (never x) ∙ and-false (is_open x)) ∙ none-found xs

pub never-cut : (quiet : Bool) (verb : Verb) → ((events : List Event) → verb.closed events ≡ false) → (events : List Event) → is_cut quiet verb events ≡ false
never-cut false verb never events = refl
never-cut true verb never events = ap is_some (never-closing verb never events)

list-before : (xs ys : List Event) → is_list (xs ++ ys) ≡ true → is_list xs ≡ true
list-before xs [] list = ap is_list (sym (append-nil xs)) ∙ list
list-before xs (y ∷ ys) list = open-list-alone (open-before xs y ys list)
  where
    open-list-alone : is_open xs ≡ true → is_list xs ≡ true
    open-list-alone is = ap is_list (sym (append-nil xs)) ∙ open-list xs [] is refl

contexts : (ctx : Ctx) (xs ys : List Event) → last_context ctx (xs ++ ys) ≡ last_context (last_context ctx xs) ys
contexts ctx [] ys = refl
contexts ctx (x ∷ xs) ys = contexts (context_or ctx x) xs ys

-- one more event at the end of a prefix
pub context-step : (events : List Event) (place : ℕ) (e : Event) → slice_get events place ≡ Some e → (ctx : Ctx) → last_context ctx (take (suc place) events) ≡ context_or (last_context ctx (take place events)) e
context-step [] place e is ctx = absurd (let f : None ≡ Some e = is in cc)
context-step (x ∷ events) zero e is ctx = ap (context_or ctx) {x = x} {y = e} (let f : Some x ≡ Some e = is in cc)
context-step (x ∷ events) (suc place) e is ctx = context-step events place e is (context_or ctx x)

pub context-before : (events : List Event) (before place : ℕ) (e : Event) → place ≡ suc before → slice_get events before ≡ Some e → (ctx : Ctx) → last_context ctx (take place events) ≡ context_or (last_context ctx (take before events)) e
context-before events before place e after is ctx = ap (λ n. last_context ctx (take n events)) after ∙ context-step events before e is ctx

pub never-past : (events : List Event) (place : ℕ) → place < length events → slice_get events place ≡ None → ⊥
never-past [] place below is = omega (arith, below)
never-past (x ∷ events) zero below is = let f : Some x ≡ None = is in cc
never-past (x ∷ events) (suc place) below is = never-past events place (omega (arith, below)) is

module _ {S : Type 0} (verb : S → Verb) (represents : S → List Event → Type 0) (gate : Gate S) (passes : PassesAll (verb gate.verb) (represents gate.verb)) where
  uncut : (events : List Event) → is_cut gate.quiet (verb gate.verb) events ≡ false
  uncut events = never-cut gate.quiet (verb gate.verb) passes.unclosed events

  whole : (events : List Event) → cut gate.quiet (verb gate.verb) events ≡ events
  whole events = cut-whole gate.quiet (verb gate.verb) events (uncut events)

  pub pass-represents : (given events : List Event) (ctx : Ctx) → GateRepresents verb represents given gate → ctx ≡ last_context gate.at events
      → GateRepresents verb represents (given ++ events) (record { verb = gate.verb; quiet = gate.quiet; at = ctx; shut = gate.shut })
  pass-represents given events ctx holds here =
      let open_is : gate.shut ≡ false = holds.shut ∙ uncut given in
      record {
        shut = open_is ∙ sym (uncut (given ++ events));
        inner = subst (represents gate.verb) (sym (whole (given ++ events))) (passes.keeps given events (subst (represents gate.verb) (whole given) holds.inner));
        at = λ still. here ∙ ap (λ c. last_context c events) (holds.at open_is) ∙ sym (contexts zero_context given events);
      }

  at-place : (events : List Event) → is_list events ≡ true → made_at gate.quiet (verb gate.verb) events ≡ events
  at-place events list = ap (made (verb gate.verb)) (whole events) ∙ passes.same events list

  pub pass-made : (given events : List Event) → is_list (given ++ events) ≡ true → made_at gate.quiet (verb gate.verb) (given ++ events) ≡ made_at gate.quiet (verb gate.verb) given ++ events
  pass-made given events list = at-place (given ++ events) list ∙ ap (λ t. t ++ events) (sym (at-place given (list-before given events list)))

-- a verb that no event closes takes a list at once
module _ {S : Type 0} (verb : S → Verb) (represents : S → List Event → Type 0) (gate : Gate S) (never : (given : List Event) → is_cut gate.quiet (verb gate.verb) given ≡ false) where
  all-given : (events : List Event) → cut gate.quiet (verb gate.verb) events ≡ events
  all-given events = cut-whole gate.quiet (verb gate.verb) events (never events)

  pub whole-inner : (given : List Event) → GateRepresents verb represents given gate → represents gate.verb given
  whole-inner given holds = subst (represents gate.verb) (all-given given) holds.inner

  pub whole-represents : (given events : List Event) (after : S) (ctx : Ctx) → GateRepresents verb represents given gate → verb after ≡ verb gate.verb → represents after (given ++ events) → ctx ≡ last_context gate.at events
      → GateRepresents verb represents (given ++ events) (record { verb = after; quiet = gate.quiet; at = ctx; shut = gate.shut })
  whole-represents given events after ctx holds same inner here =
      let open_is : gate.shut ≡ false = holds.shut ∙ never given in
      record {
        shut = open_is ∙ sym (never (given ++ events)) ∙ ap (λ v. is_cut gate.quiet v (given ++ events)) (sym same);
        inner = subst (represents after) (sym (ap (λ v. cut gate.quiet v (given ++ events)) same ∙ all-given (given ++ events))) inner;
        at = λ still. here ∙ ap (λ c. last_context c events) (holds.at open_is) ∙ sym (contexts zero_context given events);
      }

  pub whole-adds : (given events old new : List Event) → Adds old new (made (verb gate.verb) given) (made (verb gate.verb) (given ++ events))
      → Adds old new (made_at gate.quiet (verb gate.verb) given) (made_at gate.quiet (verb gate.verb) (given ++ events))
  whole-adds given events old new adds =
      (adds.0, ap (made (verb gate.verb)) (all-given (given ++ events)) ∙ adds.1 ∙ ap (λ t. made (verb gate.verb) t ++ adds.0) (sym (all-given given)), adds.2)
