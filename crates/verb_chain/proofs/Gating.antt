-- A verb at its place takes one more event.
use Rattle.std.proofs.Common.{◌≡◌, Bool, true, false, not, ◌&&◌, List, [], ◌∷◌, ◌++◌, ap, sym, ◌∙◌, subst}
use Rattle.std.proofs.lemmas.Bool.{and_parts, not-true}
use Rattle.mlr_event.specs.Adding.{Adds}
use Rattle.mlr_event.specs.declared.event.Ctx.{Ctx}
use Rattle.mlr_event.specs.declared.event.Event.{Event}
use Rattle.mlr_event.specs.declared.event.Event.TheVariants as event
use Rattle.mlr_event.specs.Verb.{Verb, is_last, is_open, made}
use Rattle.verb_chain.specs.Chain.{context_or, cut, last_context, zero_context}
use Rattle.verb_chain.specs.declared.gate.Gate.{Gate}
use Rattle.verb_chain.specs.Represents.{GateRepresents, is_cut, made_at}
use Rattle.mlr_event.proofs.Listed.{adds-both, adds-none}
use Rattle.verb_chain.proofs.Cutting.{context-next, cut-again, cut-now, cut-open, cut-whole, open-next}

module _ {S : Type 0} (verb : S → Verb) (represents : S → List Event → Type 0) where
  -- a closed verb takes nothing
  pub shut-represents : (gate : Gate S) (given : List Event) (e : Event) → gate.shut ≡ true → GateRepresents verb represents given gate → GateRepresents verb represents (given ++ e ∷ []) gate
  shut-represents gate given e is at =
      let again = cut-again gate.quiet (verb gate.verb) given e (sym at.shut ∙ is) in
      record {
        shut = is ∙ sym again.0;
        inner = subst (represents gate.verb) (sym again.1) at.inner;
        at = λ open_is. absurd (let e : true ≡ false = sym is ∙ open_is in cc);
      }

  pub shut-adds : (gate : Gate S) (given : List Event) (e : Event) (out : List Event) → gate.shut ≡ true → GateRepresents verb represents given gate
      → Adds out out (made_at gate.quiet (verb gate.verb) given) (made_at gate.quiet (verb gate.verb) (given ++ e ∷ []))
  shut-adds gate given e out is at =
      adds-none out (made_at gate.quiet (verb gate.verb) given) (made_at gate.quiet (verb gate.verb) (given ++ e ∷ [])) (ap (made (verb gate.verb)) (cut-again gate.quiet (verb gate.verb) given e (sym at.shut ∙ is)).1)

  -- a verb that isn't closed was given the whole list
  pub open-inner : (gate : Gate S) (given : List Event) → gate.shut ≡ false → GateRepresents verb represents given gate → represents gate.verb given
  open-inner gate given is at = subst (represents gate.verb) (cut-whole gate.quiet (verb gate.verb) given (sym at.shut ∙ is)) at.inner

  pub context-is : (gate : Gate S) (given : List Event) (e : Event) → gate.shut ≡ false → GateRepresents verb represents given gate → context_or gate.at e ≡ last_context zero_context (given ++ e ∷ [])
  context-is gate given e is at = ap (λ ctx. context_or ctx e) (at.at is) ∙ sym (context-next zero_context given e)

  -- it takes an event, and isn't closed by it
  pub open-represents : (gate : Gate S) (given : List Event) (e : Event) (after : S) (ctx : Ctx) → gate.shut ≡ false → GateRepresents verb represents given gate → is_open given ≡ true
      → verb after ≡ verb gate.verb → represents after (given ++ e ∷ []) → ctx ≡ context_or gate.at e → (gate.quiet && (not (is_last e) && (verb after).closed (given ++ e ∷ []))) ≡ false
      → GateRepresents verb represents (given ++ e ∷ []) (record { verb = after; quiet = gate.quiet; at = ctx; shut = gate.shut })
  open-represents gate given e after ctx is at open_is same inner here still =
      let next = cut-open gate.quiet (verb after) given e (ap (λ v. is_cut gate.quiet v given) same ∙ sym at.shut ∙ is) open_is still in
      record {
        shut = is ∙ sym next.0;
        inner = subst (represents after) (sym next.1) inner;
        at = λ open_still. here ∙ context-is gate given e is at;
      }

  pub open-adds : (gate : Gate S) (given : List Event) (e : Event) (after : S) (old new : List Event) → gate.shut ≡ false → GateRepresents verb represents given gate → is_open given ≡ true
      → verb after ≡ verb gate.verb → (gate.quiet && (not (is_last e) && (verb after).closed (given ++ e ∷ []))) ≡ false → Adds old new (made (verb gate.verb) given) (made (verb gate.verb) (given ++ e ∷ []))
      → Adds old new (made_at gate.quiet (verb gate.verb) given) (made_at gate.quiet (verb gate.verb) (given ++ e ∷ []))
  open-adds gate given e after old new is at open_is same still adds =
      let before : cut gate.quiet (verb gate.verb) given ≡ given = cut-whole gate.quiet (verb gate.verb) given (sym at.shut ∙ is) in
      let next = cut-open gate.quiet (verb gate.verb) given e (sym at.shut ∙ is) open_is (ap (λ v. gate.quiet && (not (is_last e) && v.closed (given ++ e ∷ []))) (sym same) ∙ still) in
      (adds.0, ap (made (verb gate.verb)) next.1 ∙ adds.1 ∙ ap (λ t. made (verb gate.verb) t ++ adds.0) (sym before), adds.2)

  -- it takes an event, is closed by it, and is given its end
  parts-of : (quiet : Bool) (last closed : Bool) → (quiet && (not last && closed)) ≡ true → (quiet ≡ true) × (last ≡ false) × (closed ≡ true)
  parts-of quiet last closed is = let a = and_parts quiet (not last && closed) is in let b = and_parts (not last) closed a.1 in (a.0, not-true last b.0, b.1)

  now-cut : (quiet : Bool) (v : Verb) (given : List Event) (e : Event) → is_cut quiet v given ≡ false → is_open given ≡ true → (quiet && (not (is_last e) && v.closed (given ++ e ∷ []))) ≡ true
      → (is_cut quiet v (given ++ e ∷ []) ≡ true) × (cut quiet v (given ++ e ∷ []) ≡ (given ++ e ∷ []) ++ event.End (last_context zero_context (given ++ e ∷ [])) ∷ [])
  now-cut true v given e not_cut open_is is = let parts = parts-of true (is_last e) (v.closed (given ++ e ∷ [])) is in cut-now v given e not_cut open_is parts.1 parts.2
  now-cut false v given e not_cut open_is is = absurd (let e : false ≡ true = is in cc)

  pub closed-open : (quiet : Bool) (v : Verb) (given : List Event) (e : Event) → is_open given ≡ true → (quiet && (not (is_last e) && v.closed (given ++ e ∷ []))) ≡ true → is_open (given ++ e ∷ []) ≡ true
  closed-open quiet v given e open_is is = open-next given e open_is ∙ ap not (parts-of quiet (is_last e) (v.closed (given ++ e ∷ [])) is).1

  pub closed-represents : (gate : Gate S) (given : List Event) (e : Event) (after last : S) (ctx : Ctx) → gate.shut ≡ false → GateRepresents verb represents given gate → is_open given ≡ true
      → verb after ≡ verb gate.verb → verb last ≡ verb after → ctx ≡ context_or gate.at e → (gate.quiet && (not (is_last e) && (verb after).closed (given ++ e ∷ []))) ≡ true
      → represents last ((given ++ e ∷ []) ++ event.End ctx ∷ [])
      → GateRepresents verb represents (given ++ e ∷ []) (record { verb = last; quiet = gate.quiet; at = ctx; shut = true })
  closed-represents gate given e after last ctx is at open_is same same_2 here closed inner =
      let all = same_2 ∙ same in
      let next = now-cut gate.quiet (verb last) given e (ap (λ v. is_cut gate.quiet v given) all ∙ sym at.shut ∙ is) open_is (ap (λ v. gate.quiet && (not (is_last e) && v.closed (given ++ e ∷ []))) same_2 ∙ closed) in
      record {
        shut = sym next.0;
        inner = subst (represents last) (ap (λ c. (given ++ e ∷ []) ++ event.End c ∷ []) (here ∙ context-is gate given e is at) ∙ sym next.1) inner;
        at = λ open_still. absurd (let e : true ≡ false = open_still in cc);
      }

  pub closed-adds : (gate : Gate S) (given : List Event) (e : Event) (after : S) (ctx : Ctx) (old middle new : List Event) → gate.shut ≡ false → GateRepresents verb represents given gate → is_open given ≡ true
      → verb after ≡ verb gate.verb → ctx ≡ context_or gate.at e → (gate.quiet && (not (is_last e) && (verb after).closed (given ++ e ∷ []))) ≡ true
      → Adds old middle (made (verb gate.verb) given) (made (verb gate.verb) (given ++ e ∷ [])) → Adds middle new (made (verb after) (given ++ e ∷ [])) (made (verb after) ((given ++ e ∷ []) ++ event.End ctx ∷ []))
      → Adds old new (made_at gate.quiet (verb gate.verb) given) (made_at gate.quiet (verb gate.verb) (given ++ e ∷ []))
  closed-adds gate given e after ctx old middle new is at open_is same here closed first second =
      let v = verb gate.verb in
      let before : cut gate.quiet v given ≡ given = cut-whole gate.quiet v given (sym at.shut ∙ is) in
      let next = now-cut gate.quiet v given e (sym at.shut ∙ is) open_is (ap (λ v. gate.quiet && (not (is_last e) && v.closed (given ++ e ∷ []))) (sym same) ∙ closed) in
      let end_is : (given ++ e ∷ []) ++ event.End ctx ∷ [] ≡ cut gate.quiet v (given ++ e ∷ []) = ap (λ c. (given ++ e ∷ []) ++ event.End c ∷ []) (here ∙ context-is gate given e is at) ∙ sym next.1 in
      let second_2 : Adds middle new (made v (given ++ e ∷ [])) (made v ((given ++ e ∷ []) ++ event.End ctx ∷ [])) = subst (λ v. Adds middle new (made v (given ++ e ∷ [])) (made v ((given ++ e ∷ []) ++ event.End ctx ∷ []))) same second in
      let both = adds-both old middle new (made v given) (made v (given ++ e ∷ [])) (made v ((given ++ e ∷ []) ++ event.End ctx ∷ [])) first second_2 in
      (both.0, ap (made v) (sym end_is) ∙ both.1 ∙ ap (λ t. made v t ++ both.0) (sym before), both.2)
