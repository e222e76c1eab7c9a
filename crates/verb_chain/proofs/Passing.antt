-- A verb at its place takes all events of a list.
use Rattle.std.proofs.Common.{◌≡◌, true, List, [], ◌∷◌, ◌++◌, refl, ap, sym, ◌∙◌, subst, append_assoc}
use Rattle.std.proofs.lemmas.List.{append-nil}
use Rattle.mlr_event.specs.Adding.{Adds}
use Rattle.mlr_event.specs.declared.event.Event.{Event}
use Rattle.mlr_event.specs.Verb.{Verb, is_list, is_open}
use Rattle.mlr_event.proofs.Ordered.{open-before}
use Rattle.verb_chain.specs.declared.gate.Gate.{Gate}
use Rattle.verb_chain.specs.Represents.{GateRepresents, IsSameGate, made_at}
use Rattle.mlr_event.proofs.Listed.{adds-both, adds-none}

module _ {S : Type 0} (verb : S → Verb) (represents : S → List Event → Type 0) where
  abbrev pub MadeBy : Gate S → List Event → List Event
  MadeBy gate events = made_at gate.quiet (verb gate.verb) events

  pub record Passed (gate : Gate S) (events out : List Event) (now : Gate S) (left out_now : List Event) : Type 0 where
    pub passed : List Event
    pub all : events ≡ passed ++ left
    pub same : IsSameGate verb now gate
    pub at : (given : List Event) → GateRepresents verb represents given gate → is_list (given ++ events) ≡ true → GateRepresents verb represents (given ++ passed) now
    pub adds : (given : List Event) → GateRepresents verb represents given gate → is_list (given ++ events) ≡ true → Adds out out_now (MadeBy gate given) (MadeBy gate (given ++ passed))

  pub none-passed : (gate : Gate S) (events out : List Event) → Passed gate events out gate events out
  none-passed gate events out = record {
    passed = [];
    all = refl;
    same = (refl, refl);
    at = λ given at list. subst (λ t. GateRepresents verb represents t gate) (sym (append-nil given)) at;
    adds = λ given at list. adds-none out (MadeBy gate given) (MadeBy gate (given ++ [])) (ap (MadeBy gate) (append-nil given));
  }

  module _ (gate : Gate S) (events out : List Event) (now : Gate S) (left : List Event) (e : Event) (out_now : List Event) (before : Passed gate events out now (e ∷ left) out_now) where
    rest-is : events ≡ before.passed ++ e ∷ left
    rest-is = before.all

    pub still-open : (given : List Event) → is_list (given ++ events) ≡ true → is_open (given ++ before.passed) ≡ true
    still-open given list = open-before (given ++ before.passed) e left (ap is_list (append_assoc given before.passed (e ∷ left) ∙ ap (λ t. given ++ t) (sym rest-is)) ∙ list)

    pub one-passed : (then_ : Gate S) (out_then : List Event) → IsSameGate verb then_ now
        → ((given : List Event) → GateRepresents verb represents given now → is_open given ≡ true → GateRepresents verb represents (given ++ e ∷ []) then_)
        → ((given : List Event) → GateRepresents verb represents given now → is_open given ≡ true → Adds out_now out_then (MadeBy now given) (MadeBy now (given ++ e ∷ [])))
        → Passed gate events out then_ left out_then
    one-passed then_ out_then same at adds = record {
      passed = before.passed ++ e ∷ [];
      all = rest-is ∙ sym (append_assoc before.passed (e ∷ []) left);
      same = (same.0 ∙ before.same.0, same.1 ∙ before.same.1);
      at = λ given stood list.
          subst (λ t. GateRepresents verb represents t then_) (append_assoc given before.passed (e ∷ [])) (at (given ++ before.passed) (before.at given stood list) (still-open given list));
      adds = λ given stood list.
          let step = adds (given ++ before.passed) (before.at given stood list) (still-open given list) in
          let of_gate : Adds out_now out_then (MadeBy gate (given ++ before.passed)) (MadeBy gate ((given ++ before.passed) ++ e ∷ [])) =
          subst (λ v. Adds out_now out_then (made_at gate.quiet v (given ++ before.passed)) (made_at gate.quiet v ((given ++ before.passed) ++ e ∷ []))) before.same.0
          (subst (λ q. Adds out_now out_then (made_at q (verb now.verb) (given ++ before.passed)) (made_at q (verb now.verb) ((given ++ before.passed) ++ e ∷ []))) before.same.1 step) in
          adds-both out out_now out_then (MadeBy gate given) (MadeBy gate (given ++ before.passed)) (MadeBy gate (given ++ (before.passed ++ e ∷ []))) (before.adds given stood list)
          (subst (λ t. Adds out_now out_then (MadeBy gate (given ++ before.passed)) (MadeBy gate t)) (append_assoc given before.passed (e ∷ [])) of_gate);
    }

  -- no events remain
  pub all-at : (gate : Gate S) (events out : List Event) (now : Gate S) (out_now : List Event) → Passed gate events out now [] out_now → (given : List Event) → GateRepresents verb represents given gate → is_list (given ++ events) ≡ true → GateRepresents verb represents (given ++ events) now
  all-at gate events out now out_now done given stood list = subst (λ t. GateRepresents verb represents (given ++ t) now) (sym (done.all ∙ append-nil done.passed)) (done.at given stood list)

  pub all-adds : (gate : Gate S) (events out : List Event) (now : Gate S) (out_now : List Event) → Passed gate events out now [] out_now → (given : List Event) → GateRepresents verb represents given gate → is_list (given ++ events) ≡ true → Adds out out_now (MadeBy gate given) (MadeBy gate (given ++ events))
  all-adds gate events out now out_now done given stood list = subst (λ t. Adds out out_now (MadeBy gate given) (MadeBy gate (given ++ t))) (sym (done.all ∙ append-nil done.passed)) (done.adds given stood list)
