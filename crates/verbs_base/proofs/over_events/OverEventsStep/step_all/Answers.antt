use Rattle.std.proofs.Common.{◌≡◌, ◌++◌, ◌∷◌, [], List, true, false, ap, sym, ◌∙◌, subst, append_assoc}
use Rattle.mlr_event.specs.Adding.{Adds}
use Rattle.mlr_event.specs.declared.event.Event.{Event}
use Rattle.mlr_event.specs.Verb.{is_list, is_open, made}
use Rattle.mlr_event.proofs.Listed.{adds-both}
use Rattle.mlr_event.proofs.Ordered.{open-before}
use Rattle.verbs_base.specs.OverEvents.{WasGiven}
use Rattle.verbs_base.specs.Records.{rows_in, verb_of}
use Rattle.verbs_base.proofs.Passing.{given-all, not-told, open-adds, open-parts, still-given}
use Rattle.verbs_base.proofs.over_events.OverEventsStep.step_all.Goals as goal

-- all but the last event leave the list open
still-open : (given events init : List Event) (last : Event) → events ≡ init ++ last ∷ [] → is_list (given ++ events) ≡ true → is_open (given ++ init) ≡ true
still-open given events init last all list = open-before (given ++ init) last [] (ap is_list (append_assoc given init (last ∷ []) ∙ ap (λ t. given ++ t) (sym all)) ∙ list)

pub take_all-requires : goal.take_all-requires
take_all-requires g c =
    let self = c.args.self.now in
    let given = c.requires.0 in
    let open_is = still-open given c.args.events.now c.pop_last.new.self c.in-Some.last c.in-Some.ensures.events c.requires.2 in
    (rows_in given, still-given (g.V.Stateful.meaning self.verb) (g.V.Stateful.represents self.verb) self.shut given c.requires.1.1 (open-parts given c.pop_last.new.self open_is).0)

pub step-requires : goal.step-requires
step-requires g c =
    let self = c.args.self.now in
    let given = c.requires.0 in
    let init = c.pop_last.new.self in
    let open_is = still-open given c.args.events.now init c.in-Some.last c.in-Some.ensures.events c.requires.2 in
    let before = (open-parts given init open_is).0 in
    let v = g.V.Stateful.meaning self.verb in
    let r = g.V.Stateful.represents self.verb in (
      given ++ init,
      (
        c.requires.1.0,
        given-all (g.V.Stateful.meaning c.take_all.new.self) (g.V.Stateful.represents c.take_all.new.self) self.shut given init (not-told v r self.shut given c.requires.1.1 before)
            (c.in_default-take_all.ensures.represents.follows (rows_in given) (still-given v r self.shut given c.requires.1.1 before)),
      ),
      open_is,
    )

pub returns-clause-represents : goal.returns-clause-represents
returns-clause-represents g c given holds list =
    let self = c.args.self.now in
    let init = c.pop_last.new.self in
    let open_is = still-open given c.args.events.now init c.in-Some.last c.in-Some.ensures.events list in
    let before = (open-parts given init open_is).0 in
    let v = g.V.Stateful.meaning self.verb in
    let r = g.V.Stateful.represents self.verb in
    let middle : (self.broken ≡ false) × WasGiven (g.V.Stateful.meaning c.take_all.new.self) (g.V.Stateful.represents c.take_all.new.self) self.shut (given ++ init) =
    (holds.0, given-all (g.V.Stateful.meaning c.take_all.new.self) (g.V.Stateful.represents c.take_all.new.self) self.shut given init (not-told v r self.shut given holds.1 before) (c.in_default-take_all.ensures.represents.follows (rows_in given) (still-given v r self.shut given holds.1 before))) in
    subst (λ t. (c.step.new.self.broken ≡ false) × WasGiven (g.V.Stateful.meaning c.step.new.self.verb) (g.V.Stateful.represents c.step.new.self.verb) c.step.new.self.shut t)
    (append_assoc given init (c.in-Some.last ∷ []) ∙ ap (λ t. given ++ t) (sym c.in-Some.ensures.events)) (c.in_ok-step.ensures.represents (given ++ init) middle open_is)

pub returns-clause-adds : goal.returns-clause-adds
returns-clause-adds g c given holds list =
    let self = c.args.self.now in
    let init = c.pop_last.new.self in
    let last = c.in-Some.last in
    let open_is = still-open given c.args.events.now init last c.in-Some.ensures.events list in
    let before = (open-parts given init open_is).0 in
    let v = g.V.Stateful.meaning self.verb in
    let r = g.V.Stateful.represents self.verb in
    let m = made (verb_of v) in
    let inner = still-given v r self.shut given holds.1 before in
    let middle : (self.broken ≡ false) × WasGiven (g.V.Stateful.meaning c.take_all.new.self) (g.V.Stateful.represents c.take_all.new.self) self.shut (given ++ init) =
    (holds.0, given-all (g.V.Stateful.meaning c.take_all.new.self) (g.V.Stateful.represents c.take_all.new.self) self.shut given init (not-told v r self.shut given holds.1 before) (c.in_default-take_all.ensures.represents.follows (rows_in given) inner)) in
    let first : Adds c.args.out.now c.take_all.new.out (m given) (m (given ++ init)) = open-adds v given init c.args.out.now c.take_all.new.out open_is (c.in_default-take_all.ensures.gives.gives (rows_in given) inner) in
    let second : Adds c.take_all.new.out c.step.new.out (m (given ++ init)) (m ((given ++ init) ++ last ∷ [])) =
    subst (λ v. Adds c.take_all.new.out c.step.new.out (made (verb_of v) (given ++ init)) (made (verb_of v) ((given ++ init) ++ last ∷ []))) c.in_default-take_all.ensures.meaning (c.in_ok-step.ensures.adds (given ++ init) middle open_is) in
    adds-both c.args.out.now c.take_all.new.out c.step.new.out (m given) (m (given ++ init)) (m (given ++ c.args.events.now)) first
    (subst (λ t. Adds c.take_all.new.out c.step.new.out (m (given ++ init)) (m t)) (append_assoc given init (last ∷ []) ∙ ap (λ t. given ++ t) (sym c.in-Some.ensures.events)) second)
