use Rattle.std.proofs.Common.{◌++◌, ◌∷◌, [], refl, ap, sym, ◌∙◌, inl, inr, Some}
use Rattle.std.proofs.lemmas.Bool.{cases_Bool}
use Rattle.mlr_event.specs.Verb.{gives, is_last}
use Rattle.mlr_event.proofs.Making.{made-next}
use Rattle.verbs_base.specs.Laws.{verb-quiet}
use Rattle.verbs_base.specs.OverEvents.{WasGiven}
use Rattle.verbs_base.specs.Records.{records, rows_in, verb_of}
use Rattle.verbs_base.proofs.Passing.{given-last, given-one, still-given}
use Rattle.verbs_base.proofs.over_events.OverEventsStep.step.Goals as goal

pub take-requires : goal.take-requires
take-requires g c =
    let self = c.args.self.now in
    let given = c.requires.0 in
    (rows_in given, still-given (g.V.Stateful.meaning self.verb) (g.V.Stateful.represents self.verb) self.shut given c.requires.1.1 c.requires.2)

pub returns-clause-represents : goal.returns-clause-represents
returns-clause-represents g c given holds open_is =
    let self = c.args.self.now in
    let e = c.args.event in
    let before = still-given (g.V.Stateful.meaning self.verb) (g.V.Stateful.represents self.verb) self.shut given holds.1 open_is in
    let meaning = g.V.Stateful.meaning c.take.new.verb in
    let represents = g.V.Stateful.represents c.take.new.verb in (
      holds.0,
      elim (cases_Bool (is_last e)) as (λ _. WasGiven meaning represents c.shut_by-shut.result (given ++ e ∷ [])) [
        | inl last ↦ given-last meaning represents c.shut_by-shut.result given e last (c.shut_by-shut.ensures.ended last (rows_in given) before ∙ ap (λ m. Some (m.closed (records (rows_in given)))) (sym c.in_default.ensures.meaning))
        | inr more ↦ given-one meaning represents c.shut_by-shut.result given e more (c.shut_by-shut.ensures.open more) (c.in_default.ensures.represents more (rows_in given) before)
      ],
    )

pub returns-clause-adds : goal.returns-clause-adds
returns-clause-adds g c given holds open_is =
    let self = c.args.self.now in
    let verb = g.V.Stateful.meaning self.verb in (
      gives (verb_of verb) given c.args.event,
      made-next (verb_of verb) (verb-quiet verb) refl given c.args.event open_is,
      c.in_default.ensures.gives given (still-given verb (g.V.Stateful.represents self.verb) self.shut given holds.1 open_is),
    )
