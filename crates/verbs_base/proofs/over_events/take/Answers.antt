use Rattle.std.proofs.Common.{◌++◌, ◌∷◌, [], ap, sym, ◌∙◌, append_assoc}
use Rattle.mlr_event.specs.declared.event.Event.TheVariants as event
use Rattle.mlr_event.specs.Verb.{gives}
use Rattle.verbs_base.specs.Records.{events_of, rows_in, verb_of}
use Rattle.verbs_base.proofs.Passing.{end-gives}
use Rattle.verbs_base.proofs.over_events.take.Goals as goal

pub returns-in_ok-push-in-End-clause-gives : goal.returns-in_ok-push-in-End-clause-gives
returns-in_ok-push-in-End-clause-gives g c given holds =
    let v = g.V.Stateful.meaning c.args.verb.now in
    let ctx = c.in-End.ctx in
    c.in_ok-push-in-End.ensures
    ∙ ap (λ t. t ++ event.End ctx ∷ []) (c.in_ok-finish-in-End.ensures.gives.gives (rows_in given) holds)
    ∙ append_assoc c.args.out.now (events_of (v.late (rows_in given) ctx)) (event.End ctx ∷ [])
    ∙ ap (λ t. c.args.out.now ++ t) (sym (end-gives v given ctx))
    ∙ ap (λ e. c.args.out.now ++ gives (verb_of v) given e) (sym c.in-End.is)
