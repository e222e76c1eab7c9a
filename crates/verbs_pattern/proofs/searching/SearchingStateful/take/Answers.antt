use Rattle.std.proofs.Common.{◌≡◌, ◌++◌, ◌∷◌, [], ap, ◌∙◌}
use Rattle.std.proofs.lemmas.List.{append-nil}
use Rattle.std.proofs.lemmas.Result.{on_ok_weaker}
use Rattle.mlr_event.specs.declared.event.Event.TheVariants as event
use Rattle.verbs_base.specs.Records.{each, given_for_all, with_context}
use Rattle.verbs_pattern.proofs.searching.SearchingStateful.take.Goals as goal

pub returns-clause-gives : goal.returns-clause-gives
returns-clause-gives g c =
    let gives = g.O.Searches.gives c.args.self.now.options in
    let out = c.args.out.now in
    let one = event.Rec c.args.fields c.args.ctx ∷ [] in
    let pushed : c.push.new.self ≡ one = c.in_ok-push.ensures ∙ ap (λ events. events ++ one) c.new-events.ensures in
    on_ok_weaker c.search_all.result
    (λ all. record {
      gives = λ given holds.
          all.gives given holds
          ∙ ap (λ events. out ++ given_for_all (each gives) given events) pushed
          ∙ ap (λ made. out ++ made) (append-nil (with_context c.args.ctx (gives c.args.fields)));
    })
    c.search_all.ensures.gives
