use Rattle.std.proofs.Common.{◌++◌, replicate, ap, sym, ◌∙◌}
use Rattle.std.proofs.lemmas.Result.{on_ok_weaker}
use Rattle.mlr_event.specs.declared.event.Event.TheVariants as event
use Rattle.verbs_state.specs.Repeat.{times}
use Rattle.verbs_state.proofs.Rows.{context-replicate}
use Rattle.verbs_state.proofs.repeat.RepeatVerbStateful.take.Goals as goal

pub returns-clause-gives : goal.returns-clause-gives
returns-clause-gives c =
    let fields = c.args.fields in
    let ctx = c.args.ctx in
    on_ok_weaker c.push_times.result (λ put. record {
      gives = λ before holds.
          put
          ∙ ap (λ n. c.args.out.now ++ replicate n (event.Rec fields ctx)) c.times.ensures
          ∙ ap (λ events. c.args.out.now ++ events) (sym (context-replicate ctx (times c.args.self.now.options fields) fields));
    })
    c.push_times.ensures
