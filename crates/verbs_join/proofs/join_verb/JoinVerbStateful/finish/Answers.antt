use Rattle.std.proofs.Common.{◌++◌, [], cond, map, ap, sym, ◌∙◌}
use Rattle.verbs_base.specs.Records.{events_of, records}
use Rattle.verbs_join.specs.Join.{unpaired}
use Rattle.verbs_join.proofs.Unpairing.{late-context}
use Rattle.verbs_join.proofs.join_verb.JoinVerbStateful.finish.Goals as goal

pub returns-in_ok-push_unpaired-clause-gives : goal.returns-in_ok-push_unpaired-clause-gives
returns-in_ok-push_unpaired-clause-gives c = record {
  gives = λ given held. (
      let options = c.args.self.now.options in
      let ctx = c.args.ctx in
      let late = unpaired options c.args.self.now.lefts.records.items (records given) in
      c.in_ok-push_unpaired.ensures.gives (records given) held
      ∙ ap (λ events. c.args.out.now ++ events) (sym (late-context ctx late))
      ∙ ap (λ t. c.args.out.now ++ events_of (cond t (map (λ left. (left, ctx)) late) [])) (sym c.if-self.true)
      );
}
