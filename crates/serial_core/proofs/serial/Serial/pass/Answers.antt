use Rattle.std.proofs.Common.{◌≡◌, ◌++◌, true, ap, sym, ◌∙◌, subst}
use Rattle.mlr_event.specs.Verb.{is_list}
use Rattle.outlet.specs.Out.{out_of}
use Rattle.outlet.specs.Represents.{Represents}
use Rattle.outlet.proofs.Writing.{unwritten}
use Rattle.verb_chain.specs.Chain.{chain}
use Rattle.verb_chain.specs.Represents as chains
use Rattle.verb_chain.proofs.Chains.{chain-list}
use Rattle.serial_core.specs.Represents.{WriteSays}
use Rattle.serial_core.proofs.serial.Serial.pass.Goals as goal

pub write-requires : goal.write-requires
write-requires g c =
    let read = c.requires.1 in
    let can = c.requires.2 in
    let verbs = chains.verbs_in g.S.Step.verb c.args.self.now.stages in (
      c.requires.0,
      chain verbs read,
      can.outlet,
      subst (λ t. is_list t ≡ true) (c.in-Ok.ensures.made read can.stages can.list)
          (chain-list g.S.Step.verb g.S.Step.represents g.met.S.Step.orderly true c.args.self.now.stages.stages.items (read ++ c.args.self.now.events) can.list),
    )

pub returns-in-Ok-clause-passed : goal.returns-in-Ok-clause-passed
returns-in-Ok-clause-passed g c opts read can =
    let verbs = chains.verbs_in g.S.Step.verb c.args.self.now.stages in
    let all = read ++ c.args.self.now.events in
    let made : chain verbs all ≡ chain verbs read ++ c.take_all.new.events = c.in-Ok.ensures.made read can.stages can.list in
    let list : is_list (chain verbs read ++ c.take_all.new.events) ≡ true =
    subst (λ t. is_list t ≡ true) made (chain-list g.S.Step.verb g.S.Step.represents g.met.S.Step.orderly true c.args.self.now.stages.stages.items all can.list) in
    let wrote = c.write.ensures.wrote opts (chain verbs read) can.outlet list in
    record {
      says = subst (WriteSays c.write.result) (sym made) wrote.says;
      more = wrote.more;
      text = ap (out_of opts) made ∙ wrote.text;
      leaves = wrote.leaves;
      represent = λ none. record {
        verbs_are = ap (chains.verbs_in g.S.Step.verb) c.write.ensures.stages ∙ c.in-Ok.ensures.verbs;
        stages = subst (chains.Represents g.S.Step.verb g.S.Step.represents all) (sym c.write.ensures.stages) (c.in-Ok.ensures.represents read can.stages can.list);
        outlet = subst (λ t. Represents opts t c.write.new.self.outlet) (sym made) (c.write.ensures.represents opts (chain verbs read) can.outlet list none);
        at_hand = c.write.ensures.emptied none;
      };
    }

pub returns-in-Err-clause-passed : goal.returns-in-Err-clause-passed
returns-in-Err-clause-passed g c opts read can =
    let verbs = chains.verbs_in g.S.Step.verb c.args.self.now.stages in
    let growth = c.chain_laws.ensures.growth verbs read c.args.self.now.events in
    let text = c.outlet_laws.ensures opts (chain verbs read) growth.0 can.outlet.clear in
    record {
      says = tt;
      more = text.0;
      text = ap (out_of opts) growth.1 ∙ text.1;
      leaves = unwritten text.0 (g.O.Outputs.held c.args.outputs.now);
      represent = λ e. absurd (let f = e in cc);
    }
