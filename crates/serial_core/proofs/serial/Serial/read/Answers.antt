use Rattle.std.proofs.Common.{sym, subst}
use Rattle.mlr_event.specs.declared.names.Target.TheVariants.{Stdout}
use Rattle.mlr_world.specs.Counts.{Counted}
use Rattle.outlet.specs.Represents.{CountedIf}
use Rattle.verb_chain.specs.Chain.{chain}
use Rattle.serial_core.specs.Represents.{Outcome, TurnCounts, turn_failed, turn_lacks}
use Rattle.serial_core.proofs.Passes.{can-pass, failed, none-passed, over-passed, unread}
use Rattle.serial_core.proofs.Turning.{following-cause, following-counts, following-lacks, turn-same, written-cause}
use Rattle.serial_core.proofs.serial.Serial.read.Goals as goal

pub returns-in-NoMemory-clause-ran : goal.returns-in-NoMemory-clause-ran
returns-in-NoMemory-clause-ran g c command before given read settled at =
    let r = c.turn.ensures.read command.origin before given read settled.all.reader at in
    record {
      given' = r.given';
      took = r.took;
      outcome =
          unread g.S.Step.verb g.S.Step.represents g.met.S.Step.orderly c.chain_laws.ensures.growth c.outlet_laws.ensures command before given read c.args.self.now settled
          c.turn.result c.turn.new.self (g.I.Inputs.contents c.args.inputs.now) (g.I.Inputs.taken c.turn.new.inputs) (g.I.Inputs.open_entry c.turn.new.inputs) c.turn.new.out r
          (g.O.Outputs.held c.args.outputs.now);
    }

pub returns-in-Failed-clause-ran : goal.returns-in-Failed-clause-ran
returns-in-Failed-clause-ran g c command before given read settled at =
    let r = c.turn.ensures.read command.origin before given read settled.all.reader at in
    record {
      given' = r.given';
      took = r.took;
      outcome =
          failed g.S.Step.verb g.S.Step.represents g.met.S.Step.orderly c.chain_laws.ensures.growth c.outlet_laws.ensures command before given read c.args.self.now settled
          c.turn.result c.turn.new.self (g.I.Inputs.contents c.args.inputs.now) (g.I.Inputs.taken c.turn.new.inputs) (g.I.Inputs.open_entry c.turn.new.inputs) c.turn.new.out r
          c.in-Failed.name c.in-Failed.is (g.O.Outputs.held c.args.outputs.now);
    }

pub pass-requires : goal.pass-requires
pass-requires g c =
    let command = c.requires.0 in
    let settled = c.requires.4 in
    let r = c.turn.ensures.read command.origin c.requires.1 c.requires.2 c.requires.3 settled.all.reader c.requires.5 in (
      command.write,
      c.requires.3,
      can-pass g.S.Step.verb g.S.Step.represents g.met.S.Step.orderly c.chain_laws.ensures.growth c.outlet_laws.ensures command c.requires.1 c.requires.2 c.requires.3 c.args.self.now settled
          c.turn.result c.turn.new.self (g.I.Inputs.contents c.args.inputs.now) (g.I.Inputs.taken c.turn.new.inputs) (g.I.Inputs.open_entry c.turn.new.inputs) c.turn.new.out r
          c.in_default.not-NoMemory,
    )

pub returns-in-Some : goal.returns-in-Some
returns-in-Some g c = record {
  ran = λ command before given read settled at.
      let r = c.turn.ensures.read command.origin before given read settled.all.reader at in
      let can = can-pass g.S.Step.verb g.S.Step.represents g.met.S.Step.orderly c.chain_laws.ensures.growth c.outlet_laws.ensures command before given read c.args.self.now settled
      c.turn.result c.turn.new.self (g.I.Inputs.contents c.args.inputs.now) (g.I.Inputs.taken c.turn.new.inputs) (g.I.Inputs.open_entry c.turn.new.inputs) c.turn.new.out r
      c.in_default.not-NoMemory in
      record {
        given' = r.given';
        took = r.took;
        outcome =
            over-passed g.S.Step.verb g.S.Step.represents g.met.S.Step.orderly c.chain_laws.ensures.growth c.outlet_laws.ensures command before given read c.args.self.now settled
            c.turn.result c.turn.new.self (g.I.Inputs.contents c.args.inputs.now) (g.I.Inputs.taken c.turn.new.inputs) (g.I.Inputs.open_entry c.turn.new.inputs) c.turn.new.out r
            c.in_default.not-NoMemory c.in-Some.ended c.pass.new.self (g.O.Outputs.held c.args.outputs.now) (g.O.Outputs.held c.pass.new.outputs) (c.in-Some.ensures.passed command.write read can);
      };
  contents = c.turn.ensures.contents;
  cause =
      (let command = c.requires.0 in
      let settled = c.requires.4 in
      let r = c.turn.ensures.read command.origin c.requires.1 c.requires.2 c.requires.3 settled.all.reader c.requires.5 in
      let can = can-pass g.S.Step.verb g.S.Step.represents g.met.S.Step.orderly c.chain_laws.ensures.growth c.outlet_laws.ensures command c.requires.1 c.requires.2 c.requires.3 c.args.self.now settled
      c.turn.result c.turn.new.self (g.I.Inputs.contents c.args.inputs.now) (g.I.Inputs.taken c.turn.new.inputs) (g.I.Inputs.open_entry c.turn.new.inputs) c.turn.new.out r
      c.in_default.not-NoMemory in
      let p = c.in-Some.ensures.passed command.write c.requires.3 can in
      written-cause c.in-Some.ended _ (g.I.Inputs.faults c.args.inputs.now) (g.I.Inputs.faults c.turn.new.inputs) p.says
      (turn-same c.turn.result (g.I.Inputs.faults c.args.inputs.now) (g.I.Inputs.faults c.turn.new.inputs) c.in_default.not-Failed c.turn.ensures.cause));
  counts = c.in-Some.ensures.counts;
  shortages = c.in-Some.ensures.shortages;
}

pub returns-in-None : goal.returns-in-None
returns-in-None g c = record {
  ran = λ command before given read settled at.
      let r = c.turn.ensures.read command.origin before given read settled.all.reader at in
      let can = can-pass g.S.Step.verb g.S.Step.represents g.met.S.Step.orderly c.chain_laws.ensures.growth c.outlet_laws.ensures command before given read c.args.self.now settled
      c.turn.result c.turn.new.self (g.I.Inputs.contents c.args.inputs.now) (g.I.Inputs.taken c.turn.new.inputs) (g.I.Inputs.open_entry c.turn.new.inputs) c.turn.new.out r
      c.in_default.not-NoMemory in
      record {
        given' = r.given';
        took = r.took;
        outcome =
            subst (λ t. Outcome t g.S.Step.verb g.S.Step.represents command given r.given' read (chain command.verbs read) c.pass.new.self (g.O.Outputs.held c.args.outputs.now) (g.O.Outputs.held c.pass.new.outputs)) (sym c.following.ensures)
            (none-passed g.S.Step.verb g.S.Step.represents g.met.S.Step.orderly c.chain_laws.ensures.growth c.outlet_laws.ensures command before given read c.args.self.now settled
            c.turn.result c.turn.new.self (g.I.Inputs.contents c.args.inputs.now) (g.I.Inputs.taken c.turn.new.inputs) (g.I.Inputs.open_entry c.turn.new.inputs) c.turn.new.out r
            c.in_default.not-NoMemory c.pass.new.self (g.O.Outputs.held c.args.outputs.now) (g.O.Outputs.held c.pass.new.outputs) c.pass.ensures.reader (c.in-None.ensures.passed command.write read can));
      };
  contents = c.turn.ensures.contents;
  cause =
      subst (λ t. TurnCounts t (g.I.Inputs.faults c.args.inputs.now) (g.I.Inputs.faults c.turn.new.inputs)) (sym c.following.ensures)
      (following-cause c.turn.result (g.I.Inputs.faults c.args.inputs.now) (g.I.Inputs.faults c.turn.new.inputs) c.turn.ensures.cause);
  counts =
      subst (λ t. Counted (turn_failed t) (g.O.Outputs.faults c.args.outputs.now) (g.O.Outputs.faults c.pass.new.outputs) Stdout) (sym c.following.ensures)
      (following-counts c.turn.result (g.O.Outputs.faults c.args.outputs.now) (g.O.Outputs.faults c.pass.new.outputs) c.in-None.ensures.counts);
  shortages =
      subst (λ t. CountedIf (turn_lacks t) (g.O.Outputs.shortages c.args.outputs.now) (g.O.Outputs.shortages c.pass.new.outputs)) (sym c.following.ensures)
      (following-lacks c.turn.result (g.O.Outputs.shortages c.args.outputs.now) (g.O.Outputs.shortages c.pass.new.outputs) c.in-None.ensures.shortages);
}
