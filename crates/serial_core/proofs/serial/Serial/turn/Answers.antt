use Rattle.std.proofs.Common.{◌++◌, refl}
use Rattle.serial_core.proofs.Turning.{written-cause}
use Rattle.serial_core.proofs.Turns.{list-at-hand, origin-list, over-written, ran-following, settled-following}
use Rattle.serial_core.proofs.serial.Serial.turn.Goals as goal

pub write-requires : goal.write-requires
write-requires g c =
    let at = c.requires.5 in
    (c.requires.0.write, c.requires.4, at.outlet, list-at-hand g.S.Step.verb g.S.Step.represents g.met.S.Step.orderly c.requires.0 c.requires.2 c.requires.3 c.requires.4 c.args.self.now at)

pub read-requires : goal.read-requires
read-requires g c =
    let at = c.requires.5 in
    let list = list-at-hand g.S.Step.verb g.S.Step.represents g.met.S.Step.orderly c.requires.0 c.requires.2 c.requires.3 c.requires.4 c.args.self.now at in (
      c.requires.0,
      c.requires.1,
      c.requires.2,
      c.requires.3,
      settled-following g.S.Step.verb g.S.Step.represents g.met.S.Step.orderly c.requires.0 c.requires.2 c.requires.3 c.requires.4 c.args.self.now at c.write.new.self c.write.ensures.reader c.write.ensures.stages
          (c.in-None.ensures.emptied refl) (c.in-None.ensures.represents c.requires.0.write c.requires.4 at.outlet list refl),
      c.requires.6,
    )

pub returns-in-Some-clause-ran : goal.returns-in-Some-clause-ran
returns-in-Some-clause-ran g c command before given read shown at following =
    let list = list-at-hand g.S.Step.verb g.S.Step.represents g.met.S.Step.orderly command given read shown c.args.self.now at in
    over-written g.S.Step.verb g.S.Step.represents g.met.S.Step.orderly command given read shown c.args.self.now at (c.chain_laws.ensures.growth command.verbs) (c.outlet_laws.ensures command.write)
    (origin-list c.source_laws.ensures.list command.origin given) before (g.I.Inputs.contents c.args.inputs.now) (g.I.Inputs.taken c.args.inputs.now) (g.I.Inputs.open_entry c.args.inputs.now) following
    c.in-Some.ended c.write.new.self (g.O.Outputs.held c.args.outputs.now) (g.O.Outputs.held c.write.new.outputs) (c.in-Some.ensures.wrote command.write shown at.outlet list)

pub returns-in-Some-clause-cause : goal.returns-in-Some-clause-cause
returns-in-Some-clause-cause g c =
    let at = c.requires.5 in
    let list = list-at-hand g.S.Step.verb g.S.Step.represents g.met.S.Step.orderly c.requires.0 c.requires.2 c.requires.3 c.requires.4 c.args.self.now at in
    let wrote = c.in-Some.ensures.wrote c.requires.0.write c.requires.4 at.outlet list in
    written-cause c.in-Some.ended (c.requires.4 ++ c.args.self.now.events) (g.I.Inputs.faults c.args.inputs.now) (g.I.Inputs.faults c.args.inputs.now) wrote.says (λ name. refl)

pub returns-in-None-clause-ran : goal.returns-in-None-clause-ran
returns-in-None-clause-ran g c command before given read shown at following =
    let list = list-at-hand g.S.Step.verb g.S.Step.represents g.met.S.Step.orderly command given read shown c.args.self.now at in
    let settled = settled-following g.S.Step.verb g.S.Step.represents g.met.S.Step.orderly command given read shown c.args.self.now at c.write.new.self c.write.ensures.reader c.write.ensures.stages
    (c.in-None.ensures.emptied refl) (c.in-None.ensures.represents command.write shown at.outlet list refl) in
    ran-following g.S.Step.verb g.S.Step.represents g.met.S.Step.orderly command given read shown c.args.self.now at c.read.result before c.read.new.self
    (g.I.Inputs.contents c.args.inputs.now) (g.I.Inputs.taken c.read.new.inputs) (g.I.Inputs.open_entry c.read.new.inputs)
    (g.O.Outputs.held c.args.outputs.now) (g.O.Outputs.held c.write.new.outputs) (g.O.Outputs.held c.read.new.outputs)
    (c.in-None.ensures.wrote command.write shown at.outlet list) (c.read.ensures.ran command before given read settled following)
