use Rattle.std.proofs.Common.{[], refl, sym, subst, ◌∙◌}
use Rattle.read_files.specs.Takes.{After}
use Rattle.serial_core.specs.declared.serial.SerialTurn.TheVariants.{Went, Over}
use Rattle.serial_core.specs.Answer.{has_failed, lacks_memory}
use Rattle.serial_core.specs.Represents.{Ran}
use Rattle.serial_core.proofs.Left.{less-left}
use Rattle.outlet.proofs.Following.{counted-from, counted_if-from}
use Rattle.serial_core.proofs.Running.{following-none, came-over, cause-from, completes, going-first, going-on}
use Rattle.serial_core.proofs.Stopping.{stopped-early}
use Rattle.serial_core.proofs.Wholes.{means-whole}
use Rattle.serial_core.proofs.Turns.{chained}
use Rattle.serial_core.proofs.serial.Serial.run.Goals as goal

pub loop-ended-init : goal.loop-ended-init
loop-ended-init g c = (
  refl,
  λ name. refl,
  λ target. refl,
  refl,
  λ command begins.
      going-first g.S.Step.verb g.S.Step.represents command (g.I.Inputs.taken c.args.inputs.now) (g.I.Inputs.contents c.args.inputs.now) (g.I.Inputs.taken c.args.inputs.now) (g.I.Inputs.open_entry c.args.inputs.now) (g.O.Outputs.held c.args.outputs.now) c.args.self.now begins
      (following-none (g.I.Inputs.contents c.args.inputs.now) (g.I.Inputs.taken c.args.inputs.now) (g.I.Inputs.open_entry c.args.inputs.now)),
)

pub turn-requires : goal.turn-requires
turn-requires g c =
    let now = c.loop-ended.invariant.4 c.requires.0 c.requires.1 in
    (c.requires.0, g.I.Inputs.taken c.args.inputs.now, now.given, now.read, now.shown, now.at, subst (λ t. After (g.I.Inputs.taken c.args.inputs.now) now.given t (g.I.Inputs.taken c.loop-ended.inputs) (g.I.Inputs.open_entry c.loop-ended.inputs)) (sym c.loop-ended.invariant.0) now.following)

pub returns-in-Over-clause-run : goal.returns-in-Over-clause-run
returns-in-Over-clause-run g c command begins =
    let now = c.loop-ended.invariant.4 command begins in
    came-over g.S.Step.verb g.S.Step.represents command (g.I.Inputs.taken c.args.inputs.now) (g.I.Inputs.contents c.args.inputs.now) (g.I.Inputs.taken c.loop-ended.inputs) (g.I.Inputs.open_entry c.loop-ended.inputs)
    (g.O.Outputs.held c.args.outputs.now) (g.O.Outputs.held c.loop-ended.outputs) c.loop-ended.self now c.turn.new.self (g.I.Inputs.taken c.turn.new.inputs) (g.I.Inputs.open_entry c.turn.new.inputs) (g.O.Outputs.held c.turn.new.outputs)
    (stopped-early c.source_laws.ensures.list c.source_laws.ensures.grows c.source_laws.ensures.fixed command (c.chain_laws.ensures.growth command.verbs)
    (chained g.S.Step.verb g.S.Step.represents g.met.S.Step.orderly command [] [] [] c.args.self.now begins) c.source_laws.ensures.early (g.I.Inputs.taken c.args.inputs.now) (g.I.Inputs.contents c.args.inputs.now))
    (means-whole c.source_laws.ensures.list c.source_laws.ensures.grows c.source_laws.ensures.fixed command (c.chain_laws.ensures.growth command.verbs)
    (chained g.S.Step.verb g.S.Step.represents g.met.S.Step.orderly command [] [] [] c.args.self.now begins) c.outlet_laws.ensures (g.I.Inputs.taken c.args.inputs.now) (g.I.Inputs.contents c.args.inputs.now)) c.in-Over.ended
    (subst (λ t. Ran (Over c.in-Over.ended) g.S.Step.verb g.S.Step.represents command (g.I.Inputs.taken c.args.inputs.now) now.given now.read now.shown c.turn.new.self t (g.I.Inputs.taken c.turn.new.inputs) (g.I.Inputs.open_entry c.turn.new.inputs) (g.O.Outputs.held c.loop-ended.outputs) (g.O.Outputs.held c.turn.new.outputs))
    c.loop-ended.invariant.0
    (c.in-Over.ensures.ran command (g.I.Inputs.taken c.args.inputs.now) now.given now.read now.shown now.at (subst (λ t. After (g.I.Inputs.taken c.args.inputs.now) now.given t (g.I.Inputs.taken c.loop-ended.inputs) (g.I.Inputs.open_entry c.loop-ended.inputs)) (sym c.loop-ended.invariant.0) now.following)))

pub returns-in-Over-clause-contents : goal.returns-in-Over-clause-contents
returns-in-Over-clause-contents g c = c.turn.ensures.contents ∙ c.loop-ended.invariant.0

pub returns-in-Over-clause-cause : goal.returns-in-Over-clause-cause
returns-in-Over-clause-cause g c = cause-from c.in-Over.ended (g.I.Inputs.faults c.args.inputs.now) (g.I.Inputs.faults c.loop-ended.inputs) (g.I.Inputs.faults c.turn.new.inputs) c.loop-ended.invariant.1 c.in-Over.ensures.cause

pub returns-in-Over-clause-counts : goal.returns-in-Over-clause-counts
returns-in-Over-clause-counts g c =
    counted-from (has_failed c.in-Over.ended) (g.O.Outputs.faults c.args.outputs.now) (g.O.Outputs.faults c.loop-ended.outputs) (g.O.Outputs.faults c.turn.new.outputs) c.loop-ended.invariant.2 c.in-Over.ensures.counts

pub returns-in-Over-clause-completes : goal.returns-in-Over-clause-completes
returns-in-Over-clause-completes g c command begins holds reads =
    let now = c.loop-ended.invariant.4 command begins in
    let run = came-over g.S.Step.verb g.S.Step.represents command (g.I.Inputs.taken c.args.inputs.now) (g.I.Inputs.contents c.args.inputs.now) (g.I.Inputs.taken c.loop-ended.inputs) (g.I.Inputs.open_entry c.loop-ended.inputs)
    (g.O.Outputs.held c.args.outputs.now) (g.O.Outputs.held c.loop-ended.outputs) c.loop-ended.self now c.turn.new.self (g.I.Inputs.taken c.turn.new.inputs) (g.I.Inputs.open_entry c.turn.new.inputs) (g.O.Outputs.held c.turn.new.outputs)
    (stopped-early c.source_laws.ensures.list c.source_laws.ensures.grows c.source_laws.ensures.fixed command (c.chain_laws.ensures.growth command.verbs)
    (chained g.S.Step.verb g.S.Step.represents g.met.S.Step.orderly command [] [] [] c.args.self.now begins) c.source_laws.ensures.early (g.I.Inputs.taken c.args.inputs.now) (g.I.Inputs.contents c.args.inputs.now))
    (means-whole c.source_laws.ensures.list c.source_laws.ensures.grows c.source_laws.ensures.fixed command (c.chain_laws.ensures.growth command.verbs)
    (chained g.S.Step.verb g.S.Step.represents g.met.S.Step.orderly command [] [] [] c.args.self.now begins) c.outlet_laws.ensures (g.I.Inputs.taken c.args.inputs.now) (g.I.Inputs.contents c.args.inputs.now)) c.in-Over.ended
    (subst (λ t. Ran (Over c.in-Over.ended) g.S.Step.verb g.S.Step.represents command (g.I.Inputs.taken c.args.inputs.now) now.given now.read now.shown c.turn.new.self t (g.I.Inputs.taken c.turn.new.inputs) (g.I.Inputs.open_entry c.turn.new.inputs) (g.O.Outputs.held c.loop-ended.outputs) (g.O.Outputs.held c.turn.new.outputs))
    c.loop-ended.invariant.0
    (c.in-Over.ensures.ran command (g.I.Inputs.taken c.args.inputs.now) now.given now.read now.shown now.at (subst (λ t. After (g.I.Inputs.taken c.args.inputs.now) now.given t (g.I.Inputs.taken c.loop-ended.inputs) (g.I.Inputs.open_entry c.loop-ended.inputs)) (sym c.loop-ended.invariant.0) now.following))) in
    completes command (g.I.Inputs.contents c.args.inputs.now) (g.I.Inputs.taken c.args.inputs.now) (g.I.Inputs.taken c.turn.new.inputs) (g.I.Inputs.open_entry c.turn.new.inputs) (g.O.Outputs.held c.args.outputs.now) (g.O.Outputs.held c.turn.new.outputs) holds c.in-Over.ended run
    (g.I.Inputs.faults c.args.inputs.now) (g.I.Inputs.faults c.turn.new.inputs)
    (cause-from c.in-Over.ended (g.I.Inputs.faults c.args.inputs.now) (g.I.Inputs.faults c.loop-ended.inputs) (g.I.Inputs.faults c.turn.new.inputs) c.loop-ended.invariant.1 c.in-Over.ensures.cause) reads

pub returns-in-Over-clause-shortages : goal.returns-in-Over-clause-shortages
returns-in-Over-clause-shortages g c =
    counted_if-from (lacks_memory c.in-Over.ended) (g.O.Outputs.shortages c.args.outputs.now) (g.O.Outputs.shortages c.loop-ended.outputs) (g.O.Outputs.shortages c.turn.new.outputs) c.loop-ended.invariant.3 c.in-Over.ensures.shortages

pub loop-ended-preserved : goal.loop-ended-preserved
loop-ended-preserved g c = (
  c.turn.ensures.contents ∙ c.loop-ended.invariant.0,
  λ name. c.in-Went.ensures.cause name ∙ c.loop-ended.invariant.1 name,
  λ target. c.in-Went.ensures.counts target ∙ c.loop-ended.invariant.2 target,
  c.in-Went.ensures.shortages ∙ c.loop-ended.invariant.3,
  λ command begins.
      let now = c.loop-ended.invariant.4 command begins in
      going-on g.S.Step.verb g.S.Step.represents command (g.I.Inputs.taken c.args.inputs.now) (g.I.Inputs.contents c.args.inputs.now) (g.I.Inputs.taken c.loop-ended.inputs) (g.I.Inputs.open_entry c.loop-ended.inputs)
      (g.O.Outputs.held c.args.outputs.now) (g.O.Outputs.held c.loop-ended.outputs) c.loop-ended.self now c.turn.new.self (g.I.Inputs.taken c.turn.new.inputs) (g.I.Inputs.open_entry c.turn.new.inputs) (g.O.Outputs.held c.turn.new.outputs)
      (subst (λ t. Ran Went g.S.Step.verb g.S.Step.represents command (g.I.Inputs.taken c.args.inputs.now) now.given now.read now.shown c.turn.new.self t (g.I.Inputs.taken c.turn.new.inputs) (g.I.Inputs.open_entry c.turn.new.inputs) (g.O.Outputs.held c.loop-ended.outputs) (g.O.Outputs.held c.turn.new.outputs))
      c.loop-ended.invariant.0
      (c.in-Went.ensures.ran command (g.I.Inputs.taken c.args.inputs.now) now.given now.read now.shown now.at (subst (λ t. After (g.I.Inputs.taken c.args.inputs.now) now.given t (g.I.Inputs.taken c.loop-ended.inputs) (g.I.Inputs.open_entry c.loop-ended.inputs)) (sym c.loop-ended.invariant.0) now.following))),
)

-- the reader has less left
pub loop-ended-smaller : goal.loop-ended-smaller
loop-ended-smaller g c =
    let command = c.requires.0 in
    let now = c.loop-ended.invariant.4 command c.requires.1 in
    let ran = c.in-Went.ensures.ran command (g.I.Inputs.taken c.args.inputs.now) now.given now.read now.shown now.at (subst (λ t. After (g.I.Inputs.taken c.args.inputs.now) now.given t (g.I.Inputs.taken c.loop-ended.inputs) (g.I.Inputs.open_entry c.loop-ended.inputs)) (sym c.loop-ended.invariant.0) now.following) in
    less-left command.origin now.given ran.given' now.read ran.outcome.put c.loop-ended.self.reader c.turn.new.self.reader now.at.reader ran.outcome.represent.reader ran.outcome.came_on
