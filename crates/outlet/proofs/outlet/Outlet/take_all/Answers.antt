use Rattle.std.proofs.Common.{false, refl}
use Rattle.outlet.specs.Represents.{has_failed, lacks_memory}
use Rattle.outlet.proofs.Following.{counted-from, counted_if-from}
use Rattle.outlet.proofs.Pieces.{ended, lacks-memory, none-wrote, wrote-more}
use Rattle.outlet.proofs.outlet.Outlet.take_all.Goals as goal

pub loop-self-init : goal.loop-self-init
loop-self-init g c = (none-wrote c.args.self.now c.args.events.now (g.O.Outputs.held c.args.outputs.now), λ target. refl, refl)

pub returns-in-Err-clause-took : goal.returns-in-Err-clause-took
returns-in-Err-clause-took g c =
    lacks-memory c.args.self.now c.args.events.now (g.O.Outputs.held c.args.outputs.now) c.loop-self.self c.loop-self.events (g.O.Outputs.held c.loop-self.outputs) c.loop-self.invariant.0

pub loop-self-preserved : goal.loop-self-preserved
loop-self-preserved g c = (
  wrote-more c.args.self.now c.args.events.now (g.O.Outputs.held c.args.outputs.now) c.loop-self.self c.loop-self.events (g.O.Outputs.held c.loop-self.outputs) c.loop-self.invariant.0
      c.in-Ok.over c.put_some.new.self c.put_some.new.events c.in-Ok.ensures.appends c.write.result (g.O.Outputs.held c.write.new.outputs) c.write.ensures.answer c.write.ensures.leaves
      c.write.new.self c.in-Went.is (c.write.ensures.went c.in-Went.is),
  counted-from false (g.O.Outputs.faults c.args.outputs.now) (g.O.Outputs.faults c.loop-self.outputs) (g.O.Outputs.faults c.write.new.outputs) c.loop-self.invariant.1 c.in-Went.ensures.counts,
  counted_if-from false (g.O.Outputs.shortages c.args.outputs.now) (g.O.Outputs.shortages c.loop-self.outputs) (g.O.Outputs.shortages c.write.new.outputs) c.loop-self.invariant.2 c.in-Went.ensures.shortages,
)

pub returns-in_default : goal.returns-in_default
returns-in_default g c = record {
  took =
      ended c.args.self.now c.args.events.now (g.O.Outputs.held c.args.outputs.now) c.loop-self.self c.loop-self.events (g.O.Outputs.held c.loop-self.outputs) c.loop-self.invariant.0
      c.in-Ok.over c.put_some.new.self c.put_some.new.events c.in-Ok.ensures.appends c.write.result (g.O.Outputs.held c.write.new.outputs) c.write.ensures.answer c.write.ensures.leaves
      c.in_default.not-Went;
  represents = λ opts before stood list went. absurd (c.in_default.not-Went went);
  emptied = λ went. absurd (c.in_default.not-Went went);
  counts =
      counted-from (has_failed c.write.result) (g.O.Outputs.faults c.args.outputs.now) (g.O.Outputs.faults c.loop-self.outputs) (g.O.Outputs.faults c.write.new.outputs)
      c.loop-self.invariant.1 c.write.ensures.counts;
  shortages =
      counted_if-from (lacks_memory c.write.result) (g.O.Outputs.shortages c.args.outputs.now) (g.O.Outputs.shortages c.loop-self.outputs) (g.O.Outputs.shortages c.write.new.outputs)
      c.loop-self.invariant.2 c.write.ensures.shortages;
}
