use Rattle.std.proofs.Common.{◌≡◌, length}
use Rattle.mlr_event.specs.declared.names.Target.{Target}
use Rattle.outlet.proofs.Pieces.{Wrote}
use Rattle.outlet.proofs.outlet.Outlet.take_all.Given as goal

abbrev pub invariant-loop-self : goal.invariant-loop-self
invariant-loop-self g l =
    Wrote l.fn.self l.fn.events (g.O.Outputs.held l.fn.outputs) l.self l.events (g.O.Outputs.held l.outputs)
    × ((target : Target) → g.O.Outputs.faults l.outputs target ≡ g.O.Outputs.faults l.fn.outputs target)
    × (g.O.Outputs.shortages l.outputs ≡ g.O.Outputs.shortages l.fn.outputs)

abbrev pub decreases-loop-self : goal.decreases-loop-self
decreases-loop-self g l = length l.events
