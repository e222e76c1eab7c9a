use Rattle.std.proofs.Common.{◌≡◌}
use Rattle.mlr_event.specs.declared.names.InputName.{InputName}
use Rattle.mlr_event.specs.declared.names.Target.{Target}
use Rattle.serial_core.specs.Command.{Command}
use Rattle.serial_core.specs.Represents.{Begins}
use Rattle.serial_core.proofs.Left.{left}
use Rattle.serial_core.proofs.Running.{Going}
use Rattle.serial_core.proofs.serial.Serial.run.Given as goal

-- no call has failed, and all text that is fixed was written
abbrev pub invariant-loop-ended : goal.invariant-loop-ended
invariant-loop-ended g l =
    (g.I.Inputs.contents l.inputs ≡ g.I.Inputs.contents l.fn.inputs) ×
    ((name : InputName) → g.I.Inputs.faults l.inputs name ≡ g.I.Inputs.faults l.fn.inputs name) ×
    ((target : Target) → g.O.Outputs.faults l.outputs target ≡ g.O.Outputs.faults l.fn.outputs target) ×
    (g.O.Outputs.shortages l.outputs ≡ g.O.Outputs.shortages l.fn.outputs) ×
    ((command : Command) → Begins g.S.Step.verb g.S.Step.represents command l.fn.self
    → Going g.S.Step.verb g.S.Step.represents command (g.I.Inputs.taken l.fn.inputs) (g.I.Inputs.contents l.fn.inputs) (g.I.Inputs.taken l.inputs) (g.I.Inputs.open_entry l.inputs) (g.O.Outputs.held l.fn.outputs) (g.O.Outputs.held l.outputs) l.self)

-- what the reader has left
abbrev pub decreases-loop-ended : goal.decreases-loop-ended
decreases-loop-ended g l = left l.self.reader
