use Rattle.std.proofs.Common.{◌≡◌, ◌++◌, take}
use Rattle.verbs_step.specs.Made.{outputs_for}
use Rattle.verbs_step.proofs.outputs.append_outputs.Given as goal

abbrev pub invariant-loop-stepper : goal.invariant-loop-stepper
invariant-loop-stepper l = l.outputs.items ≡ l.fn.outputs.items ++ outputs_for (take l.stepper-index l.steppers) l.name
