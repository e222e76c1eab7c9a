use Rattle.std.proofs.Common.{◌≡◌, take}
use Rattle.verbs_step.proofs.step.Step.copy.Given as goal

abbrev pub invariant-loop-stepper : goal.invariant-loop-stepper
invariant-loop-stepper l = l.steppers ≡ take l.stepper-index l.self.steppers
