use Rattle.std.proofs.Common.{◌≡◌, take}
use Rattle.std.specs.List.{flat_map}
use Rattle.verbs_step.specs.Made.{outputs_for}
use Rattle.verbs_step.proofs.outputs.outputs.Given as goal

abbrev pub invariant-loop-name : goal.invariant-loop-name
invariant-loop-name l = l.outputs.items ≡ flat_map (outputs_for l.options.steppers) (take l.name-index l.options.names)
