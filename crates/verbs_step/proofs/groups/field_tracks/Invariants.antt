use Rattle.std.proofs.Common.{◌≡◌, [], map, take}
use Rattle.verbs_step.specs.Kept.{kept, kept_of}
use Rattle.verbs_step.proofs.groups.field_tracks.Given as goal

abbrev pub invariant-loop-stepper : goal.invariant-loop-stepper
invariant-loop-stepper l = map kept l.tracks.items ≡ map (λ stepper. kept_of stepper []) (take l.stepper-index l.steppers)
