use Rattle.std.proofs.Common.{◌≡◌, [], take}
use Rattle.verbs_step.specs.Represents.{kept_for, kept_in}
use Rattle.verbs_step.proofs.groups.new_tracks.Given as goal

abbrev pub invariant-loop : goal.invariant-loop
invariant-loop l = kept_in l.tracks.items ≡ kept_for l.options.steppers (take l.index l.options.names) []
