use Rattle.std.proofs.Common.{◌≡◌, take}
use Rattle.mlr_spec.specs.Pairs.{keys_of}
use Rattle.verbs_state.proofs.regularize.are_names.Given as goal

abbrev pub invariant-loop-place : goal.invariant-loop-place
invariant-loop-place l = take l.place l.names ≡ take l.place (keys_of l.fields)
