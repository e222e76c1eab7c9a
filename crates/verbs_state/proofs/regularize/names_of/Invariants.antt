use Rattle.std.proofs.Common.{◌≡◌, ◌++◌, drop}
use Rattle.mlr_spec.specs.Pairs.{keys_of}
use Rattle.verbs_state.proofs.regularize.names_of.Given as goal

-- the names so far with those of the remaining fields are the names of all fields
abbrev pub invariant-loop-place : goal.invariant-loop-place
invariant-loop-place l = l.names ++ keys_of (drop l.place l.fields) ≡ keys_of l.fields
