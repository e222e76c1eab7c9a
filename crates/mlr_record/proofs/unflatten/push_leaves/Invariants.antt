use Rattle.std.proofs.Common.{◌≡◌, ◌++◌, drop}
use Rattle.mlr_record.specs.Paths.{ends}
use Rattle.mlr_record.proofs.unflatten.push_leaves.Given as goal

abbrev pub invariant-loop-place : goal.invariant-loop-place
invariant-loop-place l = l.into ++ ends (drop l.place l.map) ≡ ends l.map
