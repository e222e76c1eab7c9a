use Rattle.std.proofs.Common.{◌≡◌, drop}
use Rattle.mlr_infer.specs.Magnitude.{large_from}
use Rattle.mlr_infer.proofs.inference.large.Given as goal

abbrev pub invariant-loop-i : goal.invariant-loop-i
invariant-loop-i l = large_from l.base l.i (drop l.i l.text) ≡ large_from l.base l.start (drop l.start l.text)
