use Rattle.std.proofs.Common.{◌≡◌, ◌<◌, ◌^◌, drop}
use Rattle.mlr_infer.specs.Magnitude.{digits_of, digits_from}
use Rattle.mlr_infer.proofs.inference.digits_of.Given as goal

abbrev pub invariant-loop-i : goal.invariant-loop-i
invariant-loop-i l = (digits_from l.base l.number l.i (drop l.i l.text) ≡ digits_of l.base l.text) × (l.number < 2 ^ 64)
