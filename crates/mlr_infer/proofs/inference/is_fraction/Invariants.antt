use Rattle.std.proofs.Common.{◌≡◌, false, drop}
use Rattle.mlr_infer.specs.Fraction.{fraction_from}
use Rattle.mlr_infer.proofs.inference.is_fraction.Given as goal

abbrev pub invariant-loop-i : goal.invariant-loop-i
invariant-loop-i l = fraction_from l.digits l.point (drop l.i l.text) ≡ fraction_from l.begun false l.text
