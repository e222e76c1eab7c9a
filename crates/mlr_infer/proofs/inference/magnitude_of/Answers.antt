use Rattle.std.proofs.Common.{◌∙◌, ap, arith}
use Rattle.std.proofs.lemmas.Grind.{common_steps}
use Rattle.mlr_infer.specs.Magnitude.{magnitude_of}
use Rattle.mlr_infer.proofs.Magnitudes.{of_whole, of_whole-digits}
use Rattle.mlr_infer.proofs.inference.magnitude_of.Goals as goal

pub returns-then-is_empty : goal.returns-then-is_empty
unfolding magnitude_of
returns-then-is_empty c = grind (arith, common_steps)

pub returns-in-Whole : goal.returns-in-Whole
returns-in-Whole c = ap of_whole c.in-Whole.ensures ∙ of_whole-digits c.args.base c.args.text.now (grind (arith, common_steps))

pub returns-in-Until : goal.returns-in-Until
returns-in-Until c = ap of_whole c.in-Until.ensures ∙ of_whole-digits c.args.base c.args.text.now (grind (arith, common_steps))
