use Rattle.std.proofs.Common.{◌∙◌, refl, true, false, Some, None}
use Rattle.mlr_infer.proofs.Fractions.{is_fraction-following}
use Rattle.mlr_infer.proofs.Rows.{after_digits-from}
use Rattle.mlr_infer.proofs.inference.after_digits.Goals as goal

pub returns-in-Some : goal.returns-in-Some
returns-in-Some c =
    c.word.ensures ∙ after_digits-from c.args.negative c.args.text.now (Some c.in-Some.magnitude) _ c.in-Some.ensures refl

pub returns-then-is_fraction : goal.returns-then-is_fraction
returns-then-is_fraction c =
    after_digits-from c.args.negative c.args.text.now None true c.in_default.ensures
    (is_fraction-following c.args.place c.args.text.now true c.requires.place c.if-is_fraction.ensures)

pub returns-else-is_fraction : goal.returns-else-is_fraction
returns-else-is_fraction c =
    after_digits-from c.args.negative c.args.text.now None false c.in_default.ensures
    (is_fraction-following c.args.place c.args.text.now false c.requires.place c.if-is_fraction.ensures)
