use Rattle.std.proofs.Common.{◌∙◌, ap, sym, refl, Some, None, arith}
use Rattle.std.proofs.lemmas.List.Sums.{prefix_len-le-length}
use Rattle.mlr_infer.proofs.Fractions.{is_decimal}
use Rattle.mlr_infer.proofs.Magnitudes.{of_whole, of_whole-digits, place_of_until}
use Rattle.mlr_infer.proofs.Rows.{no_bytes, kind_from_rows, first_row-after_digits, some_bytes}
use Rattle.mlr_infer.proofs.inference.after_sign.Goals as goal

pub returns-then-is_empty : goal.returns-then-is_empty
returns-then-is_empty c = sym (no_bytes c.args.octal c.args.negative c.args.text.now (sym c.is_empty.ensures ∙ c.if-is_empty.true))

pub returns-in-Some : goal.returns-in-Some
returns-in-Some c =
    c.whole.ensures
    ∙ kind_from_rows c.args.octal c.args.negative c.args.text.now (Some c.in-Some.magnitude) _ _ _
    c.in-Some.ensures refl refl refl

pub after_digits-requires : goal.after_digits-requires
after_digits-requires c =
    let text = c.args.text.now in
    let at_place = place_of_until 10 c.in-Until.place text c.in-Until.ensures in
    record { place = at_place; within = omega (arith, at_place, prefix_len-le-length is_decimal text) }

pub returns-in-Whole : goal.returns-in-Whole
returns-in-Whole c =
    let text = c.args.text.now in
    c.whole-in-Whole.ensures
    ∙ kind_from_rows c.args.octal c.args.negative text None (Some c.in-Whole.magnitude) _ _
    c.in_default.ensures (ap of_whole c.in-Whole.ensures ∙ of_whole-digits 10 text (some_bytes text (sym c.is_empty.ensures ∙ c.if-is_empty.false))) refl refl

pub returns-in-Until : goal.returns-in-Until
returns-in-Until c =
    let text = c.args.text.now in
    c.after_digits.ensures
    ∙ first_row-after_digits c.args.negative text
    ∙ kind_from_rows c.args.octal c.args.negative text None None _ _
    c.in_default.ensures (ap of_whole c.in-Until.ensures ∙ of_whole-digits 10 text (some_bytes text (sym c.is_empty.ensures ∙ c.if-is_empty.false))) refl refl
