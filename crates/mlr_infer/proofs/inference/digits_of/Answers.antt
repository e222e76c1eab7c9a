use Rattle.std.proofs.Common.{◌+◌, get_or, drop, sym, ap, ◌∙◌, arith}
use Rattle.std.proofs.lemmas.List.{at_drop_more, at_drop_all}
use Rattle.mlr_infer.specs.declared.inference.Digits.TheVariants.{Whole}
use Rattle.mlr_infer.specs.Magnitude.{digits_from}
use Rattle.mlr_infer.proofs.Magnitudes.{digits_from-start, digits_from-too_large, bounded_word}
use Rattle.mlr_infer.proofs.inference.digits_of.Goals as goal

pub loop-i-init : goal.loop-i-init
loop-i-init c = (digits_from-start c.args.base c.args.text.now, omega arith)

pub returns-in_default : goal.returns-in_default
returns-in_default c =
    let text = c.args.text.now in
    let step = at_drop_more (digits_from c.args.base c.loop-i.number c.loop-i.i) text c.loop-i.i 0 (omega arith) in
    c.large.ensures
    ∙ sym (digits_from-too_large c.args.base c.loop-i.number c.loop-i.i c.digit_of-digit.result (get_or text c.loop-i.i 0) (drop (c.loop-i.i + 1) text)
    c.digit_of-digit.ensures c.if-digit-base.false c.in_default.ensures)
    ∙ sym step ∙ c.loop-i.invariant.0

pub returns : goal.returns
returns c =
    let text = c.args.text.now in
    let end = at_drop_all (digits_from c.args.base c.loop-i.number c.loop-i.i) text c.loop-i.i (omega arith) in
    ap Whole (sym (bounded_word c.loop-i.number c.loop-i.invariant.1)) ∙ sym end ∙ c.loop-i.invariant.0
